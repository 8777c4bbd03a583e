-- The tests of a schedule, one for each of the refusals 8 to 14, and what the functions that make one of them answer.
--
--   Located zs i k left == the first k sizes add up to the index i less `left`, and the next one, where there is one, exceeds
--                      `left`
--   Fitting ids zs  == the sizes zs add up to the ids given, and no round is empty
--   Falls ids zs i  == the id at index i is not above the one before it in its round
--   Stray m ids i   == the id at index i has no mark in m
--   Lost m ids v    == v has its mark in m and is none of the ids
--   Unplaced m ids l == the marks l are those of the marks m whose nodes are none of the ids
--   Answers F a     == a is the reply of judging by the refusals F
use Rattle.std.specs.Prelude.{ℕ, suc, ◌+◌, ◌<◌, ◌≤◌, ◌≡◌, Bool, true, false, List, length, get_or, take, Result, Ok, Err}
use Rattle.house.specs.declared.Refusal.{Refusal}
use Rattle.house.specs.Refusals.{First, Clear}
use Rattle.rounds.specs.Schedule.{sum, round_of}

pub record Located (zs : List ℕ) (i k left : ℕ) : Type 0 where
  pub within : k ≤ length zs
  pub parts : sum (take k zs) + left ≡ i
  pub inside : k < length zs → left < get_or zs k 0

pub record Fitting (ids zs : List ℕ) : Type 0 where
  pub sums : sum zs ≡ length ids
  pub sizes : (i : ℕ) → i < length zs → 0 < get_or zs i 0

pub record Falls (ids zs : List ℕ) (i : ℕ) : Type 0 where
  pub last : ℕ
  pub next : i ≡ suc last
  pub together : round_of zs last ≡ round_of zs i
  pub not_above : get_or ids i 0 ≤ get_or ids last 0

pub record Stray (m : List Bool) (ids : List ℕ) (i : ℕ) : Type 0 where
  pub unmarked : get_or m (get_or ids i 0) false ≡ false

pub record Lost (m : List Bool) (ids : List ℕ) (v : ℕ) : Type 0 where
  pub marked : get_or m v false ≡ true
  pub nowhere : (i : ℕ) → i < length ids → get_or ids i 0 ≡ v → ⊥

pub record Unplaced (m : List Bool) (ids : List ℕ) (l : List Bool) : Type 0 where
  pub size : length l ≡ 512
  pub lost : (v : ℕ) → get_or l v false ≡ true → Lost m ids v
  pub left : (v : ℕ) → Lost m ids v → get_or l v false ≡ true

pub data Answers (F : Refusal → Type 0) : Result (Unit {0}) Refusal → Type 0 where
  sound : Clear F → Answers F (Ok tt)
  faulty : {r : Refusal} → First F r → Answers F (Err r)
