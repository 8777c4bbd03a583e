-- Schedules. A schedule is a list of rounds, given as its ids, all rounds joined, and the sizes of its rounds. Each round
-- is a non-empty list of rising ids; each due node stands in exactly one round and no other id stands in any.
--
--   sum zs              == the sizes zs added up
--   round_of zs i       == the number, from 1, of the round in which the index i lies
--   round_no ids zs v   == the number of the round in which the id v stands, 0 where it stands in none
--   Schedule o n ids zs == ids and zs are a well-formed schedule of the change from o to n
--   ScheduleFault o n mode ids zs r == the refusal r, 8 to 14, applies
use Rattle.std.specs.Prelude.{ℕ, suc, ◌+◌, ◌-◌, ◌<◌, ◌≤◌, ◌≡◌, true, false, cond, List, [], ◌∷◌, length, get_or, ltb}
use Rattle.house.specs.declared.Refusal.{Refusal}
use Rattle.house.specs.declared.Refusal.TheVariants.{ModeOver, SizesSum, RoundEmpty, NotRising, NotDue, Again, Missing}
use Rattle.routes.specs.Rules.{due}
use Rattle.routes.specs.Jumps.{position, on}

unfoldable pub sum : List ℕ → ℕ
sum [] = 0
sum (z ∷ zs) = z + sum zs

unfoldable pub round_of : List ℕ → ℕ → ℕ
round_of [] i = 1
round_of (z ∷ zs) i = cond (ltb i z) 1 (suc (round_of zs (i - z)))

unfoldable pub round_no : List ℕ → List ℕ → ℕ → ℕ
unfolding round_of
round_no ids zs v = cond (on ids v) (round_of zs (position ids v)) 0

pub data ScheduleFault (o n : List ℕ) (mode : ℕ) (ids zs : List ℕ) : Refusal → Type 0 where
  mode_over : 1 < mode → ScheduleFault o n mode ids zs ModeOver
  sum_differs : (sum zs ≡ length ids → ⊥) → ScheduleFault o n mode ids zs SizesSum
  empty : {t i : ℕ} → t ≡ suc i → i < length zs → get_or zs i 0 ≡ 0 → ScheduleFault o n mode ids zs (RoundEmpty t)
  not_rising :
      {t i j : ℕ}
      → i ≡ suc j
      → i < length ids
      → t ≡ round_of zs i
      → round_of zs j ≡ round_of zs i
      → get_or ids i 0 ≤ get_or ids j 0
      → ScheduleFault o n mode ids zs (NotRising t i)
  not_due :
      {t i : ℕ} → i < length ids → t ≡ round_of zs i → due o n (get_or ids i 0) ≡ false → ScheduleFault o n mode ids zs (NotDue t i)
  again :
      {t i j : ℕ}
      → i < length ids
      → t ≡ round_of zs i
      → j < length ids
      → round_of zs j < t
      → get_or ids j 0 ≡ get_or ids i 0
      → ScheduleFault o n mode ids zs (Again t i)
  missing :
      {v : ℕ}
      → due o n v ≡ true
      → ((i : ℕ) → i < length ids → get_or ids i 0 ≡ v → ⊥)
      → ScheduleFault o n mode ids zs (Missing v)

pub record Schedule (o n ids zs : List ℕ) : Type 0 where
  pub sums : sum zs ≡ length ids
  pub sizes : (i : ℕ) → i < length zs → 0 < get_or zs i 0
  pub rising : (j i : ℕ) → j < i → i < length ids → round_of zs j ≡ round_of zs i → get_or ids j 0 < get_or ids i 0
  pub are_due : (i : ℕ) → i < length ids → due o n (get_or ids i 0) ≡ true
  pub once : (j i : ℕ) → j < i → i < length ids → get_or ids j 0 ≡ get_or ids i 0 → ⊥
  pub all_due : (v : ℕ) → due o n v ≡ true → on ids v ≡ true
