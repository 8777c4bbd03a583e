-- Sets of ids. A set of nodes is eight 64-bit words: id i is bit i mod 64 of word i / 64. Its size is its number of ones.
--
--   bit w i        == bit i of the number w is one
--   has ws i       == the id i is in the set ws
--   put ws i       == the set ws together with the id i; ws itself where it has no word for i
--   size ws        == the number of ones of the words ws
--   count_below n f == the number of i below n where f is true
--   Lowest ws from r == r is the lowest id in the set ws that is not below `from`, or 512 where there is none
use Rattle.std.specs.Prelude.{ℕ, zero, suc, ◌+◌, ◌/◌, ◌%◌, ◌^◌, ◌<◌, ◌≤◌, ◌≡◌, Bool, true, false, cond, List, [], ◌∷◌, get_or, set, eqb}
use Rattle.std.specs.Int.Count.{ones}

unfoldable pub bit : ℕ → ℕ → Bool
bit w i = eqb (w / 2 ^ i % 2) 1

unfoldable pub has : List ℕ → ℕ → Bool
unfolding bit
has ws i = bit (get_or ws (i / 64) 0) (i % 64)

unfoldable pub put : List ℕ → ℕ → List ℕ
unfolding has
put ws i = cond (has ws i) ws (set ws (i / 64) (get_or ws (i / 64) 0 + 2 ^ (i % 64)))

unfoldable pub size : List ℕ → ℕ
size [] = 0
size (w ∷ ws) = ones w + size ws

unfoldable pub count_below : ℕ → (ℕ → Bool) → ℕ
count_below zero f = 0
count_below (suc n) f = cond (f n) (suc (count_below n f)) (count_below n f)

pub record Lowest (ws : List ℕ) (from r : ℕ) : Type 0 where
  pub within : r ≤ 512
  pub none_before : (k : ℕ) → from ≤ k → k < r → has ws k ≡ false
  pub found : r < 512 → (from ≤ r) × (has ws r ≡ true)
