-- What the parts of the walk promise, over tables of next values.
--
--   next_in a b X v == the next value of v in the state X; a is the table of the old route and b that of the new
--   rule_of t v     == the rule that the next value of v stands for: an id is a rule, anything above 511 is none
--   Goes t s a      == a is what the walk from s by the next values t comes to, as `Walks`: it has arrived where the next
--                     value is 513 (handed off), and is dropped where it is any other above 511
--   Stray ws m i    == the id i is in the set ws and isn't marked in m
use Rattle.std.specs.Prelude.{ℕ, ◌<◌, ◌≡◌, Bool, true, false, cond, List, get_or, ltb}
use Rattle.std.proofs.Math.Option.{Option, none, some}
use Rattle.house.specs.Sets.{has}
use Rattle.routes.specs.Walk.{State, place, Twice}
use Rattle.routes.specs.declared.walk.Walked.{Walked}
use Rattle.routes.specs.declared.walk.Walked.TheVariants.{Arrived, Dropped, Looped}

abbrev pub next_in : List ℕ → List ℕ → State → ℕ → ℕ
next_in a b X v = cond (X v) (get_or b v 0) (get_or a v 0)

abbrev pub rule_of : (ℕ → ℕ) → ℕ → Option ℕ
rule_of t v = cond (ltb (t v) 512) (some (t v)) none

pub data Goes (t : ℕ → ℕ) (s : ℕ) : Walked → Type 0 where
  arrived : {v k : ℕ} → place (rule_of t) s k ≡ some v → t v ≡ 513 → Goes t s (Arrived k)
  dropped : {v k : ℕ} → place (rule_of t) s k ≡ some v → (t v ≡ 513 → ⊥) → 511 < t v → Goes t s (Dropped v k)
  looped :
      {v k : ℕ}
      → Twice (rule_of t) s v k
      → ((u m : ℕ) → m < k → Twice (rule_of t) s u m → ⊥)
      → Goes t s (Looped v k)

pub record Stray (ws : List ℕ) (m : List Bool) (i : ℕ) : Type 0 where
  pub member : has ws i ≡ true
  pub unmarked : get_or m i false ≡ false
