-- What the quick planner's parts promise one another.
--
--   Places l t i       == the table t holds the positions of the first i ids of the route l, and None for every other node
--   Forward p q m i    == of the nodes that don't stand before index i on q the marks m hold those with a positive jump in the
--                         order of p; of the others none is marked
--   signed a b m t     == the switches whose mark in m is t
--   Back a b x y v     == v is a switch that is marked neither in x nor in y
--   four_rounds a b m  == the rounds of the quick plan, where m marks the switches that go forward
--
-- a and b are the tables of next values on the old and the new route.
use Rattle.std.specs.Prelude.{ℕ, ◌<◌, ◌≤◌, ◌≡◌, Bool, true, false, ◌&&◌, List, ◌++◌, length, get_or, Option, Some, None}
use Rattle.std.specs.Bool.{beq}
use Rattle.routes.specs.declared.rule.Change.TheVariants.{Switch}
use Rattle.routes.specs.Rules.{change_of}
use Rattle.routes.specs.Jumps.{position, jump}
use Rattle.routes.specs.Walk.{State}
use Rattle.plans.specs.Plan.{some_round}
use Rattle.plans.specs.TwoBetween.{positive}
use Rattle.plans.specs.Working.{coded}

pub record Places (l : List ℕ) (t : List (Option ℕ)) (i : ℕ) : Type 0 where
  pub size : length t ≡ 512
  pub at : (v : ℕ) → position l v < i → get_or t v None ≡ Some (position l v)
  pub off : (v : ℕ) → i ≤ position l v → get_or t v None ≡ None

pub record Forward (p q : List ℕ) (m : List Bool) (i : ℕ) : Type 0 where
  pub size : length m ≡ 512
  pub at : (v : ℕ) → i ≤ position q v → get_or m v false ≡ positive (jump p q v)
  pub before : (v : ℕ) → position q v < i → get_or m v false ≡ false

abbrev pub signed : List ℕ → List ℕ → List Bool → Bool → State
signed a b m t v = coded a b 3 v && beq (get_or m v false) t

pub record Back (a b : List ℕ) (x y : List Bool) (v : ℕ) : Type 0 where
  pub switch : change_of (get_or a v 512) (get_or b v 512) ≡ Switch
  pub not_first : get_or x v false ≡ false
  pub not_second : get_or y v false ≡ false

unfoldable pub four_rounds : List ℕ → List ℕ → List Bool → List State
four_rounds a b m =
    some_round (coded a b 1)
    ++ (some_round (signed a b m true) ++ (some_round (signed a b m false) ++ some_round (coded a b 2)))
