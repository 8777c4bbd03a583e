-- The signs of the jumps of a switch, and what they say of its next meeting nodes. In a law p is the route in whose order a
-- jump is, q the other one. Assumes nothing.
--
--   Leaps p q v          == v's next meeting node along q stands further on p than v
--   Returns p q v        == it stands before v there
--   Turn p q v           == one of the two, with the sign of the jump
--   turn                 == of a good pair, each node that has a jump
--   switch_jumps         == a switch has a jump
--   forward_switch, backward_switch == forward and backward switches are switches
--   forward_leaps        == a forward switch leaps in the order of the old route
--   backward_returns     == any other switch returns there
--   backward_leaps       == and where no switch is BB, leaps in the order of the new route
--   both_return          == a switch that is BB returns in both orders
--   halves               == a switch is forward or backward; forward_only == and not both
use Prim.Native.Nat.{ℕ, zero, suc, ◌+◌, ◌<◌}
use native.Mathlib.Omega.{arith}
use mathlib.Core.Path.{◌≡◌, refl, sym, ap, ◌∙◌}
use mathlib.Core.Bool.{Bool, true, false, not, ◌&&◌}
use mathlib.Core.List.{List}
use mathlib.Core.Logic.{◌⊎◌, inl, inr}
use mathlib.Core.Option.{Option, some}
use lib.Dec.{ltb}
use lib.IntN.{ℤ, pos, ◌-ℤ◌}
use borrow.Author.Tests.{ltb-true}
use Rattle.routes.specs.Routes.{Good}
use Rattle.routes.specs.Rules.{value}
use Rattle.routes.specs.Jumps.{position, jump, Ranged}
use Rattle.routes.proofs.JumpLaws.{HasJump, jump_has, has_swap, Met, meets, jump_met, jump_range}
use Rattle.routes.proofs.RuleLaws.{value_destination, good_swap}
use Rattle.plans.specs.Plan.{switched}
use Rattle.plans.specs.TwoBetween.{positive, negative, forwards, backwards, both_back, NoneBack}
use Rattle.plans.proofs.IdLists.{by_bool, clash}
use Rattle.plans.proofs.NodeLaws.{onward_next, switch_values}

pub record Leaps (p q : List ℕ) (v : ℕ) : Type 0 where
  pub node : ℕ
  pub met : Met p q v node
  pub further : position p v < position p node

pub record Returns (p q : List ℕ) (v : ℕ) : Type 0 where
  pub node : ℕ
  pub met : Met p q v node
  pub before : position p node < position p v

pub data Turn (p q : List ℕ) (v : ℕ) : Type 0 where
  leaps : Leaps p q v → positive (jump p q v) ≡ true → negative (jump p q v) ≡ false → Turn p q v
  returns : Returns p q v → positive (jump p q v) ≡ false → negative (jump p q v) ≡ true → Turn p q v

-- ---- the sign of a difference

data Signed (a b : ℕ) (z : Option ℤ) : Type 0 where
  above : b < a → positive z ≡ true → negative z ≡ false → Signed a b z
  below : a < b → positive z ≡ false → negative z ≡ true → Signed a b z

some_above : (a b k : ℕ) → (0 < k → b < a) → Ranged (pos k) → Signed a b (some (pos k))
some_above a b zero f r = absurd (omega (arith, r.0))
some_above a b (suc k) f r = above (f (omega arith)) refl refl

signed : (a b : ℕ) → Ranged (pos a -ℤ pos b) → Signed a b (some (pos a -ℤ pos b))
signed a zero r = some_above a 0 (a + 0) (λ h. omega arith) r
signed a (suc b) r =
    by_bool (ltb a (suc b)) (λ e. rw e (below (ltb-true a (suc b) e) refl refl))
    (λ e. rw e (some_above a (suc b) _ (λ h. omega arith) (rw e at r)))

pub turn : {p q : List ℕ} {v : ℕ} → Good p q → HasJump p q v → Turn p q v
turn {p} {q} {v} g h = go (meets g h)
  where
    go : (w : ℕ) × Met p q v w → Turn p q v
    go (w, m) = side (signed (position p w) (position p v) (jump_range g v (jump_has h) (jump_met m)))
      where
        side : Signed (position p w) (position p v) (some (pos (position p w) -ℤ pos (position p v))) → Turn p q v
        side (above k x y) =
            leaps (record { node = w; met = m; further = k }) (ap positive (jump_met m) ∙ x) (ap negative (jump_met m) ∙ y)
        side (below k x y) =
            returns (record { node = w; met = m; before = k }) (ap positive (jump_met m) ∙ x) (ap negative (jump_met m) ∙ y)

turn_returns : {p q : List ℕ} {v : ℕ} → Turn p q v → positive (jump p q v) ≡ false → Returns p q v
turn_returns (leaps l x y) e = clash x e
turn_returns (returns l x y) e = l

-- ---- switches

both : (a b : Bool) → (a && b) ≡ true → (a ≡ true) × (b ≡ true)
both true b e = (refl, e)
both false b e = clash e refl

not_false : (a : Bool) → not a ≡ true → a ≡ false
not_false true e = sym e
not_false false e = refl

pub switch_jumps : {o n : List ℕ} → Good o n → (v : ℕ) → switched o n v ≡ true → HasJump o n v
switch_jumps {o} {n} g v s =
    let x = switch_values g v s in
    record {
      on_old = omega (arith, (onward_next g.old v x.0).1);
      on_new = omega (arith, (onward_next g.new v x.1).1);
      no_end = λ e. let z : value o v ≡ 513 = rw e (value_destination g.old) in omega (arith, x.0);
    }

pub halves : (o n : List ℕ) (v : ℕ) → switched o n v ≡ true → (forwards o n v ≡ true) ⊎ (backwards o n v ≡ true)
unfolding forwards backwards
halves o n v s = by_bool (positive (jump o n v)) (λ e. inl (rw (s, e))) (λ e. inr (rw (s, e)))

pub forward_only : (o n : List ℕ) (v : ℕ) → forwards o n v ≡ true → backwards o n v ≡ false
unfolding forwards backwards
forward_only o n v e = let x = both (switched o n v) (positive (jump o n v)) e in rw (x.0, x.1)

pub forward_switch : (o n : List ℕ) (v : ℕ) → forwards o n v ≡ true → switched o n v ≡ true
unfolding forwards
forward_switch o n v e = (both (switched o n v) (positive (jump o n v)) e).0

pub backward_switch : (o n : List ℕ) (v : ℕ) → backwards o n v ≡ true → switched o n v ≡ true
unfolding backwards
backward_switch o n v e = (both (switched o n v) (not (positive (jump o n v))) e).0

module _ {o n : List ℕ} (g : Good o n) (v : ℕ) where
  old_turn : switched o n v ≡ true → Turn o n v
  old_turn s = turn g (switch_jumps g v s)

  new_turn : switched o n v ≡ true → Turn n o v
  new_turn s = turn (good_swap g) (has_swap g (switch_jumps g v s))

  pub forward_leaps : forwards o n v ≡ true → Leaps o n v
  unfolding forwards
  forward_leaps e = go (old_turn (forward_switch o n v e))
    where
      go : Turn o n v → Leaps o n v
      go (leaps l x y) = l
      go (returns l x y) = clash (both (switched o n v) (positive (jump o n v)) e).1 x

  pub backward_returns : backwards o n v ≡ true → Returns o n v
  unfolding backwards
  backward_returns e =
      turn_returns (old_turn (backward_switch o n v e))
      (not_false (positive (jump o n v)) (both (switched o n v) (not (positive (jump o n v))) e).1)

  pub backward_leaps : NoneBack o n → backwards o n v ≡ true → Leaps n o v
  unfolding backwards both_back
  backward_leaps k e = go (old_turn s) (new_turn s)
    where
      s : switched o n v ≡ true
      s = backward_switch o n v e

      go : Turn o n v → Turn n o v → Leaps n o v
      go (leaps l x y) t = clash (both (switched o n v) (not (positive (jump o n v))) e).1 (rw x)
      go (returns l x y) (leaps m a b) = m
      go (returns l x y) (returns m a b) = absurd (k.none_back v (rw (s, y, b)))

  pub both_return : both_back o n v ≡ true → (switched o n v ≡ true) × Returns o n v × Returns n o v
  unfolding both_back
  both_return e =
      let x = both (switched o n v) (negative (jump o n v) && negative (jump n o v)) e in
      let y = both (negative (jump o n v)) (negative (jump n o v)) x.1 in
      (x.0, back (old_turn x.0) y.0, back (new_turn x.0) y.1)
    where
      back : {p q : List ℕ} → Turn p q v → negative (jump p q v) ≡ true → Returns p q v
      back (leaps l a b) f = clash f b
      back (returns l a b) f = l
