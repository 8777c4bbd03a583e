-- Where no walk comes back. In a law p and q are a good pair. Assumes nothing.
--
-- Each node on q has an anchor: the position on p of the first node at or after it along q that is on p. Nodes that go along
-- p, or along q while they are off p, or along q from a node of p that leaps, climb: the anchor never falls; where it stays,
-- the position on q rises, or p is come to.
--
--   Climbs p q x y       == x goes to y in one of these three ways
--   height p q x         == 256 times the anchor of x, and then its position on q, or 255 where x is on p
--   climbs_higher        == what climbs comes higher
--   climb_passes         == a round of switches passes, in both modes, if each of its steps from node to node climbs
--   forwards_pass        == after the installs a round of forward switches alone passes
--   backwards_pass       == where no switch is BB, after these a round of backward switches alone passes
use Prim.Native.Nat.{ℕ, suc, ◌+◌, ◌*◌, ◌<◌, ◌≤◌}
use native.Mathlib.Omega.{arith}
use native.Mathlib.Decide.{dec_lt}
use mathlib.Core.Path.{◌≡◌, sym, ap, ◌∙◌}
use mathlib.Core.Bool.{true, false}
use mathlib.Core.List.{List}
use mathlib.Core.Logic.{◌⊎◌, inl, inr, ⊎_elim, ite}
use mathlib.Core.Option.{Option, none, some}
use lib.ListN.{length, get_or, drop}
use Rattle.graph.proofs.Rank.{rank_nodes}
use Rattle.routes.specs.Routes.{Good}
use Rattle.routes.specs.Rules.{value}
use Rattle.routes.specs.Jumps.{position, first_on}
use Rattle.routes.specs.Walk.{State}
use Rattle.routes.proofs.JumpLaws.{position_at, position_on, position_off, first_on_past, first_on_here, meeting_is}
use Rattle.routes.proofs.RuleLaws.{good_swap}
use Rattle.rounds.specs.States.{Fault, a_drop, a_loop}
use Rattle.rounds.proofs.Bridge.{Finds}
use Rattle.plans.specs.Plan.{RoundPasses, together, is_install, is_switch, installs, removes, switched}
use Rattle.plans.specs.TwoBetween.{forwards, backwards, NoneBack}
use Rattle.plans.specs.Working.{round_choice}
use Rattle.plans.proofs.IdLists.{by_bool, clash, or_left, or_right, either_or, no_or}
use Rattle.plans.proofs.NodeLaws.{On, on_value, onward_next, Kind, kept, install, remove, switch, kind, install_values}
use Rattle.plans.proofs.PlanSets.{install_only, switch_only}
use Rattle.plans.proofs.PlanPaths.{passes_finds, acyclic_finds, Goes, by_new, by_old, step_goes}
use Rattle.plans.proofs.Middles.{Midway, midway_no_drop}
use Rattle.plans.proofs.Signs.{Leaps, switch_jumps, forward_switch, backward_switch, forward_leaps, backward_leaps, halves}

pub data Climbs (p q : List ℕ) (x y : ℕ) : Type 0 where
  along : value p x ≡ y → Climbs p q x y
  across : (On p x → ⊥) → value q x ≡ y → Climbs p q x y
  leaping : On p x → Leaps p q x → value q x ≡ y → Climbs p q x y

abbrev anchor_of : List ℕ → Option ℕ → ℕ
anchor_of p none = 0
anchor_of p (some w) = position p w

height_at : (p q : List ℕ) (x : ℕ) → Dec (On p x) → ℕ
height_at p q x d =
    ite d (256 * position p x + 255) (256 * anchor_of p (first_on p (drop (position q x) q)) + position q x)

abbrev height : List ℕ → List ℕ → ℕ → ℕ
height p q x = height_at p q x (dec_lt (position p x) (length p))

module _ {p q : List ℕ} (g : Good p q) where
  -- a step along q comes at least to the anchor of the place after x
  lands :
      (x y : ℕ)
      → value q x ≡ y
      → y < 512
      → (e : Dec (On p y))
      → 256 * anchor_of p (first_on p (drop (suc (position q x)) q)) + suc (position q x) ≤ height_at p q y e
  unfolding height_at
  lands x y v h e = go e
    where
      next : (position q y ≡ suc (position q x)) × (suc (position q x) < length q)
      next = rw v at (onward_next g.new x (omega arith))

      there : get_or q (suc (position q x)) 0 ≡ y
      there = rw next.0 at (position_at q y (omega (arith, next)))

      go : (e : Dec (On p y)) → 256 * anchor_of p (first_on p (drop (suc (position q x)) q)) + suc (position q x) ≤ height_at p q y e
      go (yes k) =
          rw (first_on_here p q (suc (position q x)) next.1 (rw there (position_on p y k)), there)
          (omega (arith, next.1, g.new.most))
      go (no k) = rw next.0 (omega arith)

  climbs_higher : (x y : ℕ) → Climbs p q x y → y < 512 → (d : Dec (On p x)) (e : Dec (On p y)) → height_at p q x d < height_at p q y e
  unfolding height_at
  climbs_higher x y (along v) h d e = go d e
    where
      next : (position p y ≡ suc (position p x)) × (suc (position p x) < length p)
      next = rw v at (onward_next g.old x (omega arith))

      go : (d : Dec (On p x)) (e : Dec (On p y)) → height_at p q x d < height_at p q y e
      go (yes a) (yes b) = omega (arith, next.0)
      go (yes a) (no b) = absurd (b (omega (arith, next)))
      go (no a) e = absurd (a (omega (arith, next.1)))
  climbs_higher x y (across f v) h (yes a) e = absurd (f a)
  climbs_higher x y (across f v) h (no a) e =
      let l : suc (position q x) < length q = (onward_next g.new x (omega arith)).1 in
      let s : get_or q (position q x) 0 ≡ x = position_at q x (omega arith) in
      rw (first_on_past p q (position q x) (omega arith) (rw s (position_off p x (omega arith))))
      (omega (arith, lands x y v h e))
  climbs_higher x y (leaping a l v) h (yes b) e =
      let m = sym (meeting_is q p x) ∙ l.met.meets in
      omega (arith, l.further, rw m at (lands x y v h e))
  climbs_higher x y (leaping a l v) h (no b) e = absurd (b a)

pub climb_passes :
    {o n p q : List ℕ} {P R : State}
    → Good o n
    → Good p q
    → Midway o n P R
    → ((x y : ℕ) → Goes o n P R x y → y < 512 → Climbs p q x y)
    → (mode : ℕ)
    → RoundPasses mode o n P R
climb_passes {o} {n} {p} {q} {P} {R} g k m climbs mode = (passes_finds g mode P R).1 none
  where
    none : (f : Fault) → Finds f mode o n (round_choice P R) → ⊥
    none a_drop Q = midway_no_drop g m Q
    none a_loop x =
        acyclic_finds mode o n (round_choice P R)
        (rank_nodes (value o) (value n) (round_choice P R) (height p q)
        (λ x y s h. climbs_higher k x y (climbs x y (step_goes o n P R s) h) h (dec_lt (position p x) (length p)) (dec_lt (position p y) (length p))))
        x

module _ {o n : List ℕ} (g : Good o n) where
  -- no remove is an install or a switch
  not_removed :
      (S : State)
      → ((v : ℕ) → S v ≡ true → (installs o n v ≡ true) ⊎ (switched o n v ≡ true))
      → (v : ℕ)
      → removes o n v ≡ true
      → S v ≡ false
  not_removed S f v e =
      by_bool (S v)
      (λ h. ⊎_elim (λ i. clash (or_right (switched o n v) e) (install_only o n v i)) (λ s. clash e (switch_only o n v s)) (f v h))
      (λ h. h)

  pub forwards_pass :
      (R : State) → ((v : ℕ) → R v ≡ true → forwards o n v ≡ true) → (mode : ℕ) → RoundPasses mode o n (installs o n) R
  forwards_pass R f = climb_passes g g midway climbs
    where
      midway : Midway o n (installs o n) R
      midway =
          record {
            installed = λ v e. e;
            not_removed =
                not_removed (together (installs o n) R)
                (λ v e. ⊎_elim inl (λ h. inr (forward_switch o n v (f v h))) (either_or (installs o n v) (R v) e));
          }

      climbs : (x y : ℕ) → Goes o n (installs o n) R x y → y < 512 → Climbs o n x y
      climbs x y (by_old h e q) k = along q
      climbs x y (by_new h e q) k =
          ⊎_elim (λ i. across (λ a. on_value g.old x a (install_values g x i).0) q)
          (λ r. leaping (switch_jumps g x (forward_switch o n x (f x r))).on_old (forward_leaps g x (f x r)) q)
          (either_or (installs o n x) (R x) e)

  pub backwards_pass :
      NoneBack o n
      → (R : State)
      → ((v : ℕ) → R v ≡ true → backwards o n v ≡ true)
      → (mode : ℕ)
      → RoundPasses mode o n (together (installs o n) (forwards o n)) R
  unfolding installs
  backwards_pass b R f = climb_passes g (good_swap g) midway climbs
    where
      P : State
      P = together (installs o n) (forwards o n)

      midway : Midway o n P R
      midway =
          record {
            installed = λ v e. or_left (forwards o n v) e;
            not_removed =
                not_removed (together P R)
                (λ v e.
                ⊎_elim (λ h. ⊎_elim inl (λ k. inr (forward_switch o n v k)) (either_or (installs o n v) (forwards o n v) h))
                (λ h. inr (backward_switch o n v (f v h))) (either_or (P v) (R v) e));
          }

      climbs : (x y : ℕ) → Goes o n P R x y → y < 512 → Climbs n o x y
      climbs x y (by_new h e q) k = along q
      climbs x y (by_old h e q) k = go (kind g x)
        where
          neither : (installs o n x ≡ false) × (forwards o n x ≡ false)
          neither = no_or (installs o n x) (forwards o n x) e

          go : Kind o n x → Climbs n o x y
          go (kept i c) = along (sym i ∙ q)
          go (install a b c) = clash (ap is_install c) neither.0
          go (remove a z c) = across (λ w. on_value g.new x w z) q
          go (switch a z c) =
              let s : switched o n x ≡ true = ap is_switch c in
              leaping (switch_jumps g x s).on_new
              (backward_leaps g x b (⊎_elim (λ w. clash w neither.1) (λ w. w) (halves o n x s))) q
