-- The switches in two rounds: going through them once after the installs the forward ones join and the backward ones wait,
-- and where no switch is BB these join next. Assumes nothing.
--
--   halved               == going through the nodes vs, those of h wait and all others join, if a round passes that has none
--                           of h, and none that has one
--   first_half           == of all switches after the installs: the forward ones join
--   second_half          == of those that wait, where no switch is BB: all join
--   some_has, some_none  == a round that has an id is there, and one that has none is not
--   some_middle          == the rounds of the switches, a first round in front, which may have no id
--   forwards_below, backwards_below == the forward and the backward switches are ids
use Prim.Native.Nat.{ℕ}
use native.Mathlib.Omega.{arith}
use mathlib.Core.Path.{◌≡◌, refl, sym, subst, fun_ext, ◌∙◌}
use mathlib.Core.Bool.{Bool, true, false, not, ◌&&◌, and-true, and-false}
use mathlib.Core.List.{List, [], ◌∷◌, ◌++◌}
use mathlib.Core.Logic.{⊎_elim}
use lib.ListN.{length}
use lib.Dec.{eqb}
use borrow.Author.Tests.{eqb-true}
use Rattle.routes.specs.Routes.{Good}
use Rattle.routes.specs.Jumps.{on}
use Rattle.routes.specs.Walk.{State}
use Rattle.routes.proofs.RuleLaws.{due_below}
use Rattle.rounds.specs.Packet.{changed}
use Rattle.plans.specs.Plan.{
  RoundPasses,
  Joining,
  all_tried,
  joins,
  waits,
  nothing,
  together,
  Middle,
  all_placed,
  a_round,
  installs,
  switched,
  keep,
  switches,
  rising,
  some_of,
  some_round,
}
use Rattle.plans.specs.TwoBetween.{forwards, backwards, NoneBack}
use Rattle.plans.proofs.IdLists.{by_bool, clash, on_nil, on_first, on_rest, on_keep, Distinct, distinct_keep}
use Rattle.plans.proofs.RisingIds.{Below, on_rising, none_rising}
use Rattle.plans.proofs.PlanSets.{joining_member, on_switches, switches_distinct, switch_due}
use Rattle.plans.proofs.Middles.{Waiting, waiting_fewer}
use Rattle.plans.proofs.Signs.{halves, forward_only, forward_switch, backward_switch}
use Rattle.plans.proofs.Climb.{forwards_pass, backwards_pass}
use Rattle.plans.proofs.Stuck.{backward_stuck}

-- ---- once through the nodes

module _
    {mode : ℕ} {o n : List ℕ} {P : State} (f h : State)
    (may : (R : State) → ((v : ℕ) → R v ≡ true → f v ≡ true) → RoundPasses mode o n P R)
    (may_not : (v : ℕ) → h v ≡ true → (R : State) → RoundPasses mode o n P (changed R v) → ⊥)
  where
    through :
        (vs : List ℕ)
        → ((v : ℕ) → on vs v ≡ true → h v ≡ false → f v ≡ true)
        → (R : State)
        → ((v : ℕ) → R v ≡ true → f v ≡ true)
        → (R' : State) × Joining mode o n P vs R R' (keep h vs)
    unfolding keep
    through [] k R r = (R, all_tried)
    through (v ∷ vs) k R r =
        by_bool (h v)
        (λ e. let x = through vs rest R r in rw e (x.0, waits (may_not v e R) x.1))
        (λ e. let x = through vs rest (changed R v) (more e) in rw e (x.0, joins (may (changed R v) (more e)) x.1))
      where
        rest : (u : ℕ) → on vs u ≡ true → h u ≡ false → f u ≡ true
        rest u m = k u (on_rest v vs u m)

        more : h v ≡ false → (u : ℕ) → changed R v u ≡ true → f u ≡ true
        more e u m =
            by_bool (eqb u v) (λ z. rw (eqb-true u v z) (k v (on_first v vs) e)) (λ z. r u (rw z at m))

    pub halved :
        (vs : List ℕ)
        → Distinct vs
        → ((v : ℕ) → on vs v ≡ true → h v ≡ false → f v ≡ true)
        → (S : State)
        → ((v : ℕ) → (on vs v && not (h v)) ≡ S v)
        → Joining mode o n P vs nothing S (keep h vs)
    halved vs d k S e = go (through vs k nothing (λ v z. clash z refl))
      where
        same : (a b : Bool) → (a && not (a && b)) ≡ (a && not b)
        same true b = refl
        same false b = refl

        go : (R : State) × Joining mode o n P vs nothing R (keep h vs) → Joining mode o n P vs nothing S (keep h vs)
        go (R, j) =
            subst (λ (Q : State). Joining mode o n P vs nothing Q (keep h vs))
            (fun_ext (λ v. joining_member j d v ∙ rw (on_keep h vs v) (same (on vs v) (h v) ∙ e v))) j

keep_none : (vs : List ℕ) → keep nothing vs ≡ []
unfolding keep
keep_none [] = refl
keep_none (v ∷ vs) = keep_none vs

module _ {o n : List ℕ} (g : Good o n) (mode : ℕ) where
  pub first_half : Joining mode o n (installs o n) (switches o n) nothing (forwards o n) (keep (backwards o n) (switches o n))
  first_half =
      halved (forwards o n) (backwards o n) (λ R f. forwards_pass g R f mode)
      (λ v e R. backward_stuck g v e R mode) (switches o n) (switches_distinct o g.new)
      (λ v m e. forward v (sym (on_switches o n v) ∙ m) e) (forwards o n) parts
    where
      forward : (v : ℕ) → switched o n v ≡ true → backwards o n v ≡ false → forwards o n v ≡ true
      forward v s e = ⊎_elim (λ x. x) (λ x. clash x e) (halves o n v s)

      parts : (v : ℕ) → (on (switches o n) v && not (backwards o n v)) ≡ forwards o n v
      parts v =
          rw (on_switches o n v)
          (by_bool (forwards o n v) (λ e. rw (e, forward_switch o n v e, forward_only o n v e))
          (λ e. rw e
          (by_bool (switched o n v) (λ s. rw (s, ⊎_elim (λ x. clash x e) (λ x. x) (halves o n v s))) (λ s. rw s))))

  pub second_half :
      NoneBack o n
      → Joining mode o n (together (installs o n) (forwards o n)) (keep (backwards o n) (switches o n)) nothing (backwards o n) []
  second_half b =
      rw (keep_none (keep (backwards o n) (switches o n))) at
      (halved (backwards o n) nothing (λ R f. backwards_pass g b R f mode) (λ v e. clash e refl)
      (keep (backwards o n) (switches o n)) (distinct_keep (backwards o n) (switches o n) (switches_distinct o g.new))
      (λ v m e. backward v m) (backwards o n) parts)
    where
      members : (v : ℕ) → on (keep (backwards o n) (switches o n)) v ≡ backwards o n v
      members v =
          on_keep (backwards o n) (switches o n) v
          ∙ rw (on_switches o n v)
          (by_bool (backwards o n v) (λ e. rw (e, backward_switch o n v e)) (λ e. rw e (and-false (switched o n v))))

      backward : (v : ℕ) → on (keep (backwards o n) (switches o n)) v ≡ true → backwards o n v ≡ true
      backward v m = sym (members v) ∙ m

      parts : (v : ℕ) → (on (keep (backwards o n) (switches o n)) v && not (nothing v)) ≡ backwards o n v
      parts v = and-true (on (keep (backwards o n) (switches o n)) v) ∙ members v

-- ---- a round that may have no id

pub some_has : {R : State} → Below R → (v : ℕ) → R v ≡ true → some_round R ≡ R ∷ []
unfolding some_round
some_has {R} b v e = go (rising R) (on_rising b v)
  where
    go : (l : List ℕ) → on l v ≡ R v → some_of l R ≡ R ∷ []
    go [] q = clash e (sym q ∙ on_nil v)
    go (w ∷ l) q = refl

pub some_none : {R : State} → ((v : ℕ) → R v ≡ false) → some_round R ≡ []
unfolding some_round
some_none {R} f = go (rising R) (none_rising R (λ v h. f v))
  where
    go : (l : List ℕ) → length l ≡ 0 → some_of l R ≡ []
    go [] q = refl
    go (w ∷ l) q = absurd (omega arith)

-- where there is no switch to go through
none_tried :
    {mode : ℕ} {o n : List ℕ} {P R : State} {W : List ℕ} {Rs : List State}
    → Joining mode o n P [] nothing R W
    → Middle mode o n (together P R) W Rs
    → Middle mode o n P [] (some_round R ++ Rs)
none_tried all_tried all_placed = rw (some_none {R = nothing} (λ v. refl)) all_placed

pub some_middle :
    {mode : ℕ} {o n : List ℕ} {P R : State} {W : List ℕ} {Rs : List State} (vs : List ℕ)
    → Good o n
    → Waiting mode o n P vs
    → Joining mode o n P vs nothing R W
    → Below R
    → Middle mode o n (together P R) W Rs
    → Middle mode o n P vs (some_round R ++ Rs)
some_middle [] g w j b m = none_tried j m
some_middle (v ∷ vs) g w j b m = rw (some_has b v (waiting_fewer g w j).0) (a_round j m)

module _ {o n : List ℕ} (g : Good o n) where
  switch_below : Below (switched o n)
  switch_below v e = due_below g v (switch_due o n v e)

  pub forwards_below : Below (forwards o n)
  forwards_below v e = switch_below v (forward_switch o n v e)

  pub backwards_below : Below (backwards o n)
  backwards_below v e = switch_below v (backward_switch o n v e)
