-- The rounds of a plan as sets of nodes.
--
-- Going once through the switches (Joining), from the round so far R to the round R', where W wait:
--   joining_passes      == where the round so far passes, so does the round
--   Tried               == the round has an id, it passes, and fewer wait than were gone through; or it is as it was, and all
--                          wait
--   joining_tried       == one of these two is so
--   waits_most          == no more wait than were gone through
--   joining_keeps       == the round keeps what it had
--   joining_one         == going through the switches ends in one way
--   waits_on            == a switch that waits is one of those gone through
--   waits_distinct      == no switch waits twice
--   joining_member      == the round has what it had, and of the switches gone through those that do not wait
--
-- The rounds of the switches vs (Middle), after P:
--   middle_all          == they are together the switches vs
--   middle_disjoint     == no switch is in two of them
--   over_passes, begin_passes == where a round passes, nothing changed passes after it, and before it
--   middle_passes       == each passes in turn
--   middle_filled       == each has an id: were none to join, none would ever, and the rounds would not end
--   middle_count        == they are at most as many as the switches
--
-- All rounds of a good pair (PlanRounds):
--   switched o n        == the set of the nodes whose change is a switch
--   on_switches         == the switches are the nodes whose change is a switch
--   switches_distinct   == no switch is listed twice
--   due_parts           == a node is due if it is an install, a switch or a remove
--   install_due, switch_due, remove_due == each of these is due
--   install_only, switch_only == an install is no switch and no remove, and a switch is no remove
--   switch_no_install   == nor an install
--   all_append, disjoint_append, filled_append, passes_append == two lists of sets joined
--   all_some, disjoint_some, filled_some, length_some, passes_some == a round, if it has an id
--   some_or_none        == there is no such round, or it has an id
--   middle_switches     == the rounds of switches are together the switches
--   plan_all            == the rounds are together the due nodes
--   plan_below          == they hold ids only
--   plan_disjoint       == no node is in two of them
--   plan_filled         == each has an id
--   plan_count          == they are at most the switches and two more
--   plan_passes         == the schedule passes, if the installs do as the first round and the removes as the last
--   plan_schedule       == they are a schedule of the change
use Prim.Native.Nat.{ℕ, ◌+◌, ◌<◌, ◌≤◌}
use mathlib.Core.Path.{◌≡◌, refl, sym, ap, subst₂, fun_ext, ◌∙◌}
use mathlib.Core.Bool.{Bool, true, false, not, cond, ◌&&◌, ◌||◌, or-false, or_assoc, and-true, and-false}
use mathlib.Core.Logic.{◌⊎◌, inl, inr, ⊎_elim}
use mathlib.Core.List.{List, [], ◌∷◌, ◌++◌, reverse, nil≢cons}
use mathlib.Core.Option.{Option, none, some}
use native.Mathlib.Omega.{arith}
use lib.ListN.{length, get_or, length-append}
use lib.Dec.{eqb}
use borrow.Author.Tests.{eqb-true, eq-eqb}
use Rattle.routes.specs.declared.rule.Change.{Change}
use Rattle.routes.specs.declared.rule.Change.TheVariants.{Kept, Install, Remove, Switch}
use Rattle.routes.specs.Routes.{GoodRoute, Good}
use Rattle.routes.specs.Rules.{rule, differs, due, change}
use Rattle.routes.specs.Jumps.{on}
use Rattle.routes.specs.Walk.{State}
use Rattle.routes.proofs.RuleLaws.{due_below, rule_hop}
use Rattle.rounds.specs.Schedule.{Schedule}
use Rattle.rounds.specs.States.{Passes}
use Rattle.plans.specs.Plan.{
  Between,
  RoundPasses,
  Joining,
  all_tried,
  joins,
  waits,
  nothing,
  together,
  Middle,
  all_placed,
  a_round,
  is_install,
  is_remove,
  is_switch,
  installs,
  removes,
  switches,
  rising,
  some_of,
  some_round,
  PlanRounds,
  ids_of,
  sizes_of,
  switched,
}
use Rattle.plans.proofs.IdLists.{
  by_bool,
  clash,
  or_left,
  or_right,
  either_or,
  on_nil,
  on_cons,
  on_rest,
  index_on,
  Distinct,
  index_distinct,
  on_reverse,
  distinct_reverse,
  on_keep,
  distinct_keep,
}
use Rattle.plans.proofs.RisingIds.{Below, on_rising, rising_member}
use Rattle.plans.proofs.PlanSchedule.{
  all,
  Disjoint,
  Filled,
  PassesAll,
  same_passes,
  same_passes_all,
  passes_schedule,
  is_schedule,
}

-- ---- once through the switches

pub joining_passes :
    {mode : ℕ} {o n : List ℕ} {P R R' : State} {vs W : List ℕ}
    → Joining mode o n P vs R R' W
    → RoundPasses mode o n P R
    → RoundPasses mode o n P R'
joining_passes all_tried p = p
joining_passes (joins q j) p = joining_passes j q
joining_passes (waits q j) p = joining_passes j p

pub waits_most :
    {mode : ℕ} {o n : List ℕ} {P R R' : State} {vs W : List ℕ} → Joining mode o n P vs R R' W → length W ≤ length vs
waits_most all_tried = omega arith
waits_most (joins q j) = omega (arith, waits_most j)
waits_most (waits q j) = omega (arith, waits_most j)

pub joining_keeps :
    {mode : ℕ} {o n : List ℕ} {P R R' : State} {vs W : List ℕ} (u : ℕ)
    → Joining mode o n P vs R R' W
    → R u ≡ true
    → R' u ≡ true
joining_keeps u all_tried e = e
joining_keeps {R = R} u (joins {v} q j) e = joining_keeps u j (by_bool (eqb u v) (λ h. rw h) (λ h. rw h e))
joining_keeps u (waits q j) e = joining_keeps u j e

pub data Tried (mode : ℕ) (o n : List ℕ) (P R R' : State) (vs W : List ℕ) : Type 0 where
  some_joined : (u : ℕ) → R' u ≡ true → RoundPasses mode o n P R' → length W < length vs → Tried mode o n P R R' vs W
  all_wait : R' ≡ R → W ≡ vs → Tried mode o n P R R' vs W

pub joining_tried :
    {mode : ℕ} {o n : List ℕ} {P R R' : State} {vs W : List ℕ} → Joining mode o n P vs R R' W → Tried mode o n P R R' vs W
joining_tried all_tried = all_wait refl refl
joining_tried {R = R} (joins {v} q j) =
    some_joined v (joining_keeps v j (rw (eq-eqb v v refl))) (joining_passes j q) (omega (arith, waits_most j))
joining_tried {mode} {o} {n} {P} {R} {R'} (waits {v} {vs} {W} q j) = go (joining_tried j)
  where
    go : Tried mode o n P R R' vs W → Tried mode o n P R R' (v ∷ vs) (v ∷ W)
    go (some_joined u e p h) = some_joined u e p (omega arith)
    go (all_wait e f) = all_wait e (ap (λ (l : List ℕ). v ∷ l) f)

pub joining_one :
    {mode : ℕ} {o n : List ℕ} {P R R1 R2 : State} {vs W1 W2 : List ℕ}
    → Joining mode o n P vs R R1 W1
    → Joining mode o n P vs R R2 W2
    → (R1 ≡ R2) × (W1 ≡ W2)
joining_one all_tried all_tried = (refl, refl)
joining_one (joins p j) (joins q k) = joining_one j k
joining_one (joins p j) (waits q k) = absurd (q p)
joining_one (waits p j) (joins q k) = absurd (p q)
joining_one (waits {v = v} p j) (waits q k) = let x = joining_one j k in (x.0, ap (λ (W : List ℕ). v ∷ W) x.1)

pub waits_on :
    {mode : ℕ} {o n : List ℕ} {P R R' : State} {vs W : List ℕ}
    → Joining mode o n P vs R R' W
    → (v : ℕ)
    → on W v ≡ true
    → on vs v ≡ true
waits_on all_tried v e = e
waits_on (joins {v = u} {vs} q j) v e = on_rest u vs v (waits_on j v e)
waits_on (waits {v = u} {vs} {W} q j) v e =
    ⊎_elim (λ h. rw (on_cons u vs v) (or_left (on vs v) h)) (λ h. on_rest u vs v (waits_on j v h))
    (either_or (eqb v u) (on W v) (sym (on_cons u W v) ∙ e))

waits_off :
    {mode : ℕ} {o n : List ℕ} {P R R' : State} {vs W : List ℕ}
    → Joining mode o n P vs R R' W
    → (v : ℕ)
    → on vs v ≡ false
    → on W v ≡ false
waits_off {W = W} j v e = by_bool (on W v) (λ h. clash (waits_on j v h) e) (λ h. h)

pub waits_distinct :
    {mode : ℕ} {o n : List ℕ} {P R R' : State} {vs W : List ℕ} → Joining mode o n P vs R R' W → Distinct vs → Distinct W
waits_distinct all_tried d = tt
waits_distinct (joins q j) d = waits_distinct j d.1
waits_distinct (waits {v = u} q j) d = (waits_off j u d.0, waits_distinct j d.1)

pub joining_member :
    {mode : ℕ} {o n : List ℕ} {P R R' : State} {vs W : List ℕ}
    → Joining mode o n P vs R R' W
    → Distinct vs
    → (v : ℕ)
    → R' v ≡ (R v || (on vs v && not (on W v)))
joining_member {R = R} all_tried d v = rw (on_nil v) (sym (or-false (R v)))
joining_member {R = R} (joins {v = u} {vs} q j) d v =
    joining_member j d.1 v
    ∙ rw (on_cons u vs v)
    (by_bool (eqb v u) (λ e. rw (e, eqb-true v u e, waits_off j u d.0) (sym (or_right (R u) refl))) (λ e. rw e))
joining_member (waits {v = u} {vs} {W} q j) d v =
    joining_member j d.1 v
    ∙ rw (on_cons u vs v, on_cons u W v) (by_bool (eqb v u) (λ e. rw (e, eqb-true v u e, d.0)) (λ e. rw e))

-- ---- the rounds of the switches

pub middle_all :
    {mode : ℕ} {o n : List ℕ} {P : State} {vs : List ℕ} {Rs : List State}
    → Middle mode o n P vs Rs
    → Distinct vs
    → (v : ℕ)
    → all Rs v ≡ on vs v
middle_all all_placed d v = sym (on_nil v)
middle_all (a_round {v = u} {vs} {W} j m) d v =
    rw (joining_member j d v, middle_all m (waits_distinct j d) v)
    (by_bool (on W v) (λ h. rw (h, waits_on j v h)) (λ h. rw (h, and-true (on (u ∷ vs) v)) (or-false (on (u ∷ vs) v))))

pub middle_disjoint :
    {mode : ℕ} {o n : List ℕ} {P : State} {vs : List ℕ} {Rs : List State}
    → Middle mode o n P vs Rs
    → Distinct vs
    → Disjoint Rs
middle_disjoint all_placed d = tt
middle_disjoint (a_round {R = R} {v = u} {vs} {W} {Rs} j m) d = (apart, middle_disjoint m (waits_distinct j d))
  where
    apart : (v : ℕ) → R v ≡ true → all Rs v ≡ false
    apart v e =
        middle_all m (waits_distinct j d) v
        ∙ by_bool (on W v) (λ h. clash e (joining_member j d v ∙ rw h (and-false (on (u ∷ vs) v)))) (λ h. h)

pub over_passes : {mode : ℕ} {o n : List ℕ} {P R : State} → RoundPasses mode o n P R → RoundPasses mode o n (together P R) nothing
over_passes {P = P} {R} r = record { no_drop = λ X b. r.no_drop X (back b); no_loop = λ X b. r.no_loop X (back b) }
  where
    back : {X : State} → Between (together P R) nothing X → Between P R X
    back b =
        record {
          earlier = λ v e. b.earlier v (or_left (R v) e);
          nothing_else = λ v e f. b.nothing_else v (rw (e, f)) refl;
        }

pub begin_passes : {mode : ℕ} {o n : List ℕ} {P R : State} → RoundPasses mode o n P R → RoundPasses mode o n P nothing
begin_passes {P = P} {R} r = record { no_drop = λ X b. r.no_drop X (back b); no_loop = λ X b. r.no_loop X (back b) }
  where
    back : {X : State} → Between P nothing X → Between P R X
    back b = record { earlier = b.earlier; nothing_else = λ v e f. b.nothing_else v e refl }

-- a round in which all wait would be the same again and again
never_all_wait :
    {mode : ℕ} {o n : List ℕ} {P : State} {vs : List ℕ} {Rs : List State} (v : ℕ) (us : List ℕ)
    → Middle mode o n P vs Rs
    → vs ≡ v ∷ us
    → Joining mode o n P vs nothing nothing vs
    → ⊥
never_all_wait v us all_placed e k = nil≢cons e
never_all_wait {mode} {o} {n} {P} v us (a_round j m) e k =
    let x = joining_one j k in
    let q : P ≡ together P _ = fun_ext (λ u. sym (or-false (P u))) ∙ ap (λ (S : State). together P S) (sym x.0) in
    never_all_wait v us m (x.1 ∙ e)
    (subst₂ (λ (Q : State) (l : List ℕ). Joining mode o n Q l nothing nothing l) q (sym x.1) k)

-- what is so of a round of the switches: it has an id, it passes, and fewer wait
record Placed (mode : ℕ) (o n : List ℕ) (P R : State) (vs W : List ℕ) : Type 0 where
  an_id : (u : ℕ) × (R u ≡ true)
  passes : RoundPasses mode o n P R
  fewer : length W < length vs

some_join :
    {mode : ℕ} {o n : List ℕ} {P R : State} {v : ℕ} {vs W : List ℕ} {Rs : List State}
    → Joining mode o n P (v ∷ vs) nothing R W
    → Middle mode o n (together P R) W Rs
    → Placed mode o n P R (v ∷ vs) W
some_join {mode} {o} {n} {P} {R} {v} {vs} {W} j m = go (joining_tried j)
  where
    go : Tried mode o n P nothing R (v ∷ vs) W → Placed mode o n P R (v ∷ vs) W
    go (some_joined u e p h) = record { an_id = (u, e); passes = p; fewer = h }
    go (all_wait e f) =
        absurd (never_all_wait v vs (a_round j m) refl (subst₂ (λ (S : State) (l : List ℕ). Joining mode o n P (v ∷ vs) nothing S l) e f j))

pub middle_passes :
    {mode : ℕ} {o n : List ℕ} {P : State} {vs : List ℕ} {Rs : List State} → Middle mode o n P vs Rs → PassesAll mode o n P Rs
middle_passes all_placed = tt
middle_passes (a_round j m) = ((some_join j m).passes, middle_passes m)

pub middle_filled :
    {mode : ℕ} {o n : List ℕ} {P : State} {vs : List ℕ} {Rs : List State} → Middle mode o n P vs Rs → Filled Rs
middle_filled all_placed = tt
middle_filled (a_round j m) = ((some_join j m).an_id, middle_filled m)

pub middle_count :
    {mode : ℕ} {o n : List ℕ} {P : State} {vs : List ℕ} {Rs : List State} → Middle mode o n P vs Rs → length Rs ≤ length vs
middle_count all_placed = omega arith
middle_count (a_round j m) = omega (arith, (some_join j m).fewer, middle_count m)

-- ---- installs, switches and removes

switch_some : (p q : Option ℕ) → is_switch (change p q) ≡ true → (w : ℕ) × (q ≡ some w)
switch_some none none e = clash e refl
switch_some none (some b) e = clash e refl
switch_some (some a) none e = clash e refl
switch_some (some a) (some b) e = (b, refl)

pub on_switches : (o n : List ℕ) (v : ℕ) → on (switches o n) v ≡ switched o n v
unfolding switches
on_switches o n v =
    rw (on_keep (switched o n) (reverse n) v, on_reverse n v)
    (by_bool (switched o n v)
    (λ e.
    let h = rule_hop n v (switch_some (rule o v) (rule n v) e).1 in
    rw (e, ← h.here, index_on n h.index (omega (arith, h.within))))
    (λ e. rw e (and-false (on n v))))

pub switches_distinct : (o : List ℕ) {n : List ℕ} → GoodRoute n → Distinct (switches o n)
unfolding switches
switches_distinct o {n} g = distinct_keep (switched o n) (reverse n) (distinct_reverse n (index_distinct n g.distinct))

pub due_parts : (o n : List ℕ) (v : ℕ) → (installs o n v || (switched o n v || removes o n v)) ≡ due o n v
unfolding installs removes due
due_parts o n v = go (rule o v) (rule n v)
  where
    same :
        (b : Bool) → (is_install (cond b Kept Switch) || (is_switch (cond b Kept Switch) || is_remove (cond b Kept Switch))) ≡ not b
    same true = refl
    same false = refl

    go : (p q : Option ℕ) → (is_install (change p q) || (is_switch (change p q) || is_remove (change p q))) ≡ differs p q
    go none none = refl
    go none (some b) = refl
    go (some a) none = refl
    go (some a) (some b) = same (eqb a b)

pub install_due : (o n : List ℕ) (v : ℕ) → installs o n v ≡ true → due o n v ≡ true
install_due o n v e = sym (due_parts o n v) ∙ or_left (switched o n v || removes o n v) e

pub switch_due : (o n : List ℕ) (v : ℕ) → switched o n v ≡ true → due o n v ≡ true
switch_due o n v e = sym (due_parts o n v) ∙ or_right (installs o n v) (or_left (removes o n v) e)

pub remove_due : (o n : List ℕ) (v : ℕ) → removes o n v ≡ true → due o n v ≡ true
remove_due o n v e = sym (due_parts o n v) ∙ or_right (installs o n v) (or_right (switched o n v) e)

pub install_only : (o n : List ℕ) (v : ℕ) → installs o n v ≡ true → (switched o n v || removes o n v) ≡ false
unfolding installs removes
install_only o n v e = go (change (rule o v) (rule n v)) e
  where
    go : (k : Change) → is_install k ≡ true → (is_switch k || is_remove k) ≡ false
    go Kept e = refl
    go Install e = refl
    go Remove e = sym e
    go Switch e = sym e

pub switch_only : (o n : List ℕ) (v : ℕ) → switched o n v ≡ true → removes o n v ≡ false
unfolding removes
switch_only o n v e = go (change (rule o v) (rule n v)) e
  where
    go : (k : Change) → is_switch k ≡ true → is_remove k ≡ false
    go Kept e = refl
    go Install e = refl
    go Remove e = sym e
    go Switch e = refl

pub switch_no_install : (o n : List ℕ) (v : ℕ) → switched o n v ≡ true → installs o n v ≡ false
switch_no_install o n v e =
    by_bool (installs o n v) (λ i. clash (or_left (removes o n v) e) (install_only o n v i)) (λ i. i)

-- ---- lists of sets joined

pub all_append : (As Bs : List State) (v : ℕ) → all (As ++ Bs) v ≡ (all As v || all Bs v)
all_append [] Bs v = refl
all_append (R ∷ As) Bs v = rw (all_append As Bs v) (sym (or_assoc (R v) (all As v) (all Bs v)))

pub disjoint_append :
    (As Bs : List State) → Disjoint As → Disjoint Bs → ((v : ℕ) → all As v ≡ true → all Bs v ≡ false) → Disjoint (As ++ Bs)
disjoint_append [] Bs a b f = b
disjoint_append (R ∷ As) Bs a b f = (
  λ v e. rw (all_append As Bs v, a.0 v e) (f v (or_left (all As v) e)),
  disjoint_append As Bs a.1 b (λ v e. f v (or_right (R v) e)),
)

pub filled_append : (As Bs : List State) → Filled As → Filled Bs → Filled (As ++ Bs)
filled_append [] Bs a b = b
filled_append (R ∷ As) Bs a b = (a.0, filled_append As Bs a.1 b)

pub passes_append :
    (mode : ℕ) (o n : List ℕ) (P : State) (As Bs : List State)
    → PassesAll mode o n P As
    → PassesAll mode o n (together P (all As)) Bs
    → PassesAll mode o n P (As ++ Bs)
passes_append mode o n P [] Bs a b = same_passes_all mode o n _ P Bs (λ v. or-false (P v)) b
passes_append mode o n P (R ∷ As) Bs a b = (
  a.0,
  passes_append mode o n (together P R) As Bs a.1
      (same_passes_all mode o n _ _ Bs (λ v. sym (or_assoc (P v) (R v) (all As v))) b),
)

pub all_some : {R : State} → Below R → (v : ℕ) → all (some_round R) v ≡ R v
unfolding some_round
all_some {R} b v = go (rising R) (on_rising b v)
  where
    go : (l : List ℕ) → on l v ≡ R v → all (some_of l R) v ≡ R v
    go [] e = sym (on_nil v) ∙ e
    go (w ∷ l) e = or-false (R v)

pub disjoint_some : (R : State) → Disjoint (some_round R)
unfolding some_round
disjoint_some R = go (rising R)
  where
    go : (l : List ℕ) → Disjoint (some_of l R)
    go [] = tt
    go (w ∷ l) = (λ v e. refl, tt)

pub filled_some : (R : State) → Filled (some_round R)
unfolding some_round
filled_some R = go (rising R) refl
  where
    go : (l : List ℕ) → rising R ≡ l → Filled (some_of l R)
    go [] e = tt
    go (w ∷ l) e = ((get_or (rising R) 0 0, (rising_member R 0 (rw e (omega arith))).1), tt)

pub length_some : (R : State) → length (some_round R) ≤ 1
unfolding some_round
length_some R = go (rising R)
  where
    go : (l : List ℕ) → length (some_of l R) ≤ 1
    go [] = omega arith
    go (w ∷ l) = omega arith

pub some_or_none : (R : State) → (length (some_round R) ≡ 0) ⊎ ((v : ℕ) × (R v ≡ true))
unfolding some_round
some_or_none R = go (rising R) refl
  where
    go : (l : List ℕ) → rising R ≡ l → (length (some_of l R) ≡ 0) ⊎ ((v : ℕ) × (R v ≡ true))
    go [] e = inl refl
    go (w ∷ l) e = inr (get_or (rising R) 0 0, (rising_member R 0 (rw e (omega arith))).1)

pub passes_some :
    {mode : ℕ} {o n : List ℕ} {P : State} (R : State) → RoundPasses mode o n P R → PassesAll mode o n P (some_round R)
unfolding some_round
passes_some {mode} {o} {n} {P} R p = go (rising R)
  where
    go : (l : List ℕ) → PassesAll mode o n P (some_of l R)
    go [] = tt
    go (w ∷ l) = (p, tt)

-- ---- all rounds of a good pair

-- the round of installs and the round of removes, if there are any
abbrev firsts : List ℕ → List ℕ → List State
firsts o n = some_round (installs o n)

abbrev lasts : List ℕ → List ℕ → List State
lasts o n = some_round (removes o n)

module _ {mode : ℕ} {o n : List ℕ} (g : Good o n) {Rs : List State} (p : PlanRounds mode o n Rs) where
  below_installs : Below (installs o n)
  below_installs v e = due_below g v (install_due o n v e)

  below_removes : Below (removes o n)
  below_removes v e = due_below g v (remove_due o n v e)

  pub middle_switches : (v : ℕ) → all p.middle v ≡ switched o n v
  middle_switches v = middle_all p.joined (switches_distinct o g.new) v ∙ on_switches o n v

  later_parts : (v : ℕ) → all (p.middle ++ lasts o n) v ≡ (switched o n v || removes o n v)
  later_parts v =
      all_append p.middle (lasts o n) v ∙ rw (middle_switches v, all_some below_removes v)

  pub plan_all : (v : ℕ) → all Rs v ≡ due o n v
  plan_all v =
      rw (p.rounds, all_append (firsts o n) (p.middle ++ lasts o n) v, all_some below_installs v, later_parts v)
      (due_parts o n v)

  pub plan_below : Below (all Rs)
  plan_below v e = due_below g v (sym (plan_all v) ∙ e)

  pub plan_disjoint : Disjoint Rs
  plan_disjoint =
      rw p.rounds
      (disjoint_append (firsts o n) (p.middle ++ lasts o n) (disjoint_some (installs o n))
      (disjoint_append p.middle (lasts o n) (middle_disjoint p.joined (switches_distinct o g.new)) (disjoint_some (removes o n))
      (λ v e. all_some below_removes v ∙ switch_only o n v (sym (middle_switches v) ∙ e)))
      (λ v e. later_parts v ∙ install_only o n v (sym (all_some below_installs v) ∙ e)))

  pub plan_filled : Filled Rs
  plan_filled =
      rw p.rounds
      (filled_append (firsts o n) (p.middle ++ lasts o n) (filled_some (installs o n))
      (filled_append p.middle (lasts o n) (middle_filled p.joined) (filled_some (removes o n))))

  pub plan_count : length Rs ≤ length (switches o n) + 2
  plan_count =
      rw (p.rounds, length-append (firsts o n) (p.middle ++ lasts o n), length-append p.middle (lasts o n))
      (omega (arith, length_some (installs o n), length_some (removes o n), middle_count p.joined))

  pub plan_schedule : Schedule o n (ids_of Rs) (sizes_of Rs)
  plan_schedule = is_schedule g Rs plan_disjoint plan_filled plan_all

  pub plan_passes :
      RoundPasses mode o n nothing (installs o n)
      → RoundPasses mode o n (together (installs o n) (switched o n)) (removes o n)
      → Passes mode o n (ids_of Rs) (sizes_of Rs)
  plan_passes a b = passes_schedule mode o n Rs plan_below (rw p.rounds all_pass) (λ z. begin_passes a)
    where
      all_pass : PassesAll mode o n nothing (firsts o n ++ (p.middle ++ lasts o n))
      all_pass =
          passes_append mode o n nothing (firsts o n) (p.middle ++ lasts o n) (passes_some (installs o n) a)
          (same_passes_all mode o n (installs o n) (all (firsts o n)) (p.middle ++ lasts o n) (λ v. sym (all_some below_installs v))
          (passes_append mode o n (installs o n) p.middle (lasts o n) (middle_passes p.joined)
          (passes_some (removes o n)
          (same_passes (λ v. rw (middle_switches v)) (λ v. refl) b))))
