-- Document 01, "Marked K: proved of the definitions as one table under a single statement": each row of `known` holds. Each
-- kind of case has a test that computes, and a law that what passes the test holds. Assumes nothing.
--
--   jumped p z           == the jump p is z; jumped_is == what this tells
--   at_node p v, nowhere p == a place, or a rule, is the node v, or none; at_node_is, nowhere_is == what these tell
--   walk_well f s d a    == the walk comes to a, at an end; walk_is == what this tells
--   fault_of_known nr    == the fault of the number nr: 16 a drop, 17 a loop
--   well c               == the test of the case c; well_holds == what this tells
--   all_well_hold        == cases that all pass their tests hold
--   all_hold             == K1 to K14
use Rattle.rounds.specs.States.{a_drop, a_loop}
use Prim.Native.Nat.{ℕ}
use mathlib.Core.Path.{◌≡◌, refl, sym, ap, ◌∙◌}
use mathlib.Core.Bool.{cond, Bool, true, false, not, ◌&&◌}
use mathlib.Core.List.{List, [], ◌∷◌}
use mathlib.Core.Option.{Option, none, some}
use lib.ListN.{length}
use lib.Dec.{eqb}
use lib.IntN.{ℤ, pos, negsuc}
use borrow.Author.Tests.{eqb-true, eqb-false, not-true}
use Rattle.house.specs.Sets.{has}
use Rattle.house.specs.Refusals.{number, site, place}
use Rattle.routes.specs.Routes.{source, destination}
use Rattle.routes.specs.Rules.{rule, due}
use Rattle.routes.specs.Jumps.{jump, has_jump}
use Rattle.routes.specs.Walk as walk
use Rattle.routes.specs.Walk.{in_state, Walks, arrived, dropped}
use Rattle.routes.specs.declared.walk.Walked.{Walked}
use Rattle.routes.specs.declared.walk.Walked.TheVariants.{Arrived, Dropped, Looped}
use Rattle.rounds.specs.States.{Fault}
use Rattle.rounds.specs.Replies.{fault_of}
use Rattle.plans.specs.Known.{
  ids_in,
  sizes_in,
  set_of,
  Case,
  plan,
  passes,
  names,
  refused,
  jumps,
  walks,
  Holds,
  AllHold,
  known,
}
use Rattle.plans.proofs.IdLists.{clash}
use Rattle.plans.proofs.Compute.{every, and_both, every_on}
use Rattle.plans.proofs.ComputeSchedule.{pair_fits, pair_good, well_formed, well_formed_clear, given, given_first}
use Rattle.plans.proofs.ComputePlan.{plan_well, plan_is}
use Rattle.plans.proofs.ComputeChecks.{
  low,
  has_set_of,
  passes_well,
  passes_is,
  bad_well,
  bad_is,
  named_well,
  named_is,
}

-- ---- a jump

unfoldable pub jumped : Option ℤ → ℤ → Bool
jumped none z = false
jumped (some (pos a)) (pos b) = eqb a b
jumped (some (pos a)) (negsuc b) = false
jumped (some (negsuc a)) (pos b) = false
jumped (some (negsuc a)) (negsuc b) = eqb a b

jumped_is : (p : Option ℤ) (z : ℤ) → jumped p z ≡ true → p ≡ some z
unfolding jumped
jumped_is none z e = clash e refl
jumped_is (some (pos a)) (pos b) e = ap (λ (k : ℕ). some (pos k)) (eqb-true a b e)
jumped_is (some (pos a)) (negsuc b) e = clash e refl
jumped_is (some (negsuc a)) (pos b) e = clash e refl
jumped_is (some (negsuc a)) (negsuc b) e = ap (λ (k : ℕ). some (negsuc k)) (eqb-true a b e)

-- ---- a walk

unfoldable pub at_node : Option ℕ → ℕ → Bool
at_node none v = false
at_node (some w) v = eqb w v

at_node_is : (p : Option ℕ) (v : ℕ) → at_node p v ≡ true → p ≡ some v
unfolding at_node
at_node_is none v e = clash e refl
at_node_is (some w) v e = ap some (eqb-true w v e)

unfoldable pub nowhere : Option ℕ → Bool
nowhere none = true
nowhere (some w) = false

nowhere_is : (p : Option ℕ) → nowhere p ≡ true → p ≡ none
unfolding nowhere
nowhere_is none e = refl
nowhere_is (some w) e = clash e refl

unfoldable pub walk_well : (ℕ → Option ℕ) → ℕ → ℕ → Walked → Bool
unfolding walk.place at_node nowhere
walk_well f s d (Arrived k) = at_node (walk.place f s k) d
walk_well f s d (Dropped v k) = at_node (walk.place f s k) v && not (eqb v d) && nowhere (f v)
walk_well f s d (Looped v k) = false

walk_is : (f : ℕ → Option ℕ) (s d : ℕ) (a : Walked) → walk_well f s d a ≡ true → Walks f s d a
unfolding walk_well
walk_is f s d (Arrived k) e = arrived (at_node_is (walk.place f s k) d e)
walk_is f s d (Dropped v k) e =
    let x = and_both e in
    let y = and_both x.0 in
    dropped (at_node_is (walk.place f s k) v y.0) (eqb-false v d (not-true (eqb v d) y.1)) (nowhere_is (f v) x.1)
walk_is f s d (Looped v k) e = clash e refl

-- ---- the cases

abbrev pub fault_of_known : ℕ → Fault
fault_of_known nr = cond (eqb nr 16) a_drop a_loop

unfoldable pub well : Case → Bool
unfolding
    ids_in
    set_of
    rule
    due
    has
    jump
    has_jump
    every
    pair_fits
    well_formed
    given
    plan_well
    passes_well
    bad_well
    named_well
    jumped
    walk_well
well (plan mode p rs) = pair_fits p.old p.new && plan_well mode p.old p.new rs
well (passes mode p rs) =
    pair_fits p.old p.new
    && well_formed p.old p.new mode (ids_in rs) (sizes_in rs)
    && passes_well mode p.old p.new (ids_in rs) (sizes_in rs)
well (names mode p rs nr t l) =
    pair_fits p.old p.new
    && well_formed p.old p.new mode (ids_in rs) (sizes_in rs)
    && bad_well mode p.old p.new (ids_in rs) (sizes_in rs) (fault_of_known nr) t
    && named_well mode p.old p.new (ids_in rs) (sizes_in rs) (fault_of_known nr) t l
    && eqb (number (fault_of (fault_of_known nr) t (length l))) nr
well (refused mode p rs r nr w pl) =
    pair_fits p.old p.new
    && given p.old p.new mode (ids_in rs) (sizes_in rs) r
    && eqb (number r) nr
    && eqb (site r) w
    && eqb (place r) pl
well (jumps p v a b) =
    pair_fits p.old p.new
    && has_jump p.old p.new v
    && jumped (jump p.old p.new v) a
    && jumped (jump p.new p.old v) b
well (walks p l a) =
    pair_fits p.old p.new
    && every low l
    && every (due p.old p.new) l
    && walk_well (in_state p.old p.new (has (set_of l))) (source p.old) (destination p.old) a

well_holds : (c : Case) → well c ≡ true → Holds c
unfolding well
well_holds (plan mode p rs) e =
    let x = and_both e in plan_is mode p.old p.new (pair_good p.old p.new x.0) rs x.1
well_holds (passes mode p rs) e =
    let x = and_both e in
    let y = and_both x.0 in
    let g = pair_good p.old p.new y.0 in
    record {
      good = g;
      well_formed = well_formed_clear p.old p.new mode (ids_in rs) (sizes_in rs) y.1;
      passing = passes_is mode p.old p.new (ids_in rs) (sizes_in rs) g x.1;
    }
well_holds (names mode p rs nr t l) e =
    let x = and_both e in
    let y = and_both x.0 in
    let z = and_both y.0 in
    let w = and_both z.0 in
    let g = pair_good p.old p.new w.0 in
    let b = bad_is mode p.old p.new (ids_in rs) (sizes_in rs) g (fault_of_known nr) t z.1 in
    let m = named_is mode p.old p.new (ids_in rs) (sizes_in rs) g (fault_of_known nr) t l b.from_one y.1 in
    record {
      good = g;
      well_formed = well_formed_clear p.old p.new mode (ids_in rs) (sizes_in rs) w.1;
      fault = fault_of_known nr;
      first_bad = b;
      named = m.0;
      sized = m.1;
      numbered = eqb-true (number (fault_of (fault_of_known nr) t (length l))) nr x.1;
    }
well_holds (refused mode p rs r nr w pl) e =
    let x = and_both e in
    let y = and_both x.0 in
    let z = and_both y.0 in
    let u = and_both z.0 in
    record {
      good = pair_good p.old p.new u.0;
      given = given_first p.old p.new mode (ids_in rs) (sizes_in rs) r u.1;
      numbered = eqb-true (number r) nr z.1;
      sited = eqb-true (site r) w y.1;
      placed = eqb-true (place r) pl x.1;
    }
well_holds (jumps p v a b) e =
    let x = and_both e in
    let y = and_both x.0 in
    let z = and_both y.0 in
    record {
      good = pair_good p.old p.new z.0;
      has_jump_known = z.1;
      old_order = jumped_is (jump p.old p.new v) a y.1;
      new_order = jumped_is (jump p.new p.old v) b x.1;
    }
well_holds (walks p l a) e =
    let x = and_both e in
    let y = and_both x.0 in
    let z = and_both y.0 in
    record {
      good = pair_good p.old p.new z.0;
      all_due = λ i h. every_on (due p.old p.new) l y.1 i (sym (has_set_of l z.1 i) ∙ h);
      walked = walk_is _ (source p.old) (destination p.old) a x.1;
    }

all_well_hold : (cs : List Case) → every well cs ≡ true → AllHold cs
unfolding every
all_well_hold [] e = tt
all_well_hold (c ∷ cs) e =
    let x = and_both {a = well c} {b = every well cs} e in (well_holds c x.0, all_well_hold cs x.1)

pub all_hold : AllHold known
unfolding known every well
all_hold = all_well_hold known refl
