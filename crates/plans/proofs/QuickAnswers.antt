-- What the quick planner's replies mean, said over definitions alone. Assumes nothing.
--
--   given_as_planned  == where it gives rounds, its reply and the lent memory are the planner's
--   given_accepted    == so that the check says yes to the very bytes that it wrote, with the same two numbers
--   Stands .. v       == nothing else is to be refused, v is a BB switch, and no lower id is one
--   refused_both_back == 19 is given only then, with that place
--   both_back_refused == and where nothing else is to be refused and a switch is BB, it is given
--   refused_none      == where it is given, no schedule passes, in either mode, that has all installs in a first round, all
--                        removes in a last and the switches in at most two rounds between
use Rattle.std.specs.Prelude.{Result, Ok, Err}
use Rattle.plans.specs.declared.Given.{Given}
use Prim.Native.Nat.{ℕ, ◌*◌, ◌<◌, ◌≤◌}
use native.Mathlib.Omega.{arith}
use mathlib.Core.Path.{◌≡◌, refl}
use mathlib.Core.Bool.{true}
use mathlib.Core.List.{List}
use lib.ListN.{length, take}
use Rattle.house.specs.declared.Refusal.{Refusal}
use Rattle.house.specs.declared.Refusal.TheVariants.{BothBackward}
use Rattle.house.specs.Numbers.{entries}
use Rattle.house.specs.Refusals.{lower, nearer, Clear}
use Rattle.routes.specs.Routes.{Good}
use Rattle.routes.proofs.PairLaws.{clear_good}
use Rattle.rounds.specs.States.{Passes}
use Rattle.rounds.specs.Replies.{Checks}
use Rattle.plans.specs.TwoBetween.{both_back, TwoBetween}
use Rattle.plans.specs.Replies.{PlanFault, judged, Plans, QuickFault, planner, both_backward, Quicks, refused, given}
use Rattle.plans.proofs.CheckAccepts.{plan_accepted}
use Rattle.plans.proofs.TwoRounds.{as_planned, none_two_between}
use Rattle.plans.proofs.QuickLaws.{plan_low}

plan_good : {old new : List ℕ} {mode : ℕ} {ids sizes : List ℕ} → Clear (PlanFault old new mode ids sizes) → Good (entries old) (entries new)
plan_good k = clear_good (record { clear = λ q f. k.clear q (judged f) })

pub given_as_planned :
    {old new : List ℕ} {mode : ℕ} {ids sizes ids' sizes' : List ℕ} {g : Given}
    → Quicks old new mode ids sizes (Ok g) ids' sizes'
    → Plans old new mode ids sizes (Ok g) ids' sizes'
given_as_planned {old} {new} {mode} {ids} {sizes} (given {Rs = Rs} k e r c i z) =
    let fit : Clear (PlanFault old new mode ids sizes) = record { clear = λ q f. k.clear q (planner f) } in
    given {Rs = Rs} fit
    (rw e (as_planned (plan_good fit) (record { none_back = λ v b. k.clear (BothBackward v) (both_backward b) }) mode))
    r c i z

pub given_accepted :
    {old new : List ℕ} {mode : ℕ} {ids sizes ids' sizes' : List ℕ} {g : Given}
    → Quicks old new mode ids sizes (Ok g) ids' sizes'
    → (set : List ℕ)
    → 64 ≤ length set
    → Checks old new mode (take (2 * g.count) ids') (take (2 * g.rounds) sizes') set (Ok (record { rounds = g.rounds; dues = g.count })) set
given_accepted q set h = plan_accepted (given_as_planned q) set h

pub record Stands (old new : List ℕ) (mode : ℕ) (ids sizes : List ℕ) (v : ℕ) : Type 0 where
  pub clear_else : Clear (PlanFault old new mode ids sizes)
  pub is_one : both_back (entries old) (entries new) v ≡ true
  pub none_lower : (u : ℕ) → u < v → both_back (entries old) (entries new) u ≡ true → ⊥

module _ {old new : List ℕ} {mode : ℕ} {ids sizes : List ℕ} where
  is_back : {v : ℕ} → QuickFault old new mode ids sizes (BothBackward v) → both_back (entries old) (entries new) v ≡ true
  is_back (planner f) = absurd (omega (arith, plan_low f))
  is_back (both_backward e) = e

  pub refused_both_back :
      {v : ℕ} {ids' sizes' : List ℕ}
      → Quicks old new mode ids sizes (Err (BothBackward v)) ids' sizes'
      → Stands old new mode ids sizes v
  refused_both_back {v} (refused f i z) =
      record {
        clear_else = record { clear = λ q p. f.lowest q (planner p) (lower (omega (arith, plan_low p))) };
        is_one = is_back f.applies;
        none_lower = λ u l e. f.lowest (BothBackward u) (both_backward e) (nearer (omega arith) (omega arith) l);
      }

  pub both_back_refused :
      {a : Result Given Refusal} {ids' sizes' : List ℕ}
      → Clear (PlanFault old new mode ids sizes)
      → (v : ℕ)
      → both_back (entries old) (entries new) v ≡ true
      → Quicks old new mode ids sizes a ids' sizes'
      → (u : ℕ) × (a ≡ Err (BothBackward u))
  both_back_refused k v b (given c e r n i z) = absurd (c.clear (BothBackward v) (both_backward b))
  both_back_refused k v b (refused {r} f i z) = told f.applies
    where
      told : {q : Refusal} → QuickFault old new mode ids sizes q → (u : ℕ) × (◌≡◌ {A = Result Given Refusal} (Err q) (Err (BothBackward u)))
      told (planner p) = absurd (k.clear _ p)
      told (both_backward {v = u} e) = (u, refl)

  pub refused_none :
      {v : ℕ} {ids' sizes' : List ℕ}
      → Quicks old new mode ids sizes (Err (BothBackward v)) ids' sizes'
      → (is zs : List ℕ)
      → TwoBetween (entries old) (entries new) is zs
      → (any_mode : ℕ)
      → Passes any_mode (entries old) (entries new) is zs
      → ⊥
  refused_none {v} q is zs b m p =
      let s = refused_both_back q in
      none_two_between (plan_good s.clear_else) v s.is_one b m p
