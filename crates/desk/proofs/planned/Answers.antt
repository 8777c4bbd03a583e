-- `planned` meets its contract: what is refused is refused, and what the planner gave is written, since it is a sound change.
use native.Mathlib.Omega.{arith}
use mathlib.Core.Path.{◌≡◌, refl, sym}
use lib.Seq.{length-take-le}
use Rattle.std.specs.Prelude.{◌*◌, ◌≤◌, length, Err}
use borrow.Author.Rules.{rules}
use Rattle.desk.proofs.ProgramLaws.{wrong_refused, plan_refused, plan_within, plan_written}
use Rattle.desk.proofs.planned.Goals as goal
use Rattle.desk.proofs.planned.Goals.{In_ok-held, In_ok-given}

-- the plan lies within the two arrays
within : (c : In_ok-given) → (2 * c.in_ok-given.given.count ≤ length c.plan.new.ids) × (2 * c.in_ok-given.given.rounds ≤ length c.plan.new.sizes)
within c = plan_within (rw c.in_ok-given.was at c.plan.ensures)

pub returns-in_err-held : goal.returns-in_err-held
returns-in_err-held c =
    let e : c.from_residual.result ≡ Err c.in_err-held.field-0.0 = search rules in
    rw e (wrong_refused c.in_err-held.ensures.refused, refl)

pub returns-in_err-given : goal.returns-in_err-given
returns-in_err-given c =
    let e : c.from_residual-in_err-given.result ≡ Err c.in_err-given.field-0.0 = search rules in
    rw e (plan_refused (rw (sym c.old_route-old.ensures, sym c.new_route-new.ensures) at c.in_ok-held.ensures.held) (rw c.in_err-given.was at c.plan.ensures), refl)

pub overflow_mul-ids : goal.overflow_mul-ids
overflow_mul-ids c = omega (arith, (within (goal.at.overflow_mul-ids c).In_ok-given).0)

pub slice_bounds-ids-end : goal.slice_bounds-ids-end
slice_bounds-ids-end c = (within (goal.at.slice_bounds-ids-end c).In_ok-given).0

pub slice_bounds-write-end : goal.slice_bounds-write-end
slice_bounds-write-end c = sym (length-take-le _ _ (within (goal.at.slice_bounds-write-end c).In_ok-given).0)

pub overflow_mul-sizes : goal.overflow_mul-sizes
overflow_mul-sizes c = omega (arith, (within (goal.at.overflow_mul-sizes c).In_ok-given).1)

pub slice_bounds-sizes-end : goal.slice_bounds-sizes-end
slice_bounds-sizes-end c = (within (goal.at.slice_bounds-sizes-end c).In_ok-given).1

pub slice_bounds-write-end-2 : goal.slice_bounds-write-end-2
slice_bounds-write-end-2 c = sym (length-take-le _ _ (within (goal.at.slice_bounds-write-end-2 c).In_ok-given).1)

pub returns : goal.returns
returns c =
    plan_written (rw (sym c.old_route-old.ensures, sym c.new_route-new.ensures) at c.in_ok-held.ensures.held) (rw c.in_ok-given.was at c.plan.ensures)
    c.write.ensures (omega arith)
