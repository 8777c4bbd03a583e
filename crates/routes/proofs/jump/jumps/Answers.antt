-- `routes::jump::jumps` meets its contract: the pair's refusal is passed on, and past it the pair is good, so that `by` may be
-- asked in the order of either route.
use Rattle.std.proofs.Common.{◌∙◌}
use Rattle.std.proofs.lemmas.Result.{err_from_is_err_and}
use mir.Syntax.{w32}
use mir.ValLaws.{to_z-of_z}
use Rattle.routes.proofs.PairLaws.{judges_good}
use Rattle.routes.proofs.JumpLaws.{jumps_judged, jumps_none, jumps_by, has_jump_swap, or_refused, or_jump}
use Rattle.routes.proofs.RuleLaws.{good_swap}
use Rattle.routes.proofs.jump.jumps.Goals as goal

pub returns-in_err-judge : goal.returns-in_err-judge
returns-in_err-judge c =
    let p = err_from_is_err_and c.from_residual.result c.from_residual.ensures.1 in
    rw (p.1, p.2) (jumps_judged c.in_err-judge.ensures)

pub invariant_of-by : goal.invariant_of-by
invariant_of-by c = record { good = judges_good c.in_ok-judge.ensures }

pub returns-in_err-ok_or : goal.returns-in_err-ok_or
returns-in_err-ok_or c =
    let p = err_from_is_err_and c.from_residual-in_err-ok_or.result c.from_residual-in_err-ok_or.ensures.1 in
    let r = or_refused c.by.ensures c.in_err-ok_or.ensures.value in
    rw (p.1, p.2, r.0, c.from.ensures) (jumps_none c.in_ok-judge.ensures r.1)

pub returns-in_err-ok_or-2 : goal.returns-in_err-ok_or-2
returns-in_err-ok_or-2 c =
    let p = err_from_is_err_and c.from_residual-in_err-ok_or-2.result c.from_residual-in_err-ok_or-2.ensures.1 in
    let r = or_refused c.by-2.ensures c.in_err-ok_or-2.ensures.value in
    rw (p.1, p.2, r.0, c.from.ensures)
    (jumps_none c.in_ok-judge.ensures (has_jump_swap (judges_good c.in_ok-judge.ensures) _ ∙ r.1))

pub returns : goal.returns
returns c =
    let g = judges_good c.in_ok-judge.ensures in
    let r = or_jump _ g c.by.ensures c.in_ok-ok_or.ensures.value in
    let s = or_jump _ (good_swap g) c.by-2.ensures c.in_ok-ok_or-2.ensures.value in
    rw (to_z-of_z w32 c.in_ok-ok_or.field-0 r.2, to_z-of_z w32 c.in_ok-ok_or-2.field-0 s.2)
    (jumps_by c.in_ok-judge.ensures r.0 r.1 s.1)
