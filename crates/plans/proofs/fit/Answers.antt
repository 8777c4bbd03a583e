-- `plans::fit` meets its contract: each return is one of the answers.
use Rattle.std.proofs.Common.{rules, ◌≡◌, Err}
use Rattle.plans.proofs.PlanLaws.{fit_short_ids, fit_short_sizes, fit_judged, fit_mode}
use Rattle.plans.proofs.fit.Goals as goal
use Rattle.plans.proofs.fit.Goals.{then-ids-lt1024-via-then-ids-lt1024, then-ids-lt1024-via-else-ids-lt1024+then-sizes-lt1024}

pub returns-then-ids-lt1024 : goal.returns-then-ids-lt1024
returns-then-ids-lt1024 c =
    elim c.then-ids-lt1024.branch [
      | then-ids-lt1024-via-then-ids-lt1024 w ↦ fit_short_ids w.if-ids-lt1024.true
      | then-ids-lt1024-via-else-ids-lt1024+then-sizes-lt1024 w ↦ fit_short_sizes w.if-sizes-lt1024.true
    ]

pub returns-in_err-judge : goal.returns-in_err-judge
returns-in_err-judge c =
    let e : c.from_residual.result ≡ Err c.in_err-judge.field-0.0 = search rules in
    rw e (fit_judged c.if-ids-lt1024.false c.if-sizes-lt1024.false c.in_err-judge.ensures)

pub returns : goal.returns
returns c = fit_mode c.if-ids-lt1024.false c.if-sizes-lt1024.false c.in_ok-judge.ensures c.try_from.ensures
