-- `plans::plan::plan` meets its contract: each return is one of the replies, from what the parts called before it ensure.
use Rattle.std.proofs.Common.{rules, ◌≡◌, Err}
use Rattle.plans.proofs.PlanLaws.{fit_clear, clear_fit, reply_refused, reply_given}
use Rattle.plans.proofs.plan.plan.Goals as goal

pub returns-in_err-mode : goal.returns-in_err-mode
returns-in_err-mode c =
    let e : c.from_residual.result ≡ Err c.in_err-mode.field-0.0 = search rules in
    rw e (reply_refused c.in_err-mode.ensures)

pub invariant_of-pair : goal.invariant_of-pair
invariant_of-pair c = record { good = (clear_fit (fit_clear c.in_ok-mode.ensures).0).0 }

pub write_plan-requires : goal.write_plan-requires
write_plan-requires c = let g = clear_fit (fit_clear c.in_ok-mode.ensures).0 in (g.1, g.2)

pub returns : goal.returns
returns c = reply_given c.in_ok-mode.ensures c.write_plan.ensures
