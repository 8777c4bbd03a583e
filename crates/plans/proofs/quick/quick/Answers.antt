-- `plans::quick::quick` meets its contract: the refusals of `fit` come first, and the mode is the one that it gives.
use Rattle.std.proofs.lemmas.Result.{err_from_is_err_and}
use Rattle.plans.proofs.PlanLaws.{fit_first, fit_clear, clear_fit}
use Rattle.plans.proofs.QuickLaws.{quick_refused}
use Rattle.plans.proofs.quick.quick.Goals as goal

pub returns-in_err-mode : goal.returns-in_err-mode
returns-in_err-mode c =
    let p = err_from_is_err_and c.from_residual.result c.from_residual.ensures.1 in
    rw (p.1, p.2) (quick_refused (fit_first c.in_err-mode.ensures))

pub invariant_of-pair : goal.invariant_of-pair
invariant_of-pair c = record { good = (clear_fit (fit_clear c.in_ok-mode.ensures).0).0 }

pub quick_fit-requires : goal.quick_fit-requires
quick_fit-requires c = let f = fit_clear c.in_ok-mode.ensures in rw (← f.1) f.0

pub returns : goal.returns
returns c = let f = fit_clear c.in_ok-mode.ensures in rw f.1 c.quick_fit.ensures
