-- `check::check` meets its contract: 1 comes first, then what judging the change refuses, and only a sound change has its rounds
-- checked.
use Rattle.std.proofs.Common.{rules, Err}
use native.Mathlib.Omega.{arith}
use mathlib.Core.Path.{◌≡◌, refl}
use Rattle.rounds.specs.Replies.{refused}
use Rattle.rounds.proofs.ReplyLaws.{change_first, judged_sound, judged_faulty}
use Rattle.rounds.proofs.check.check.Goals as goal

pub returns-in_err-judge : goal.returns-in_err-judge
returns-in_err-judge c =
    let e : c.from_residual.result ≡ Err c.in_err-judge.field-0.0 = search rules in
    rw e (refused (change_first (omega arith) (judged_faulty c.in_err-judge.ensures)) refl)

pub check_judged-requires-clause-clear : goal.check_judged-requires-clause-clear
check_judged-requires-clause-clear c = judged_sound c.in_ok-judge.ensures
