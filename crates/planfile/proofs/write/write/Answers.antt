-- `write::write` meets its contract: 1 is given first, where the lent slice is too short, then what judging the change answers; a
-- sound change is stored.
use mathlib.Core.Path.{◌≡◌}
use borrow.Author.Rules.{rules}
use Rattle.std.specs.Prelude.{Err}
use Rattle.planfile.proofs.WriteLaws.{write_unfit, write_judged, judged_writable, write_stored}
use Rattle.planfile.proofs.write.write.Goals as goal

pub returns-then-file-lt4092 : goal.returns-then-file-lt4092
returns-then-file-lt4092 c = write_unfit c.if-file-lt4092.true

pub returns-in_err-judge : goal.returns-in_err-judge
returns-in_err-judge c =
    let e : c.from_residual.result ≡ Err c.in_err-judge.field-0.0 = search rules in
    rw e (write_judged c.if-file-lt4092.false c.in_err-judge.ensures)

pub returns : goal.returns
returns c = write_stored (judged_writable c.if-file-lt4092.false c.in_ok-judge.ensures) c.put_file.ensures
