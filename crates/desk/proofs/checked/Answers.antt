-- `checked` meets its contract: a file that is not read is wrong, and each other has the check's answer.
use mathlib.Core.Path.{◌≡◌}
use Rattle.std.specs.Prelude.{Err}
use borrow.Author.Rules.{rules}
use Rattle.desk.proofs.ProgramLaws.{wrong_says, content_says}
use Rattle.desk.proofs.checked.Goals as goal

pub returns-in_err-held : goal.returns-in_err-held
returns-in_err-held c =
    let e : c.from_residual.result ≡ Err c.in_err-held.field-0.0 = search rules in
    rw e (wrong_says c.in_err-held.ensures.refused c.requires)

pub returns : goal.returns
returns c =
    content_says (rw (c.old_route.ensures, c.new_route.ensures, c.ids.ensures, c.sizes.ensures) c.in_ok-held.ensures.held) c.check.result
    (rw c.requires at c.check.ensures) (search rules)
