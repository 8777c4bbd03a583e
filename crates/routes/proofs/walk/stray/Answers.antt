-- `routes::walk::stray` meets its contract: the closure's answer says whether the id is `Stray`.
use borrow.Author.Rules.{rules}
use borrow.Author.Tests.{tests}
use Rattle.house.proofs.Finding.{finds_in}
use Rattle.routes.specs.WalkParts.{Stray}
use Rattle.routes.proofs.walk.stray.Goals as goal

pub returns : goal.returns
returns c =
    finds_in {P = Stray c.args.set.now.words c.args.due.now} _ c.find.ensures.ran
    (λ i q k. record { member = search (rules, tests); unmarked = search (rules, tests) })
    (λ i q k. (search rules, λ s. search (rules, tests, s.member, s.unmarked)))
