-- `routes::jump::position` meets its contract: the search answers an index where `v` stands, and it stands at no index before.
use Rattle.std.proofs.Common.{rules}
use Rattle.house.proofs.NumberLaws.{length_entries}
use Rattle.house.proofs.Finding.{finds_in}
use Rattle.routes.proofs.jump.position.Goals as goal

pub returns : goal.returns
returns c =
    rw (length_entries c.args.route.now)
    (finds_in _ c.find.ensures.ran (λ x q k. search rules) (λ x q k. search rules))
