-- `pair::over` meets its contract: the search answers an index whose entry is over 511, and no index before it is.
use Rattle.std.proofs.Common.{rules}
use Rattle.house.proofs.NumberLaws.{length_entries}
use Rattle.house.proofs.Finding.{finds_in}
use Rattle.routes.proofs.pair.over.Goals as goal

pub returns : goal.returns
returns c =
    rw (length_entries c.args.route.now)
    (finds_in _ c.find.ensures.ran (λ x q k. search rules) (λ x q k. search rules))
