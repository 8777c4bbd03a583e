-- `schedule::first_not_due` meets its contract: the search answers an index whose id has no mark, and each before it has one.
use Rattle.std.proofs.Common.{rules}
use Rattle.house.proofs.NumberLaws.{length_entries}
use Rattle.house.proofs.Finding.{finds_in}
use Rattle.rounds.proofs.schedule.first_not_due.Goals as goal

pub returns : goal.returns
returns c =
    rw (length_entries c.args.ids.now)
    (finds_in _ c.find.ensures.ran (λ x q k. search rules) (λ x q k. search rules))
