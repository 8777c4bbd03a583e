-- `Schedule::first_empty` meets its contract: the search answers an index whose size is 0, and no size before it is.
use Rattle.std.proofs.Common.{rules}
use Rattle.house.proofs.NumberLaws.{length_entries}
use Rattle.house.proofs.Finding.{finds_in}
use Rattle.rounds.proofs.schedule.Schedule.first_empty.Goals as goal

pub returns : goal.returns
returns c =
    rw (length_entries c.args.self.now.sizes.now)
    (finds_in _ c.find.ensures.ran (λ x q k. search rules) (λ x q k. search rules))
