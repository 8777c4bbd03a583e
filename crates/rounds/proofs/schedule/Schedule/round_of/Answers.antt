-- `Schedule::round_of` meets its contract: the round of an index comes after those that end before it.
use native.Mathlib.Omega.{arith}
use Rattle.house.proofs.NumberLaws.{length_entries}
use Rattle.rounds.proofs.TestLaws.{located_round}
use Rattle.rounds.proofs.schedule.Schedule.round_of.Goals as goal

pub overflow_add-result : goal.overflow_add-result
overflow_add-result c = omega (arith, length_entries c.args.self.now.sizes.now, c.locate.ensures.within)

pub returns : goal.returns
returns c = located_round c.locate.ensures
