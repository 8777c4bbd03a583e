-- `Schedule::adds_up` meets its contract: the sum of all sizes is the number of ids just where all rounds end at their end.
use mathlib.Core.Path.{sym}
use native.Mathlib.Omega.{arith}
use Rattle.house.proofs.NumberLaws.{length_entries}
use Rattle.rounds.proofs.TestLaws.{located_end, located_before}
use Rattle.rounds.proofs.schedule.Schedule.adds_up.Goals as goal

pub returns-then-rounds-self : goal.returns-then-rounds-self
returns-then-rounds-self c =
    rw (length_entries c.args.self.now.ids.now)
    (located_end c.locate-rounds.ensures (omega (arith, length_entries c.args.self.now.sizes.now, c.if-rounds-self.true)))

pub returns-else-rounds-self : goal.returns-else-rounds-self
returns-else-rounds-self c =
    rw (length_entries c.args.self.now.ids.now)
    (located_before c.locate-rounds.ensures (sym (length_entries c.args.self.now.sizes.now)) c.if-rounds-self.false)
