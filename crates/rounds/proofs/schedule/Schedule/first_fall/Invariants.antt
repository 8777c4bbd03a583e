-- `Schedule::first_fall` meets its contract. The loop's invariant: `t` rounds are begun, they end at `end`, `i` lies past the start of
-- the last of them, and no id before `i` falls.
use Rattle.house.specs.Numbers.{entries}
use Rattle.rounds.proofs.TestLaws.{Scan}
use Rattle.rounds.proofs.schedule.Schedule.first_fall.Given as goal

abbrev pub invariant-loop-i : goal.invariant-loop-i
invariant-loop-i l = Scan (entries l.self.ids.now) (entries l.self.sizes.now) l.t l.end l.i
