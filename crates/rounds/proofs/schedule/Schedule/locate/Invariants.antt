-- `Schedule::locate` meets its contract. The loop's invariant: the first `k` sizes and `left` add up to the index.
use Rattle.house.specs.Numbers.{entries}
use Rattle.rounds.proofs.TestLaws.{Taken}
use Rattle.rounds.proofs.schedule.Schedule.locate.Given as goal

abbrev pub invariant-loop-k : goal.invariant-loop-k
invariant-loop-k l = Taken (entries l.self.sizes.now) l.k l.left l.i
