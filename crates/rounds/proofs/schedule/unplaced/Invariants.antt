-- `schedule::unplaced` meets its contract. The loop's invariant: the marks left are the marks without those of the nodes before `i`.
use Rattle.house.specs.Numbers.{entries}
use Rattle.rounds.proofs.TestLaws.{LeftOf}
use Rattle.rounds.proofs.schedule.unplaced.Given as goal

abbrev pub invariant-loop-i : goal.invariant-loop-i
invariant-loop-i l = LeftOf l.due (entries l.nodes.ids.now) l.left l.i
