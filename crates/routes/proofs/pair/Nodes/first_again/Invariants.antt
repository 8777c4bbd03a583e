-- `Nodes::first_again` meets its contract. The loop's invariant, `Marked`: the marks are those of the ids before `i`, and none of
-- these is a repeat.
use Rattle.house.specs.Numbers.{entries}
use Rattle.routes.proofs.TestLaws.{Marked}
use Rattle.routes.proofs.pair.Nodes.first_again.Given as goal

abbrev pub invariant-loop-i : goal.invariant-loop-i
invariant-loop-i l = Marked (entries l.self.ids.now) l.met l.i
