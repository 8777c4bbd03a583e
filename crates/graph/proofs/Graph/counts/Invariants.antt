-- `graph::Graph::counts` meets its contract. The outer loop's invariant: the counts are those of the steps from the nodes passed.
-- The inner loop's: they are as before it and one more for each next value passed.
use Rattle.graph.specs.Working.{Plus, Tally}
use Rattle.graph.proofs.PeelingLaws.{times}
use Rattle.graph.proofs.Graph.counts.Given as goal

abbrev pub invariant-loop-v : goal.invariant-loop-v
invariant-loop-v l = Tally l.self.old.now l.self.new.now l.self.choice.now l.alive l.count l.v

abbrev pub invariant-loop-w : goal.invariant-loop-w
invariant-loop-w l = Plus l.initial.count (times l.w-items l.w-index) l.count
