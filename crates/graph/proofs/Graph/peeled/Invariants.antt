-- `graph::Graph::peeled` meets its contract. The invariant of the loop over the queue: the set is split into what remains and the
-- queue; the counts are those of the steps from all nodes but those taken off the queue; every node that remains has a count
-- that is not 0; every closed path lies in what remains. The measure is 512 less the head. The first loop has it of the nodes
-- passed; the loops within take off the steps from the node at the head, and then have it but for the next values not yet offered.
-- At the end each node that remains has a predecessor that remains, so nodes remain exactly if there is a closed path.
use Prim.Native.Nat.{◌-◌}
use mathlib.Core.Path.{◌≡◌}
use Rattle.graph.specs.Working.{Plus, Peel, Busy, Peeling}
use Rattle.graph.proofs.PeelingLaws.{times, Offering}
use Rattle.graph.proofs.Graph.peeled.Given as goal

abbrev pub invariant-loop-w : goal.invariant-loop-w
invariant-loop-w l =
    Peel l.self.old.now l.self.new.now l.self.choice.now l.alive l.peeling.rest.now l.count l.peeling.queue.items.now
    l.peeling.queue.head
    l.peeling.queue.tail
    × Busy l.peeling.rest.now l.count l.w

abbrev pub invariant-loop-v : goal.invariant-loop-v
invariant-loop-v l =
    Peeling l.self.old.now l.self.new.now l.self.choice.now l.alive l.peeling.rest.now l.count l.peeling.queue.items.now
    l.peeling.queue.head
    l.peeling.queue.tail

abbrev pub decreases-loop-v : goal.decreases-loop-v
decreases-loop-v l = 512 - l.peeling.queue.head

abbrev pub invariant-loop-w-2 : goal.invariant-loop-w-2
invariant-loop-w-2 l = Plus l.count (times l.w-items l.w-index) l.initial.count

abbrev pub invariant-loop-w-3 : goal.invariant-loop-w-3
invariant-loop-w-3 l =
    (l.peeling.queue.head ≡ l.initial.peeling.queue.head)
    × Offering l.self.old.now l.self.new.now l.self.choice.now l.alive l.peeling.rest.now l.count l.peeling.queue.items.now
    l.peeling.queue.head
    l.peeling.queue.tail
    l.w-items
    l.w-index
