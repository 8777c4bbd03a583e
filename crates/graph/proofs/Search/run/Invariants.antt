-- `graph::Search::run` meets its contract. The outer loop's invariant: the marked numbers, among them the start, are reached,
-- and each marked number waits in the queue from the head on or has all its next values marked. The measure is 514 less the
-- head. The inner loop's: the same of the queue before v was taken, and the next values passed are marked.
use Prim.Native.Nat.{◌-◌}
use mathlib.Core.Path.{◌≡◌}
use Rattle.graph.specs.Working.{Begun}
use Rattle.graph.proofs.SearchLaws.{Following}
use Rattle.graph.proofs.Search.run.Given as goal

abbrev pub invariant-loop-v : goal.invariant-loop-v
invariant-loop-v g l =
    Begun l.graph.old.now l.graph.new.now l.graph.choice.now l.start l.self.seen.now l.self.queue.items.now l.self.queue.head
    l.self.queue.tail

abbrev pub decreases-loop-v : goal.decreases-loop-v
decreases-loop-v g l = 514 - l.self.queue.head

abbrev pub invariant-loop-w : goal.invariant-loop-w
invariant-loop-w g l =
    (l.self.queue.head ≡ l.initial.self.queue.head)
    × Following l.graph.old.now l.graph.new.now l.graph.choice.now l.start l.self.seen.now l.self.queue.items.now l.self.queue.head
    l.self.queue.tail
    l.v
    l.w-items
    l.w-index
