-- `plans::quick::forward` meets its contract. The loop's invariant: the nodes of the new route from index i on are marked, and
-- `next` is the position of the first of these that is on both routes.
use Rattle.house.specs.Numbers.{entries}
use Rattle.plans.proofs.QuickLaws.{Passing}
use Rattle.plans.proofs.quick.forward.Given as goal

abbrev pub invariant-loop-i : goal.invariant-loop-i
invariant-loop-i l = Passing (entries l.pair.old.now) (entries l.pair.new.now) l.marks l.next l.i
