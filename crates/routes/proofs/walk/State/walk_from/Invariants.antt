-- `routes::walk::State::walk_from` meets its contract. The loop's invariant is `Walking`: the walk stands at `at` after `hops`
-- hops, `seen` marks exactly the nodes come to before, none of those was come to twice, and hops and unmarked nodes are 512
-- together. The measure is how many nodes are unmarked.
use Rattle.house.specs.Sets.{has}
use Rattle.routes.specs.WalkParts.{next_in}
use Rattle.routes.proofs.WalkPartsLaws.{Walking, falses}
use Rattle.routes.proofs.walk.State.walk_from.Given as goal

abbrev pub invariant-loop-seen : goal.invariant-loop-seen
invariant-loop-seen l =
    Walking (next_in l.self.old.now l.self.new.now (has l.self.changed.now.words)) l.s l.seen l.at l.hops

abbrev pub decreases-loop-seen : goal.decreases-loop-seen
decreases-loop-seen l = falses l.seen
