-- `graph::Search::visit` meets its contract: a number is visited in one of three ways. The queue has room, because it is as
-- long as the marks are many and w is not marked.
use native.Mathlib.Omega.{arith}
use Rattle.graph.specs.Working.{over, known, fresh}
use Rattle.graph.proofs.SearchLaws.{room_left}
use Rattle.graph.proofs.Search.visit.Goals as goal
use Rattle.graph.proofs.Search.visit.Goals.{else-w-lt514-via-then-w-lt514+else-not-self-w, else-w-lt514-via-else-w-lt514}

pub push-requires : goal.push-requires
push-requires c = (omega arith, (room_left c.args.w c.requires c.if-w-lt514.true c.if-not-self-w.true, omega arith))

pub returns-then-not-self-w-clause-visited : goal.returns-then-not-self-w-clause-visited
returns-then-not-self-w-clause-visited c =
    rw (c.push.ensures.items, c.push.ensures.tail) (fresh c.if-w-lt514.true c.if-not-self-w.true)

pub returns-else-w-lt514-clause-visited : goal.returns-else-w-lt514-clause-visited
returns-else-w-lt514-clause-visited c =
    elim c.else-w-lt514.branch [
      | else-w-lt514-via-then-w-lt514+else-not-self-w w ↦ known w.if-not-self-w.false
      | else-w-lt514-via-else-w-lt514 w ↦ over w.if-w-lt514.false
    ]
