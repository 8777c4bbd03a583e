-- `plans::plan::merge` meets its contract. The loop's invariant: below v the marks are those of both lists, from v on they are as they
-- were.
use Rattle.plans.proofs.MarkLaws.{Marking, both}
use Rattle.plans.proofs.plan.merge.Given as goal

abbrev pub invariant-loop-v : goal.invariant-loop-v
invariant-loop-v l = Marking (both l.initial.seen l.more) l.initial.seen l.seen 514 l.v
