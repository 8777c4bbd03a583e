-- `plans::plan::closes` meets its contract: where no node is new no closed path lies among the new ones. The loop's invariant: below v
-- the marks are those that are new.
use Rattle.plans.proofs.MarkLaws.{Marking, newly}
use Rattle.plans.proofs.plan.closes.Given as goal

abbrev pub invariant-loop-v : goal.invariant-loop-v
invariant-loop-v l = Marking (newly l.seen l.more) l.initial.fresh l.fresh 512 l.v
