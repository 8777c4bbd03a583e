-- `plans::enter_all` meets its contract. The loop's invariant: the nodes below v of the present round are written and placed, and
-- the ids are as many as nodes are placed.
use Rattle.plans.specs.Working.{Entering}
use Rattle.plans.proofs.enter_all.Given as goal

abbrev pub invariant-loop-v : goal.invariant-loop-v
invariant-loop-v l = Entering l.initial.choice l.initial.ids l.first l.choice l.ids l.count l.v
