-- `plans::seek` meets its contract. The loop's invariant: the nodes wanted below v are of the present round, and all others are as
-- they were.
use Rattle.plans.specs.Working.{SoughtBy}
use Rattle.plans.proofs.seek.Given as goal

abbrev pub invariant-loop-v : goal.invariant-loop-v
invariant-loop-v g l = SoughtBy (λ v b. g.F.Fn.post l.wanted (v, tt) b) l.initial.choice l.choice l.v
