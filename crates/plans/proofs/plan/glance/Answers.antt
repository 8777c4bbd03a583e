-- `plans::plan::glance` meets its contract: strong mode asks nothing of the marks.
use Rattle.plans.proofs.PassLaws.{glance_strong, glance_relaxed}
use Rattle.plans.proofs.plan.glance.Goals as goal

pub returns-in-Strong : goal.returns-in-Strong
returns-in-Strong c = rw c.in-Strong.is (glance_strong _ _ _ _)

pub returns-in-Relaxed : goal.returns-in-Relaxed
returns-in-Relaxed c =
    let g = c.graph.ensures in
    rw c.in-Relaxed.is (glance_relaxed (rw (g.old, g.new, g.choice) at c.reach.ensures))
