use Rattle.plans.proofs.PassLaws.{pass_begins, pass_free, pass_joins, pass_waits, pass_ends}
use Rattle.plans.proofs.plan.pass.Goals as goal
use Rattle.plans.proofs.plan.pass.Goals.{then-may_join, else-may_join}

pub loop-i-init : goal.loop-i-init
loop-i-init c = pass_begins c.requires.lined c.requires.fits c.glance-seen.ensures

pub may_join-requires-clause-free : goal.may_join-requires-clause-free
may_join-requires-clause-free c = rw c.from-v.ensures (pass_free c.loop-i.invariant c.loop-i-test.true)

pub may_join-requires-clause-fits : goal.may_join-requires-clause-fits
may_join-requires-clause-fits c = c.loop-i.invariant.fits

pub may_join-requires-clause-marks : goal.may_join-requires-clause-marks
may_join-requires-clause-marks c = c.loop-i.invariant.marks

pub loop-i-preserved : goal.loop-i-preserved
loop-i-preserved c =
    let p = c.loop-i.invariant in
    let h = c.loop-i-test.true in
    elim c.if-may_join.branch [
      | then-may_join w ↦
          rw (w.choice-is, w.waiting-is, w.kept-is) (pass_joins p h c.from-v.ensures (rw w.if-may_join.true at c.may_join.ensures))
      | else-may_join w ↦
          rw (w.choice-is, w.waiting-is, w.kept-is, ← c.from-v.ensures)
          (pass_waits p h c.from-v.ensures (rw w.if-may_join.false at c.may_join.ensures))
    ]

pub returns : goal.returns
returns c = pass_ends c.loop-i.invariant c.loop-i-test.false
