-- `plans::plan::pass` meets its contract. The loop's invariant: the switches before index i have been tried in order, the first
-- `kept` of the list are those that wait, and the others from i on are as they were.
use Rattle.rounds.specs.Mode.{mode_no}
use Rattle.plans.specs.Working.{Pass}
use Rattle.plans.proofs.plan.pass.Given as goal

abbrev pub invariant-loop-i : goal.invariant-loop-i
invariant-loop-i l =
    let z = l.setting in
    let w = l.initial.waiting in
    Pass (mode_no z.mode) z.old.now z.new.now z.source l.initial.choice w.nodes w.many l.seen l.choice l.waiting.nodes l.i l.kept
