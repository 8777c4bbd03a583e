-- `check::paint` meets its contract. The loop's invariant: the ids before the index i are painted.
use Rattle.house.specs.Numbers.{entries}
use Rattle.rounds.specs.Working.{Painted}
use Rattle.rounds.proofs.check.paint.Given as goal

abbrev pub invariant-loop-i : goal.invariant-loop-i
invariant-loop-i l = Painted (entries l.ids) l.from l.i l.q l.initial.choice l.choice
