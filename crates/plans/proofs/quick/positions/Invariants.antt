-- `plans::quick::positions` meets its contract. The loop's invariant: the table holds the positions of the first i ids.
use Rattle.house.specs.Numbers.{entries}
use Rattle.plans.specs.QuickParts.{Places}
use Rattle.plans.proofs.quick.positions.Given as goal

abbrev pub invariant-loop-i : goal.invariant-loop-i
invariant-loop-i l = Places (entries l.pair.old.now) l.at l.i
