-- `check::write` meets its contract. The loop's invariant: the first i words are written, and what lies past them is kept.
use Rattle.rounds.proofs.ReplyLaws.{Begun}
use Rattle.rounds.proofs.check.write.Given as goal

abbrev pub invariant-loop-i : goal.invariant-loop-i
invariant-loop-i l = Begun l.subset.words l.initial.set l.set l.i
