-- `write::put_rounds` meets its contract. The loop's invariant is `Putting`: the first `t` rounds are stored.
use Rattle.planfile.proofs.WriteLaws.{Putting}
use Rattle.planfile.proofs.write.put_rounds.Given as goal

abbrev pub invariant-loop-t : goal.invariant-loop-t
invariant-loop-t l = Putting l.initial.file l.at l.ids l.sizes l.next l.from l.t l.file
