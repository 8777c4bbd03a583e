-- `read::copy_rounds` meets its contract. The loop's invariant is `Copying`: the rounds up to `at` are copied. The measure is the
-- number of bytes left.
use Prim.Native.Nat.{◌-◌}
use lib.ListN.{length}
use Rattle.planfile.proofs.ReadLaws.{Copying}
use Rattle.planfile.proofs.read.copy_rounds.Given as goal

abbrev pub invariant-loop-at : goal.invariant-loop-at
invariant-loop-at l = Copying l.file l.from l.initial.ids l.initial.sizes l.at l.copied.ids l.copied.rounds l.ids l.sizes

abbrev pub decreases-loop-at : goal.decreases-loop-at
decreases-loop-at l = length l.file - l.at
