-- `read::go_through` meets its contract. The loop's invariant is `Gone`: the records so far are right, and a round is expected
-- next. The measure is the number of bytes left.
use Prim.Native.Nat.{◌-◌}
use lib.ListN.{length}
use Rattle.planfile.proofs.ReadLaws.{Gone}
use Rattle.planfile.proofs.read.go_through.Given as goal

abbrev pub invariant-loop-round : goal.invariant-loop-round
invariant-loop-round l = Gone l.file l.old.size l.new.size l.at

abbrev pub decreases-loop-round : goal.decreases-loop-round
decreases-loop-round l = length l.file - l.at
