use native.Mathlib.Omega.{arith}
use Rattle.rounds.proofs.ReplyLaws.{write_none, write_next, write_all}
use Rattle.rounds.proofs.check.write.Goals as goal

pub loop-i-init : goal.loop-i-init
loop-i-init c = write_none _ _

pub loop-i-preserved : goal.loop-i-preserved
loop-i-preserved c =
    write_next (omega arith) c.requires (omega arith) c.loop-i.invariant c.put_word.ensures

pub returns : goal.returns
returns c = write_all (omega arith) (omega arith) c.loop-i.invariant
