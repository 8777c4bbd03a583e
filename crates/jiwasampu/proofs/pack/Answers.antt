-- `jiwasampu::pack` meets its contract: each lane is below 65,536, so that no sum or product leaves 64 bits, and the number is
-- that of the four lanes.
use native.Mathlib.Omega.{arith}
use Rattle.jiwasampu.specs.Lanes.{lanes}
use Rattle.jiwasampu.proofs.pack.Goals as goal

pub returns : goal.returns
unfolding lanes
returns c = omega arith
