use Rattle.std.proofs.Common.{arith}
use Rattle.rounds.specs.Mode.{is_mode, over}
use Rattle.rounds.proofs.mode.ModeTryFromU16.try_from.Goals as goal

pub returns-in-0 : goal.returns-in-0
returns-in-0 c = is_mode (omega arith)

pub returns-in-1 : goal.returns-in-1
returns-in-1 c = is_mode (omega arith)

pub returns-in_default : goal.returns-in_default
returns-in_default c = over (omega arith)
