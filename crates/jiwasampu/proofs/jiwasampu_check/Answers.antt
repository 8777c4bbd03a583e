-- `jiwasampu::jiwasampu_check` meets its contract: the reply and the lent bytes are those of the check, and each case of the reply
-- is packed into its lanes.
use Rattle.std.specs.Prelude.{Ok, Err}
use Rattle.jiwasampu.proofs.jiwasampu_check.Goals as goal

pub returns-in-Ok : goal.returns-in-Ok
returns-in-Ok c =
    record {
      reply = Ok _;
      replied = c.in-Ok.ensures;
      in_lanes = c.pack.ensures;
    }

pub returns-in-Err : goal.returns-in-Err
returns-in-Err c =
    record {
      reply = Err _;
      replied = c.in-Err.ensures;
      in_lanes = c.refused.ensures;
    }
