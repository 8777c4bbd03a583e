-- `bench_calls::bench_write` meets its contract: the reply and the lent bytes are those of the writer, and each case of the reply is
-- packed.
use Rattle.std.specs.Prelude.{Ok, Err}
use Rattle.bench_calls.proofs.bench_write.Goals as goal

pub returns-in-Ok : goal.returns-in-Ok
returns-in-Ok c =
    record {
      reply = Ok _;
      replied = c.in-Ok.ensures;
      in_one = c.pack.ensures;
    }

pub returns-in-Err : goal.returns-in-Err
returns-in-Err c =
    record {
      reply = Err _;
      replied = c.in-Err.ensures;
      in_one = c.refused.ensures;
    }
