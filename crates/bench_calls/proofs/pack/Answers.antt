-- `bench_calls::pack` meets its contract: each number has its room, so that no sum or product leaves 64 bits.
use native.Mathlib.Omega.{arith}
use Rattle.bench_calls.specs.Packed.{packed}
use Rattle.bench_calls.proofs.pack.Goals as goal

pub returns : goal.returns
unfolding packed
returns c = omega arith
