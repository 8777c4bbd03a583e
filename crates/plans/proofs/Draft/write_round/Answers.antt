-- `plans::Draft::write_round` meets its contract: once all nodes of the present round are entered the round is written, with
-- their number if there are any.
use native.Mathlib.Omega.{arith}
use Rattle.plans.proofs.WriteLaws.{entering_begins, round_fits, wrote_none, wrote_some}
use Rattle.plans.proofs.Draft.write_round.Goals as goal

pub enter_all-count-requires : goal.enter_all-count-requires
enter_all-count-requires c = entering_begins c.requires

pub returns-then-count-done-clause-wrote : goal.returns-then-count-done-clause-wrote
returns-then-count-done-clause-wrote c = wrote_none c.requires (rw c.if-count-done.true at c.enter_all-count.ensures)

pub overflow_cast-count : goal.overflow_cast-count
overflow_cast-count c = omega (arith, round_fits c.requires c.enter_all-count.ensures)

pub returns-clause-wrote : goal.returns-clause-wrote
returns-clause-wrote c = wrote_some c.requires c.enter_all-count.ensures (λ e. omega arith) c.put_entry.ensures
