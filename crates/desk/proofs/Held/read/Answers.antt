-- `Held::read` meets its contract: what was read stands at the fronts of the four arrays.
use native.Mathlib.Omega.{arith}
use Rattle.desk.proofs.ProgramLaws.{read_within, read_content}
use Rattle.desk.proofs.Held.read.Goals as goal

pub invariant_of-result : goal.invariant_of-result
invariant_of-result c =
    let w = read_within (rw c.in_ok-content.was at c.read.ensures) in
    record {
      old_within = omega (arith, w.0);
      new_within = omega (arith, w.1);
      ids_within = omega (arith, w.2);
      sizes_within = omega (arith, w.3);
    }

pub returns-clause-held : goal.returns-clause-held
returns-clause-held c =
    let q = c.requires in
    read_content (rw (q.old, q.new, q.ids, q.sizes, c.in_ok-content.was) at c.read.ensures)
