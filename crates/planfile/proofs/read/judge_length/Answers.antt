-- `read::judge_length` meets its contract: it refuses a route that is too short, and one that is too long.
use native.Mathlib.Omega.{arith}
use Rattle.planfile.specs.Parts.{length_right, length_few, length_many}
use Rattle.planfile.proofs.read.judge_length.Goals as goal
use Rattle.planfile.proofs.read.judge_length.Goals.{then-ids-lt2-via-then-ids-lt2, then-ids-lt2-via-else-ids-lt2+then-ids-gt256}

pub returns-then-ids-lt2 : goal.returns-then-ids-lt2
returns-then-ids-lt2 c =
    elim c.then-ids-lt2.branch [
      | then-ids-lt2-via-then-ids-lt2 w ↦ length_few (omega (arith, w.if-ids-lt2.true))
      | then-ids-lt2-via-else-ids-lt2+then-ids-gt256 w ↦ length_many (omega (arith, w.if-ids-gt256.true))
    ]

pub returns : goal.returns
returns c = length_right (omega arith) (omega arith)
