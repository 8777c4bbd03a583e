-- `read::read` meets its contract: 1 is given first, from the lengths of the lent slices, then 2; going through the records then
-- gives 3, or a file with no wrong record.
use mathlib.Core.Path.{◌≡◌}
use borrow.Author.Rules.{rules}
use Rattle.std.specs.Prelude.{Err}
use Rattle.planfile.specs.Parts.{Room}
use Rattle.planfile.specs.Replies.{short_old, short_new, short_ids, short_sizes}
use Rattle.house.proofs.RefusalLaws.{unfit_first}
use Rattle.planfile.proofs.ReadLaws.{refuses, first_long, scanned_wrong}
use Rattle.planfile.proofs.read.read.Goals as goal
use Rattle.planfile.proofs.read.read.Goals.{
  Else-sizes-lt2048,
  then-old-lt512-via-then-old-lt512,
  then-old-lt512-via-else-old-lt512+then-new-lt512,
  then-old-lt512-via-else-old-lt512+else-new-lt512+then-ids-lt4096,
  then-old-lt512-via-else-old-lt512+else-new-lt512+else-ids-lt4096+then-sizes-lt2048,
}

-- past the first tests there is room
roomy : (c : Else-sizes-lt2048) → Room c.args.old.now c.args.new.now c.args.ids.now c.args.sizes.now
roomy c =
    record {
      for_old = c.if-old-lt512.false;
      for_new = c.if-new-lt512.false;
      for_ids = c.if-ids-lt4096.false;
      for_sizes = c.if-sizes-lt2048.false;
    }

pub returns-then-old-lt512 : goal.returns-then-old-lt512
returns-then-old-lt512 c =
    elim c.then-old-lt512.branch [
      | then-old-lt512-via-then-old-lt512 w ↦ refuses (unfit_first (short_old w.if-old-lt512.true))
      | then-old-lt512-via-else-old-lt512+then-new-lt512 w ↦ refuses (unfit_first (short_new w.if-new-lt512.true))
      | then-old-lt512-via-else-old-lt512+else-new-lt512+then-ids-lt4096 w ↦
          refuses (unfit_first (short_ids w.if-ids-lt4096.true))
      | then-old-lt512-via-else-old-lt512+else-new-lt512+else-ids-lt4096+then-sizes-lt2048 w ↦
          refuses (unfit_first (short_sizes w.if-sizes-lt2048.true))
    ]

pub returns-then-file-gt4092 : goal.returns-then-file-gt4092
returns-then-file-gt4092 c =
    refuses (first_long (roomy (goal.at.returns-then-file-gt4092 c).Else-sizes-lt2048) c.if-file-gt4092.true)

pub returns-in_err-bodies : goal.returns-in_err-bodies
returns-in_err-bodies c =
    let e : c.from_residual.result ≡ Err c.in_err-bodies.field-0.0 = search rules in
    let room = roomy (goal.at.returns-in_err-bodies c).Else-sizes-lt2048 in
    rw e (refuses (scanned_wrong room c.if-file-gt4092.false c.in_err-bodies.ensures))
