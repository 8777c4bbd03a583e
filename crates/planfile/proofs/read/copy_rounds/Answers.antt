use Prim.Native.Nat.{ℕ, ◌/◌}
use mathlib.Core.Path.{◌≡◌, ap, ◌∙◌}
use native.Mathlib.Nat.{add-zero}
use native.Mathlib.Omega.{arith}
use Rattle.planfile.specs.File.{size_at}
use Rattle.planfile.proofs.RecordLaws.{Right, head_at}
use Rattle.planfile.proofs.StoreLaws.{are_bytes}
use Rattle.planfile.proofs.ReadLaws.{copying_none, copying_right, copying_more}
use Rattle.planfile.proofs.read.copy_rounds.Goals as goal
use Rattle.planfile.proofs.read.copy_rounds.Goals.{After-entry-size}

-- what is read is the length of the record there, which is right
size_read : (c : After-entry-size) → c.entry-size.result ≡ size_at c.args.file.now c.loop-at.at
size_read c =
    let f = c.args.file.now in
    let p = c.loop-at.at in
    let here : Right f 4 p = copying_right c.requires c.loop-at.invariant c.loop-at-test.true in
    c.entry-size.ensures ∙ head_at f p 0 (omega (arith, here.head)) ∙ ap (size_at f) (add-zero p)

pub loop-at-init : goal.loop-at-init
loop-at-init c = copying_none c.requires

pub slice_bounds-store-end : goal.slice_bounds-store-end
slice_bounds-store-end c =
    omega (
      arith,
      c.from.ensures,
      size_read (goal.at.slice_bounds-store-end c).After-entry-size,
      (copying_right c.requires c.loop-at.invariant c.loop-at-test.true).within,
    )

pub loop-at-preserved : goal.loop-at-preserved
loop-at-preserved c =
    let size : c.entry-size.result ≡ size_at c.args.file.now c.loop-at.at =
    size_read (goal.at.loop-at-preserved c).After-entry-size
    in
    copying_more c.requires c.loop-at.invariant (are_bytes c.type_inv.file) c.loop-at-test.true
    (c.from.ensures ∙ size)
    size
    (c.from-in-loop-at.ensures ∙ ap (λ (x : ℕ). x / 2) size)
    c.store.ensures
    c.put_entry.ensures
