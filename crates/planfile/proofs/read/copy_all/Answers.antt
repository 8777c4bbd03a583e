-- `read::copy_all` meets its contract: the lengths of the routes are judged, the old one's first, and where both are right each body
-- is copied to the front of its slice.
use Prim.Native.Nat.{ℕ, ◌+◌}
use mathlib.Core.Path.{◌≡◌, ap, ◌∙◌}
use native.Mathlib.Nat.{add-zero}
use native.Mathlib.Omega.{arith}
use lib.ListN.{take, drop}
use borrow.Author.Rules.{rules}
use Rattle.std.specs.Prelude.{Err}
use Rattle.house.specs.Numbers.{le}
use Rattle.planfile.proofs.RecordLaws.{head_at}
use Rattle.planfile.proofs.StoreLaws.{are_bytes}
use Rattle.planfile.proofs.ReadLaws.{refuses, old_wrong, new_wrong, rounds_within, rounds_ready, all_copied}
use Rattle.planfile.proofs.read.copy_all.Goals as goal

pub returns-in_err-judge_length : goal.returns-in_err-judge_length
returns-in_err-judge_length c =
    let e : c.from_residual.result ≡ Err c.in_err-judge_length.field-0.0 = search rules in
    rw e (refuses (old_wrong c.requires c.in_err-judge_length.ensures))

pub returns-in_err-judge_length-2 : goal.returns-in_err-judge_length-2
returns-in_err-judge_length-2 c =
    let e : c.from_residual-in_err-judge_length-2.result ≡ Err c.in_err-judge_length-2.field-0.0 = search rules in
    rw e (refuses (new_wrong c.requires c.in_ok-judge_length.ensures c.in_err-judge_length-2.ensures))

pub slice_bounds-store-end : goal.slice_bounds-store-end
slice_bounds-store-end c = omega (arith, rounds_within c.requires)

pub slice_bounds-store-end-2 : goal.slice_bounds-store-end-2
slice_bounds-store-end-2 c = omega (arith, rounds_within c.requires)

pub slice_bounds-entry-count : goal.slice_bounds-entry-count
slice_bounds-entry-count c = omega (arith, rounds_within c.requires)

pub slice_bounds-entry-start : goal.slice_bounds-entry-start
slice_bounds-entry-start c = omega (arith, rounds_within c.requires)

pub copy_rounds-copied-requires : goal.copy_rounds-copied-requires
copy_rounds-copied-requires c = rounds_ready c.requires

pub returns : goal.returns
returns c =
    let f = c.args.file.now in
    let m = 4 + c.args.bodies.old + 4 + c.args.bodies.new + 4 in
    -- what is read as the mode
    let mode_read : c.entry-mode.result ≡ le (take 2 (drop m f)) =
    c.entry-mode.ensures
    ∙ head_at f m 0 (omega (arith, rounds_within c.requires))
    ∙ ap (λ (p : ℕ). le (take 2 (drop p f))) (add-zero m)
    in
    all_copied c.requires c.in_ok-judge_length.ensures c.in_ok-judge_length-2.ensures (are_bytes c.type_inv.file)
    c.store.ensures
    c.store-2.ensures
    mode_read
    c.copy_rounds-copied.ensures
