use Prim.Native.Nat.{◌<◌}
use mathlib.Core.Path.{◌≡◌, ◌∙◌}
use native.Mathlib.Omega.{arith}
use lib.ListN.{length, get_or}
use Rattle.house.specs.Numbers.{entries}
use Rattle.house.proofs.NumberLaws.{length_entries}
use Rattle.planfile.proofs.StoreLaws.{are_bytes}
use Rattle.planfile.proofs.WriteLaws.{putting_none, putting_within, putting_room, putting_more, putting_end}
use Rattle.planfile.proofs.write.put_rounds.Goals as goal
use Rattle.planfile.proofs.write.put_rounds.Goals.{In-loop-t, After-from}

-- the round is one of those given, and its size is read
one_of : (c : In-loop-t) → c.loop-t.t < length (entries c.args.sizes.now)
one_of c = omega (arith, length_entries c.args.sizes.now)

size_read : (c : After-from) → c.from.result ≡ get_or (entries c.args.sizes.now) c.loop-t.t 0
size_read c = c.from.ensures ∙ c.entry.ensures

pub loop-t-init : goal.loop-t-init
loop-t-init c = putting_none c.args.file.now c.args.at c.args.ids.now c.args.sizes.now

pub overflow_add-to : goal.overflow_add-to
overflow_add-to c =
    let within = putting_within c.requires c.loop-t.invariant
    (one_of (goal.at.overflow_add-to c).In-loop-t)
    (size_read (goal.at.overflow_add-to c).After-from)
    in
    omega (arith, within, c.requires.short)

pub slice_bounds-put_record-end : goal.slice_bounds-put_record-end
slice_bounds-put_record-end c =
    putting_within c.requires c.loop-t.invariant
    (one_of (goal.at.slice_bounds-put_record-end c).In-loop-t)
    (size_read (goal.at.slice_bounds-put_record-end c).After-from)

pub put_record-next-requires : goal.put_record-next-requires
put_record-next-requires c =
    putting_room c.requires c.loop-t.invariant
    (one_of (goal.at.put_record-next-requires c).In-loop-t)
    (size_read (goal.at.put_record-next-requires c).After-from)

pub loop-t-preserved : goal.loop-t-preserved
loop-t-preserved c =
    putting_more c.requires c.loop-t.invariant
    (one_of (goal.at.loop-t-preserved c).In-loop-t)
    (size_read (goal.at.loop-t-preserved c).After-from)
    (are_bytes c.type_inv.ids)
    c.put_record-next.ensures

pub returns : goal.returns
returns c = putting_end c.requires c.loop-t.invariant (omega (arith, length_entries c.args.sizes.now))
