use Prim.Native.Nat.{◌<◌}
use native.Mathlib.Omega.{arith}
use mathlib.Core.Path.{◌≡◌, ◌∙◌}
use lib.ListN.{length}
use Rattle.house.specs.Numbers.{entries}
use Rattle.house.proofs.NumberLaws.{length_entries}
use Rattle.plans.proofs.QuickLaws.{places_begins, places_more}
use Rattle.plans.proofs.quick.positions.Goals as goal

pub loop-i-init : goal.loop-i-init
loop-i-init c = places_begins _

pub overflow_cast-at : goal.overflow_cast-at
overflow_cast-at c = let p = c.args.pair.now in omega (arith, c.loop-i-test.true, length_entries p.old.now, p.good.old.most)

pub loop-i-preserved : goal.loop-i-preserved
loop-i-preserved c =
    let p = c.args.pair.now in
    let below : c.loop-i.i < length (entries p.old.now) = omega (arith, c.loop-i-test.true, length_entries p.old.now) in
    places_more p.good.old c.loop-i.invariant below (c.from-v.ensures ∙ c.entry.ensures)

pub returns : goal.returns
returns c =
    let r = c.args.pair.now.old.now in
    let e : c.loop-i.i ≡ length (entries r) = omega (arith, c.loop-i-test.false, c.loop-i.auto.i-end, length_entries r) in
    rw e at c.loop-i.invariant
