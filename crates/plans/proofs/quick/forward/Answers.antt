use Prim.Native.Nat.{◌-◌, ◌<◌}
use native.Mathlib.Omega.{arith}
use mathlib.Core.Path.{sym, ◌∙◌}
use Rattle.std.proofs.Common.{rules}
use Rattle.house.proofs.NumberLaws.{length_entries}
use Rattle.plans.proofs.QuickLaws.{before_is, places_off, places_on, passing_begins, passing_off, passing_on, passed}
use Rattle.plans.proofs.quick.forward.Goals as goal

pub loop-i-init : goal.loop-i-init
loop-i-init c = passing_begins _ _ (sym (length_entries _))

pub loop-i-preserved-in-Some : goal.loop-i-preserved-in-Some
loop-i-preserved-in-Some c =
    let p = c.args.pair.now in
    let l = c.loop-i in
    let there = c.from-v.ensures ∙ c.entry.ensures in
    let small : c.from-v.result < 512 = omega (arith, there, p.good.new.ids (l.i - 1) (omega (arith, l.invariant.within, c.loop-i-test.true))) in
    let on = places_on c.positions-at.ensures _ c.in-Some.is in
    passing_on (l.i - 1) p.good.new l.invariant (omega (arith, c.loop-i-test.true)) there small on.0 on.1
    (before_is _ c.loop-i.next _ c.is_some_and.ensures (λ y q. search rules))

pub loop-i-preserved : goal.loop-i-preserved
loop-i-preserved c =
    passing_off (c.loop-i.i - 1) c.args.pair.now.good.new c.loop-i.invariant (omega (arith, c.loop-i-test.true)) (c.from-v.ensures ∙ c.entry.ensures)
    (places_off c.positions-at.ensures _ (search rules))

pub returns : goal.returns
returns c = passed c.loop-i.invariant (omega arith)
