use Prim.Native.Nat.{◌-◌}
use native.Mathlib.Omega.{arith}
use mathlib.Core.Path.{◌≡◌, ◌∙◌}
use Rattle.std.proofs.Common.{rules, ℕ}
use Rattle.house.proofs.NumberLaws.{length_entries}
use Rattle.plans.proofs.SeekLaws.{backward_begins, backward_skips, backward_takes}
use Rattle.plans.proofs.plan.Waiting.fill.Goals as goal

pub loop-i-init : goal.loop-i-init
loop-i-init c = backward_begins _ _ _ (omega (arith, length_entries c.args.pair.now.new.now)) c.requires

pub loop-i-preserved-then-eq : goal.loop-i-preserved-then-eq
loop-i-preserved-then-eq c =
    backward_takes (c.loop-i.i - 1) c.loop-i.invariant (omega (arith, c.loop-i-test.true)) c.entry-id.ensures c.args.pair.now.good.new.most
    (search rules)

pub loop-i-preserved : goal.loop-i-preserved
loop-i-preserved c =
    backward_skips (c.loop-i.i - 1) c.loop-i.invariant (omega (arith, c.loop-i-test.true)) (c.from.ensures ∙ c.entry-id.ensures)
    (λ e. search rules)

pub returns : goal.returns
returns c = let e : ◌≡◌ {A = ℕ} c.loop-i.i 0 = omega arith in rw e at c.loop-i.invariant
