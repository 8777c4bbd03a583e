use Prim.Native.Nat.{ℕ}
use native.Mathlib.Omega.{arith}
use mathlib.Core.Path.{◌≡◌, refl}
use Rattle.plans.proofs.MarkLaws.{marking_begins, marking_more, merged}
use Rattle.plans.proofs.plan.merge.Goals as goal

pub loop-v-init : goal.loop-v-init
loop-v-init c = marking_begins _ _ c.told-seen

pub loop-v-preserved : goal.loop-v-preserved
loop-v-preserved c = marking_more c.loop-v.invariant c.loop-v-test.true (rw (c.loop-v.invariant.past c.loop-v.v (omega arith)) refl)

pub returns : goal.returns
returns c = let e : ◌≡◌ {A = ℕ} c.loop-v.v 514 = omega arith in merged (rw e at c.loop-v.invariant)
