use Prim.Native.Nat.{ℕ}
use native.Mathlib.Omega.{arith}
use mathlib.Core.Path.{◌≡◌, refl}
use Rattle.std.proofs.Common.{rules}
use Rattle.plans.proofs.MarkLaws.{marking_begins, marking_more, fresh_made, closing_none}
use Rattle.plans.proofs.plan.closes.Goals as goal

pub loop-v-init : goal.loop-v-init
loop-v-init c = marking_begins _ _ refl

pub loop-v-preserved : goal.loop-v-preserved
loop-v-preserved c = marking_more c.loop-v.invariant c.loop-v-test.true refl

pub returns-then-contains : goal.returns-then-contains
returns-then-contains c =
    let e : ◌≡◌ {A = ℕ} c.loop-v.v 512 = omega arith in
    record { among = _; fresh = fresh_made (rw e at c.loop-v.invariant); closed = c.cyclic.ensures }

pub returns-else-contains : goal.returns-else-contains
returns-else-contains c =
    let e : ◌≡◌ {A = ℕ} c.loop-v.v 512 = omega arith in
    rw c.if-contains.false (closing_none _ _ _ (fresh_made (rw e at c.loop-v.invariant)) (λ v h e. search rules))
