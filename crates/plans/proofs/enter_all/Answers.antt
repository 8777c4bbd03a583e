use Prim.Native.Nat.{ℕ}
use native.Mathlib.Omega.{arith}
use mathlib.Core.Path.{◌≡◌}
use Rattle.plans.proofs.WriteLaws.{entering_room, entering_passes, entering_takes}
use Rattle.plans.proofs.enter_all.Goals as goal
use Rattle.plans.proofs.enter_all.Goals.{then-choice-v-gt-NEW, else-choice-v-gt-NEW}

pub overflow_add-count : goal.overflow_add-count
overflow_add-count c = omega (arith, entering_room c.loop-v.invariant c.loop-v-test.true c.if-choice-v-gt-NEW.true)

pub loop-v-preserved : goal.loop-v-preserved
loop-v-preserved c =
    let s = c.loop-v.invariant in
    let h = c.loop-v-test.true in
    elim c.if-choice-v-gt-NEW.branch [
      | then-choice-v-gt-NEW w ↦
          rw (w.choice-is, w.ids-is, w.count-is) (entering_takes s h w.if-choice-v-gt-NEW.true w.put_entry.ensures)
      | else-choice-v-gt-NEW w ↦
          rw (w.choice-is, w.ids-is, w.count-is) (entering_passes s h w.if-choice-v-gt-NEW.false)
    ]

pub returns : goal.returns
returns c = let e : ◌≡◌ {A = ℕ} c.loop-v.v 512 = omega arith in rw e at c.loop-v.invariant
