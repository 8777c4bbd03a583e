use Prim.Native.Nat.{ℕ}
use native.Mathlib.Omega.{arith}
use mathlib.Core.Path.{◌≡◌}
use Rattle.plans.proofs.SeekLaws.{seeks_begins, seeks_skips, seeks_takes}
use Rattle.plans.proofs.seek.Goals as goal
use Rattle.plans.proofs.seek.Goals.{then-wanted, else-wanted}

pub loop-v-init : goal.loop-v-init
loop-v-init g c = seeks_begins _ c.told-choice

pub loop-v-preserved : goal.loop-v-preserved
loop-v-preserved g c =
    let s = c.loop-v.invariant in
    let h = c.loop-v-test.true in
    elim c.if-wanted.branch [
      | then-wanted w ↦ rw w.choice-is (seeks_takes s h w.if-wanted.ensures)
      | else-wanted w ↦ rw w.choice-is (seeks_skips s h w.if-wanted.ensures)
    ]

pub returns : goal.returns
returns g c = let e : ◌≡◌ {A = ℕ} c.loop-v.v 512 = omega arith in rw e at c.loop-v.invariant
