use native.Mathlib.Omega.{arith}
use borrow.Author.Rules.{rules}
use mathlib.Core.Path.{refl}
use Rattle.graph.proofs.PeelingLaws.{tally_begins, tally_room, tally_in, tally_out, plus_none, plus_then, plus_over, plus_raised}
use Rattle.graph.proofs.Graph.counts.Goals as goal
use Rattle.graph.proofs.Graph.counts.Goals.{then-w-lt512, else-w-lt512, then-marked+else-loop-w-test, else-marked}

pub loop-v-init : goal.loop-v-init
loop-v-init c = tally_begins _ _ _ _

pub loop-w-init : goal.loop-w-init
loop-w-init c = plus_none _ c.loop-v.invariant.size

pub overflow_add-count : goal.overflow_add-count
overflow_add-count c =
    let t = c.loop-v.invariant in
    omega (arith, tally_room _ _ _ t c.loop-v-test.true c.loop-w.invariant c.loop-w-test.true c.if-w-lt512.true)

pub loop-w-preserved : goal.loop-w-preserved
loop-w-preserved c =
    let p = c.loop-w.invariant in
    plus_then _ _ p refl (elim c.if-w-lt512.branch [
      | then-w-lt512 w ↦ rw w.count-is (plus_raised _ p.same w.if-w-lt512.true)
      | else-w-lt512 w ↦ rw w.count-is (plus_over _ p.same w.if-w-lt512.false)
    ])

pub loop-v-preserved : goal.loop-v-preserved
loop-v-preserved c =
    let t = c.loop-v.invariant in
    elim c.if-marked.branch [
      | then-marked+else-loop-w-test w ↦
          rw w.count-is (tally_in _ _ t (search rules) w.nexts-w-items.ensures w.loop-w.invariant (omega arith))
      | else-marked w ↦ rw w.count-is (tally_out t (search rules))
    ]
