use native.Mathlib.Omega.{arith}
use mathlib.Core.Path.{refl, ◌∙◌}
use Rattle.graph.proofs.PeelingLaws.{plus_none, minus_then, plus_over, plus_lowered, peel_begins, peel_room, lower_room, offer_peel}
use Rattle.graph.proofs.PeelingLaws.{busy_begins, busy_more, offering_begins, offering_more, peel_ends}
use Rattle.graph.proofs.Graph.peeled.Goals as goal
use Rattle.graph.proofs.Graph.peeled.Goals.{then-w-lt512, else-w-lt512}

pub loop-w-init : goal.loop-w-init
loop-w-init c =
    let q = c.new.ensures in
    (peel_begins c.counts-count.ensures (omega arith) q.items q.head q.tail, busy_begins _ _)

pub offer-requires : goal.offer-requires
offer-requires c = peel_room c.loop-w.invariant.0 _

pub loop-w-preserved : goal.loop-w-preserved
loop-w-preserved c =
    let d = c.offer.ensures.offered in
    (rw c.offer.ensures.head (offer_peel c.loop-w.invariant.0 d), busy_more c.loop-w.invariant.1 (omega arith) d)

pub loop-w-2-init : goal.loop-w-2-init
loop-w-2-init c = plus_none _ c.loop-v.invariant.peel.counts

pub overflow_sub-count : goal.overflow_sub-count
overflow_sub-count c =
    let (l, e, n) = c.in-Some.ensures.some in
    lower_room _ _ c.loop-v.invariant.peel l e c.nexts-nexts.ensures c.loop-w-2.invariant c.loop-w-2-test.true refl c.if-w-lt512.true

pub loop-w-2-preserved : goal.loop-w-2-preserved
loop-w-2-preserved c =
    let (l, e, n) = c.in-Some.ensures.some in
    let p = c.loop-w-2.invariant in
    minus_then _ _ p refl (elim c.if-w-lt512.branch [
      | then-w-lt512 w ↦
          rw w.count-is (plus_lowered _ p.size w.if-w-lt512.true
          (lower_room _ _ c.loop-v.invariant.peel l e c.nexts-nexts.ensures p c.loop-w-2-test.true refl w.if-w-lt512.true))
      | else-w-lt512 w ↦ rw w.count-is (plus_over _ p.size w.if-w-lt512.false)
    ])

pub loop-w-3-init : goal.loop-w-3-init
loop-w-3-init c =
    let p = c.in-Some.ensures in
    let (l, e, n) = p.some in
    (refl, rw (p.items, n, p.tail) (offering_begins _ _ c.loop-v.invariant l e c.nexts-nexts.ensures c.loop-w-2.invariant (omega arith)))

pub offer-requires-in-loop-w-3 : goal.offer-requires-in-loop-w-3
offer-requires-in-loop-w-3 c = peel_room c.loop-w-3.invariant.1.peel _

pub loop-w-3-preserved : goal.loop-w-3-preserved
loop-w-3-preserved c =
    let h = c.offer-in-loop-w-3.ensures.head in
    (h ∙ c.loop-w-3.invariant.0, rw h (offering_more c.loop-w-3.invariant.1 refl c.offer-in-loop-w-3.ensures.offered))

pub returns : goal.returns
returns c = let p = c.in_default.ensures in rw p.tail (peel_ends c.loop-v.invariant (p.none refl).0)
