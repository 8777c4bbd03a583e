use borrow.Author.Rules.{rules}
use mathlib.Core.Path.{refl, ◌∙◌}
use mathlib.Core.Logic.{inl, inr}
use Rattle.graph.proofs.SearchLaws.{search_begins, search_ends, follow_visit, follow_ends, follow_end}
use Rattle.graph.proofs.Search.run.Goals as goal
use Rattle.graph.proofs.Search.run.Goals.{in-Some+then-enough, in_default}

pub loop-v-init : goal.loop-v-init
loop-v-init g c =
    let r = c.requires in
    search_begins _ _ _ r.room r.empty.1 (c.visit.ensures.head ∙ r.empty.0) c.visit.ensures.visited

pub loop-w-preserved : goal.loop-w-preserved
loop-w-preserved g c =
    let h = c.visit-in-loop-w.ensures.head in
    let i = c.loop-w.invariant in
    let d = c.visit-in-loop-w.ensures.visited in
    (h ∙ i.0, rw h (follow_visit _ i.1 c.if-v-lt512.true c.loop-w-test.true c.nexts-w-items.ensures refl d))

pub loop-v-preserved-in-loop-w : goal.loop-v-preserved-in-loop-w
loop-v-preserved-in-loop-w g c = follow_ends c.loop-w.invariant.1 c.loop-w-test.false c.nexts-w-items.ensures

pub loop-v-preserved : goal.loop-v-preserved
loop-v-preserved g c =
    let p = c.in-Some.ensures in
    let (l, e, n) = p.some in
    rw (p.items, n, p.tail) (follow_end _ c.loop-v.invariant l e c.if-v-lt512.false)

pub returns-clause-all : goal.returns-clause-all
returns-clause-all g c =
    elim c.match-pop.branch [
      | in-Some+then-enough w ↦ inr (search rules)
      | in_default w ↦ inl (search_ends c.loop-v.invariant (w.in_default.ensures.none refl).0)
    ]
