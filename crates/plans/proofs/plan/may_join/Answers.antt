-- `plans::plan::may_join` meets its contract: each return is one of the answers of the mode.
use Prim.Native.Nat.{ℕ}
use mathlib.Core.Path.{◌≡◌, ◌∙◌}
use mathlib.Core.Bool.{true, false}
use mathlib.Core.List.{List}
use Rattle.std.proofs.Common.{rules, arith}
use Rattle.routes.proofs.RuleLaws.{get_d_default}
use Rattle.graph.specs.Graph.{table}
use Rattle.graph.specs.Search.{Reached, Leads}
use Rattle.plans.specs.Working.{Closing}
use Rattle.plans.proofs.JoinLaws.{tried_strong, tried_unseen, tried_back, tried_closes, tried_seen}
use Rattle.plans.proofs.plan.may_join.Goals as goal
use Rattle.plans.proofs.plan.may_join.Goals.{After-graph-graph, then-more-v-via-then-more-v, then-more-v-via-else-more-v+then-closes}

next : (c : After-graph-graph) → c.from-w.result ≡ table c.args.setting.now.new.now c.args.v
next c = c.from-w.ensures ∙ get_d_default c.args.setting.now.new.now c.args.v 0 512 (omega arith)

-- what is said of the graph is said of the tables and the choice list
at_tables :
    (c : After-graph-graph) (T : List ℕ → List ℕ → List ℕ → Type 0)
    → T c.graph-graph.result.old.now c.graph-graph.result.new.now c.graph-graph.result.choice.now
    → T c.args.setting.now.old.now c.args.setting.now.new.now c.args.choice.now
at_tables c T t = let g = c.graph-graph.ensures in rw (g.old, g.new, g.choice) at t

pub returns-then-eq : goal.returns-then-eq
returns-then-eq c =
    let g = (goal.at.returns-then-eq c).After-graph-graph in
    tried_strong c.told-choice c.requires.free (c.requires.fits, c.requires.marks) (next g) (search rules) _
    (at_tables g (λ o n q. Leads o n q c.from-w.result c.args.v c.leads.result) c.leads.ensures)

pub returns-then-not-seen-v : goal.returns-then-not-seen-v
returns-then-not-seen-v c =
    let g = (goal.at.returns-then-not-seen-v c).After-graph-graph in
    tried_unseen c.told-choice c.requires.free (c.requires.fits, c.requires.marks) (next g) (λ k. search rules) c.if-not-seen-v.true

pub returns-then-more-v : goal.returns-then-more-v
returns-then-more-v c =
    let g = (goal.at.returns-then-more-v c).After-graph-graph in
    let x = at_tables g (λ o n q. Reached o n q c.from-w.result c.reach-more.result) c.reach-more.ensures in
    elim c.then-more-v.branch [
      | then-more-v-via-then-more-v w ↦
          tried_back c.told-choice c.requires.free (c.requires.fits, c.requires.marks) (next g) (λ k. search rules) c.if-not-seen-v.false x w.if-more-v.true
      | then-more-v-via-else-more-v+then-closes w ↦
          tried_closes c.told-choice c.requires.free (c.requires.fits, c.requires.marks) (next g) (λ k. search rules) c.if-not-seen-v.false x
          (at_tables g (λ o n q. Closing o n q c.args.seen.now c.reach-more.result true) w.if-closes.ensures)
    ]

pub returns : goal.returns
returns c =
    let g = (goal.at.returns c).After-graph-graph in
    tried_seen c.told-choice c.requires.free (c.requires.fits, c.requires.marks) (next g) (λ k. search rules) c.if-not-seen-v.false
    (at_tables g (λ o n q. Reached o n q c.from-w.result c.reach-more.result) c.reach-more.ensures)
    c.if-more-v.false
    (at_tables g (λ o n q. Closing o n q c.args.seen.now c.reach-more.result false) c.if-closes.ensures)
    c.merge.ensures
