use native.Mathlib.Omega.{arith}
use mathlib.Core.Path.{refl, ap, ◌∙◌}
use lib.ListN.{replicate}
use Rattle.std.proofs.Common.{rules}
use Rattle.routes.specs.declared.rule.Change.TheVariants.{Install, Remove}
use Rattle.routes.specs.Walk.{State}
use Rattle.rounds.specs.Mode.{mode_no}
use Rattle.plans.specs.Plan.{some_round}
use Rattle.plans.specs.Working.{coded, Sought}
use Rattle.plans.proofs.MiddleLaws.{going_begins, going_lined, going_fits, going_room, going_fewer, going_turn, going_ends}
use Rattle.plans.proofs.SeekLaws.{sought_coded}
use Rattle.plans.proofs.PlanLaws.{Stood, begun_room, begun, begun_ahead, ends_room, written}
use Rattle.plans.proofs.plan.write_plan.Goals as goal
use Rattle.plans.proofs.plan.write_plan.Goals.{After-round}

installs : (c : After-round) → Sought (coded c.new-setting.result.old.now c.new-setting.result.new.now 1) (replicate 512 0) c.round.ensures.wrote.marked 512
installs c =
    let s = c.new-setting.result in
    sought_coded s.old.now s.new.now Install (λ v t h q. (λ e. search rules, λ e n. search rules))
    c.round.ensures.wrote.sought

pub round-requires-clause-room : goal.round-requires-clause-room
round-requires-clause-room c =
    let s = c.new-setting in
    λ x w. begun_room s.result.old.now s.result.new.now s.ensures.old.size s.ensures.new.size c.requires.0 c.requires.1
    (sought_coded s.result.old.now s.result.new.now Install (λ v t h q. (λ e. search rules, λ e n. search rules)) w)

-- the installs are written
first :
    (c : After-round)
    → let f : State = coded c.new-setting.result.old.now c.new-setting.result.new.now 1 in
    let d = c.round.new.self in
    Stood (some_round f) f c.args.ids.now c.args.sizes.now d.choice d.ids.now d.sizes.now d.given.rounds d.given.count
first c =
    let s = c.new-setting in
    begun s.result.old.now s.result.new.now s.ensures.old.size s.ensures.new.size c.requires.0 c.requires.1 (installs c)
    c.round.ensures.wrote.wrote

pub loop-waiting-init : goal.loop-waiting-init
loop-waiting-init c =
    let s = c.new-setting.ensures in
    let g = c.args.pair.now.good in
    let d = first (goal.at.loop-waiting-init c).After-round in (
      refl,
      refl,
      going_begins (record { good = g; olds = s.old; news = s.new; start = s.source })
          (begun_ahead g s.old s.new d c.fill.ensures)
          d.room,
    )

pub pass-requires-clause-lined : goal.pass-requires-clause-lined
pass-requires-clause-lined c = going_lined c.loop-waiting.invariant.2

pub pass-requires-clause-fits : goal.pass-requires-clause-fits
pass-requires-clause-fits c = going_fits c.loop-waiting.invariant.2

pub write_round-requires : goal.write_round-requires
write_round-requires c = going_room c.loop-waiting.invariant.2 c.pass.ensures

pub loop-waiting-smaller : goal.loop-waiting-smaller
loop-waiting-smaller c = going_fewer c.loop-waiting.invariant.2 c.pass.ensures c.loop-waiting-test.true

pub loop-waiting-preserved : goal.loop-waiting-preserved
loop-waiting-preserved c =
    let i = c.loop-waiting.invariant in
    let w = c.write_round.ensures in (
      w.same_ids ∙ i.0,
      w.same_sizes ∙ i.1,
      going_turn i.2 c.pass.ensures w.wrote c.loop-waiting-test.true,
    )

pub round-requires-2-clause-room : goal.round-requires-2-clause-room
round-requires-2-clause-room c =
    let s = c.new-setting in
    let at = goal.at.round-requires-2-clause-room c in
    λ x w. ends_room c.args.pair.now.good s.ensures.old s.ensures.new (first at.After-round)
    (going_ends c.loop-waiting.invariant.2 (omega arith))
    (sought_coded s.result.old.now s.result.new.now Remove (λ v t h q. (λ e. search rules, λ e n. search rules)) w)

pub returns : goal.returns
returns c =
    let s = c.new-setting in
    let w = c.round-2.ensures.wrote in
    let at = goal.at.returns c in
    let x =
    written c.args.pair.now.good s.ensures.old s.ensures.new (first at.After-round)
    (going_ends c.loop-waiting.invariant.2 (omega arith))
    (sought_coded s.result.old.now s.result.new.now Remove (λ v t h q. (λ e. search rules, λ e n. search rules)) w.sought)
    w.wrote in
    let e = ap mode_no s.ensures.mode in
    search rules
