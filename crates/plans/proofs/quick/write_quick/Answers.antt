-- `plans::quick::write_quick` meets its contract: the installs are written, then the switches that are marked, then the others,
-- then the removes.
use mathlib.Core.Bool.{true, false}
use Rattle.std.proofs.Common.{rules}
use Rattle.routes.specs.declared.rule.Change.TheVariants.{Install, Remove}
use Rattle.plans.proofs.SeekLaws.{sought_by, sought_coded}
use Rattle.plans.proofs.PlanLaws.{begun_room, begun}
use Rattle.plans.proofs.QuickLaws.{One, Two, Three, signed_told, forward_room, forward_more, rest_room, rest_more, last_room, all_four}
use Rattle.plans.proofs.quick.write_quick.Goals as goal
use Rattle.plans.proofs.quick.write_quick.Goals.{After-round, After-round-2, After-round-3}

one :
    (c : After-round)
    → let z = c.args.setting.now in let d = c.round.new.self in
    One z.old.now z.new.now c.args.ids.now c.args.sizes.now d.choice d.ids.now d.sizes.now d.given
one c =
    let z = c.args.setting.now in
    let t = c.args.setting.now.sizes in
    let w = c.round.ensures.wrote in
    begun z.old.now z.new.now t.0 t.1 c.requires.0 c.requires.1
    (sought_coded z.old.now z.new.now Install (λ v t h q. (λ e. search rules, λ e n. search rules)) w.sought)
    w.wrote

two :
    (c : After-round-2)
    → let z = c.args.setting.now in let d = c.round-2.new.self in
    Two z.old.now z.new.now c.args.marks.now c.args.ids.now c.args.sizes.now d.choice d.ids.now d.sizes.now d.given
two c =
    let z = c.args.setting.now in
    let m = c.args.marks.now in
    let t = c.args.setting.now.sizes in
    let w = c.round-2.ensures.wrote in
    forward_more z.old.now z.new.now m t.0 t.1 (one (goal.at.After-round-2 c).After-round)
    (sought_by (λ v t h q. signed_told z.old.now z.new.now v m true t (λ e. (search rules, search rules)) (λ e n o. search rules)) w.sought)
    w.wrote

three :
    (c : After-round-3)
    → let z = c.args.setting.now in let d = c.round-3.new.self in
    Three z.old.now z.new.now c.args.marks.now c.args.ids.now c.args.sizes.now d.choice d.ids.now d.sizes.now d.given
three c =
    let z = c.args.setting.now in
    let m = c.args.marks.now in
    let t = c.args.setting.now.sizes in
    let w = c.round-3.ensures.wrote in
    rest_more z.old.now z.new.now m t.0 t.1 (two (goal.at.After-round-3 c).After-round-2)
    (sought_by (λ v t h q. signed_told z.old.now z.new.now v m false t (λ e. (search rules, search rules)) (λ e n o. search rules)) w.sought)
    w.wrote

pub round-requires-clause-room : goal.round-requires-clause-room
round-requires-clause-room c =
    let z = c.args.setting.now in
    let t = c.args.setting.now.sizes in
    λ x w. begun_room z.old.now z.new.now t.0 t.1 c.requires.0 c.requires.1
    (sought_coded z.old.now z.new.now Install (λ v t h q. (λ e. search rules, λ e n. search rules)) w)

pub round-requires-2-clause-room : goal.round-requires-2-clause-room
round-requires-2-clause-room c =
    let z = c.args.setting.now in
    let m = c.args.marks.now in
    let t = c.args.setting.now.sizes in
    λ x w. forward_room z.old.now z.new.now m t.0 t.1 (one (goal.at.round-requires-2-clause-room c).After-round)
    (sought_by (λ v t h q. signed_told z.old.now z.new.now v m true t (λ e. (search rules, search rules)) (λ e n o. search rules)) w)

pub round-requires-3-clause-room : goal.round-requires-3-clause-room
round-requires-3-clause-room c =
    let z = c.args.setting.now in
    let m = c.args.marks.now in
    let t = c.args.setting.now.sizes in
    λ x w. rest_room z.old.now z.new.now m t.0 t.1 (two (goal.at.round-requires-3-clause-room c).After-round-2)
    (sought_by (λ v t h q. signed_told z.old.now z.new.now v m false t (λ e. (search rules, search rules)) (λ e n o. search rules)) w)

pub round-requires-4-clause-room : goal.round-requires-4-clause-room
round-requires-4-clause-room c =
    let z = c.args.setting.now in
    let t = c.args.setting.now.sizes in
    λ x w. last_room z.old.now z.new.now c.args.marks.now t.0 t.1 (three (goal.at.round-requires-4-clause-room c).After-round-3)
    (sought_coded z.old.now z.new.now Remove (λ v t h q. (λ e. search rules, λ e n. search rules)) w)

pub returns : goal.returns
returns c =
    let z = c.args.setting.now in
    let t = c.args.setting.now.sizes in
    let w = c.round-4.ensures.wrote in
    let x =
    all_four z.old.now z.new.now c.args.marks.now t.0 t.1 (three (goal.at.returns c).After-round-3)
    (sought_coded z.old.now z.new.now Remove (λ v t h q. (λ e. search rules, λ e n. search rules)) w.sought)
    w.wrote in
    search rules
