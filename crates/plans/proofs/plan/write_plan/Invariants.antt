-- `plans::plan::write_plan` meets its contract. The loop's invariant: the draft holds the slices it held, the rounds written since the
-- installs are the first rounds of switches, the switches of the list are those that wait, and nothing changed passes after what
-- is placed. The measure is how many wait: the first switch tried joins.
use Rattle.std.proofs.Common.{◌≡◌}
use Rattle.house.specs.Numbers.{entries}
use Rattle.rounds.specs.Mode.{mode_no}
use Rattle.plans.proofs.MiddleLaws.{Going}
use Rattle.plans.proofs.plan.write_plan.Given as goal

abbrev pub invariant-loop-waiting : goal.invariant-loop-waiting
invariant-loop-waiting l =
    let b = l.initial.draft in
    let d = l.draft in
    let w = l.waiting in
    (d.ids.ghost_name ≡ b.ids.ghost_name)
    × (d.sizes.ghost_name ≡ b.sizes.ghost_name)
    × Going (mode_no l.setting.mode) (entries l.pair.old.now) (entries l.pair.new.now) l.setting b.ids.now b.sizes.now b.given.rounds b.given.count
    d.choice
    w.nodes
    w.many
    d.ids.now
    d.sizes.now
    d.given.rounds
    d.given.count

abbrev pub decreases-loop-waiting : goal.decreases-loop-waiting
decreases-loop-waiting l = l.waiting.many
