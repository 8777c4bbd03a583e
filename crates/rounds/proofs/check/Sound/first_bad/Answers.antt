use Prim.Native.Nat.{◌<◌}
use native.Mathlib.Omega.{arith}
use mathlib.Core.Path.{◌≡◌, ◌∙◌}
use lib.ListN.{length, get_or}
use Rattle.house.specs.Numbers.{entries}
use Rattle.house.proofs.NumberLaws.{length_entries}
use Rattle.rounds.specs.Schedule.{Schedule}
use Rattle.rounds.proofs.ScheduleLaws.{clear_change}
use Rattle.rounds.proofs.RoundLaws.{passed_start, passed_spans, passed_more, passed_bad, passed_end}
use Rattle.rounds.proofs.check.Sound.first_bad.Goals.{Start, After-from}
use Rattle.rounds.proofs.check.Sound.first_bad.Goals as goal

well_formed :
    (c : Start)
    → Schedule (entries c.args.self.now.pair.old.now) (entries c.args.self.now.pair.new.now) (entries c.args.self.now.ids.now)
    (entries c.args.self.now.sizes.now)
well_formed c =
    let sound = clear_change c.args.self.now.clear in
    sound.schedule

-- a round that is left
left : (c : After-from) → c.loop-t.t < length (entries c.args.self.now.sizes.now)
left c = omega (arith, length_entries c.args.self.now.sizes.now)

size : (c : After-from) → c.from.result ≡ get_or (entries c.args.self.now.sizes.now) c.loop-t.t 0
size c = c.from.ensures ∙ c.entry.ensures

pub loop-t-init : goal.loop-t-init
loop-t-init c = passed_start _ _ _ c.requires

pub overflow_add-to : goal.overflow_add-to
overflow_add-to c =
    let start = (goal.at.overflow_add-to c).Start in
    let round = passed_spans c.loop-t.invariant c.args.self.now.stands (well_formed start) (left c) (size c) in
    omega (arith, round.within, length_entries c.args.self.now.ids.now)

pub returns-in-Some : goal.returns-in-Some
returns-in-Some c =
    let here = (goal.at.returns-in-Some c).After-from in
    let start = (goal.at.returns-in-Some c).Start in
    passed_bad c.loop-t.invariant c.args.self.now.stands (well_formed start) (left here) (size here) c.paint.ensures
    c.in-Some.ensures

pub loop-t-preserved : goal.loop-t-preserved
loop-t-preserved c =
    let here = (goal.at.loop-t-preserved c).After-from in
    let start = (goal.at.loop-t-preserved c).Start in
    passed_more c.loop-t.invariant c.args.self.now.stands (well_formed start) (left here) (size here) c.paint.ensures
    c.in_default.ensures
    c.paint-in-loop-t.ensures

pub returns : goal.returns
returns c = passed_end c.loop-t.invariant (omega (arith, length_entries c.args.self.now.sizes.now))
