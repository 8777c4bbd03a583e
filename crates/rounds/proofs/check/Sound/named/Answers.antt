use Prim.Native.Nat.{◌+◌}
use native.Mathlib.Omega.{arith}
use mathlib.Core.Path.{◌≡◌, ◌∙◌}
use lib.ListN.{get_or}
use Rattle.house.specs.Numbers.{entries}
use Rattle.house.proofs.NumberLaws.{length_entries}
use Rattle.rounds.specs.Working.{Spans}
use Rattle.rounds.proofs.NamingLaws.{searched_at, naming_start, naming_more, naming_end}
use Rattle.rounds.proofs.check.Sound.named.Goals.{After-from, After-from-id}
use Rattle.rounds.proofs.check.Sound.named.Goals as goal

the_round :
    (c : After-from)
    → Spans (entries c.args.self.now.ids.now) (entries c.args.self.now.sizes.now) c.args.bad.round c.args.bad.from
    (c.args.bad.from + c.from.result)
the_round c = rw (c.from.ensures ∙ c.entry.ensures) (searched_at c.requires).span

the_id : (c : After-from-id) → c.from-id.result ≡ get_or (entries c.args.self.now.ids.now) c.loop-i.i 0
the_id c = c.from-id.ensures ∙ c.entry-in-loop-i.ensures

pub overflow_add-to : goal.overflow_add-to
overflow_add-to c =
    omega (arith, (the_round (goal.at.overflow_add-to c).After-from).within, length_entries c.args.self.now.ids.now)

pub loop-i-init : goal.loop-i-init
loop-i-init c =
    let bad_round = searched_at c.requires in
    rw c.new-subset.ensures
    (naming_start (the_round (goal.at.loop-i-init c).After-from) bad_round.coded bad_round.first.bad)

pub decide-requires : goal.decide-requires
decide-requires c =
    rw (the_id (goal.at.decide-requires c).After-from-id)
    ((the_round (goal.at.decide-requires c).After-from).low c.loop-i.i c.loop-i.auto.i c.loop-i-test.true)

pub loop-i-preserved : goal.loop-i-preserved
loop-i-preserved c =
    naming_more (the_round (goal.at.loop-i-preserved c).After-from) c.loop-i.invariant c.args.self.now.stands _
    c.loop-i-test.true
    (the_id (goal.at.loop-i-preserved c).After-from-id)
    c.decide.ensures

pub returns : goal.returns
returns c = naming_end (the_round (goal.at.returns c).After-from) c.loop-i.invariant c.loop-i-test.false
