use mathlib.Core.Path.{◌∙◌}
use native.Mathlib.Omega.{arith}
use Rattle.house.proofs.NumberLaws.{length_entries}
use Rattle.rounds.proofs.TestLaws.{left_more, left_end}
use Rattle.rounds.proofs.schedule.unplaced.Goals as goal

pub loop-i-preserved : goal.loop-i-preserved
loop-i-preserved c =
    let n = length_entries c.args.nodes.ids.now in
    left_more c.loop-i.invariant (omega (arith, n)) (c.from.ensures ∙ c.entry.ensures)
    (omega (arith, c.from.ensures, c.entry.ensures, c.args.nodes.low.low c.loop-i.i (omega (arith, n))))

pub returns : goal.returns
returns c = left_end c.loop-i.invariant (omega (arith, length_entries c.args.nodes.ids.now))
