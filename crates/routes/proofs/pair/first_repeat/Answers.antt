use Rattle.std.proofs.Common.{sym, ◌∙◌, below_more}
use native.Mathlib.Omega.{arith}
use Rattle.house.specs.Finds.{found, nowhere}
use Rattle.house.proofs.NumberLaws.{length_entries}
use Rattle.routes.proofs.pair.first_repeat.Goals as goal

pub loop-i-preserved : goal.loop-i-preserved
loop-i-preserved c =
    below_more _ _ c.loop-i.invariant (λ (j, h, e). c.loop-j.invariant j (omega arith) (e ∙ sym c.entry-v.ensures))

pub returns-then-entry-v : goal.returns-then-entry-v
returns-then-entry-v c =
    found (omega (arith, length_entries c.args.route.now))
    (c.loop-j.j, omega arith, sym c.entry.ensures ∙ c.if-entry-v.true ∙ c.entry-v.ensures)
    c.loop-i.invariant

pub returns-after-loop-i : goal.returns-after-loop-i
returns-after-loop-i c = nowhere (λ k h. c.loop-i.invariant k (omega (arith, length_entries c.args.route.now)))
