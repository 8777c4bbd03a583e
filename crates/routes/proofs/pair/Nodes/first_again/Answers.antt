use Prim.Native.Nat.{◌<◌}
use mathlib.Core.Path.{◌∙◌, sym}
use native.Mathlib.Omega.{arith}
use lib.ListN.{length}
use Rattle.std.proofs.lemmas.Bool.{true≢false}
use Rattle.house.specs.Numbers.{entries}
use Rattle.house.proofs.NumberLaws.{length_entries}
use Rattle.routes.proofs.TestLaws.{marked_none, marked_more, marked_here, marked_end}
use Rattle.routes.proofs.pair.Nodes.first_again.Goals.{In-loop-i}
use Rattle.routes.proofs.pair.Nodes.first_again.Goals as goal

inside : (c : In-loop-i) → c.loop-i.i < length (entries c.args.self.now.ids.now)
inside c = omega (arith, length_entries c.args.self.now.ids.now)

pub loop-i-init : goal.loop-i-init
loop-i-init c = marked_none

pub returns-then-met-v : goal.returns-then-met-v
returns-then-met-v c =
    marked_here c.loop-i.invariant (inside (goal.at.returns-then-met-v c).In-loop-i) (c.from-v.ensures ∙ c.entry.ensures) c.if-met-v.true

pub loop-i-preserved : goal.loop-i-preserved
loop-i-preserved c =
    let i = inside (goal.at.loop-i-preserved c).In-loop-i in
    marked_more c.loop-i.invariant i (c.from-v.ensures ∙ c.entry.ensures) (omega (arith, c.from-v.ensures, c.entry.ensures, c.args.self.now.low.low c.loop-i.i i))
    (λ e. true≢false (sym e ∙ c.if-met-v.false))

pub returns : goal.returns
returns c = marked_end c.loop-i.invariant (omega (arith, length_entries c.args.self.now.ids.now))
