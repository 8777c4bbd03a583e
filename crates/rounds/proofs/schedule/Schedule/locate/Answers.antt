use Prim.Native.Nat.{◌<◌}
use mathlib.Core.Path.{◌∙◌, sym}
use native.Mathlib.Omega.{arith}
use lib.ListN.{length}
use Rattle.house.specs.Numbers.{entries}
use Rattle.house.proofs.NumberLaws.{length_entries}
use Rattle.rounds.proofs.TestLaws.{taken_none, taken_more, taken_in, taken_past}
use Rattle.rounds.proofs.schedule.Schedule.locate.Goals.{In-loop-k}
use Rattle.rounds.proofs.schedule.Schedule.locate.Goals as goal

inside : (c : In-loop-k) → c.loop-k.k < length (entries c.args.self.now.sizes.now)
inside c = omega (arith, length_entries c.args.self.now.sizes.now)

pub loop-k-init : goal.loop-k-init
loop-k-init c = taken_none

pub returns-then-left-z : goal.returns-then-left-z
returns-then-left-z c =
    taken_in c.loop-k.invariant (c.from-z.ensures ∙ c.entry.ensures) (inside (goal.at.returns-then-left-z c).In-loop-k) c.if-left-z.true

pub loop-k-preserved : goal.loop-k-preserved
loop-k-preserved c =
    taken_more c.loop-k.invariant (c.from-z.ensures ∙ c.entry.ensures) (inside (goal.at.loop-k-preserved c).In-loop-k) c.if-left-z.false

pub returns : goal.returns
returns c = taken_past c.loop-k.invariant (sym (length_entries c.args.self.now.sizes.now)) (omega arith)
