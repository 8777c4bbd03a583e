-- `check::refuse` meets its contract, by the size of the subset and the fault.
use Prim.Native.Nat.{◌<◌}
use native.Mathlib.Omega.{arith}
use mathlib.Core.Path.{sym, ◌∙◌, ap}
use Rattle.house.specs.Sets.{size}
use Rattle.house.specs.declared.Refusal.TheVariants.{Drop, Loop}
use Rattle.rounds.specs.Working.{begins, shown}
use Rattle.rounds.proofs.check.refuse.Goals.{After-write}
use Rattle.rounds.proofs.check.refuse.Goals as goal

-- past the first test the subset is not empty
some : (c : After-write) → 0 < size c.args.subset.now.words
some c = omega (arith, c.if-n-eq0.false, c.len-n.ensures)

pub returns-then-n-eq0 : goal.returns-then-n-eq0
returns-then-n-eq0 c = begins (sym c.len-n.ensures ∙ c.if-n-eq0.true)

pub returns-in-Drop : goal.returns-in-Drop
returns-in-Drop c =
    rw c.in-Drop.is
    (shown (some (goal.at.returns-in-Drop c).After-write) (ap (Drop c.args.bad.round) c.len-n.ensures) c.write.ensures)

pub returns-in-Loop : goal.returns-in-Loop
returns-in-Loop c =
    rw c.in-Loop.is
    (shown (some (goal.at.returns-in-Loop c).After-write) (ap (Loop c.args.bad.round) c.len-n.ensures) c.write.ensures)
