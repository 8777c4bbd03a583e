-- `pair::first_repeat` meets its contract. The outer loop's invariant: no id before `i` is a repeat. The inner loop's: no id
-- before `j` is the id at `i`. So where the search is left by its label, the id at `i` stands at `j` already, and where the
-- inner loop ends it isn't a repeat.
use Rattle.std.proofs.Common.{ℕ, ◌<◌, ◌≡◌, get_or}
use Rattle.house.specs.Numbers.{entries}
use Rattle.routes.specs.Routes.{Repeat}
use Rattle.routes.proofs.pair.first_repeat.Given as goal

abbrev pub invariant-loop-j : goal.invariant-loop-j
invariant-loop-j l = (k : ℕ) → k < l.j → get_or (entries l.route) k 0 ≡ l.v → ⊥

abbrev pub invariant-loop-i : goal.invariant-loop-i
invariant-loop-i l = (k : ℕ) → k < l.i → Repeat (entries l.route) k → ⊥
