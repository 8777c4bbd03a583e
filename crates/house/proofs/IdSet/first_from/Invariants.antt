-- `house::IdSet::first_from` meets its contract. The loop's invariant: no id from `from` to before word `k` is in the set.
use Rattle.std.proofs.Common.{ℕ, ◌*◌, ◌≤◌, ◌<◌, ◌≡◌, false}
use Rattle.house.specs.Sets.{has}
use Rattle.house.proofs.IdSet.first_from.Given as goal

abbrev pub invariant-loop-k : goal.invariant-loop-k
invariant-loop-k l = (i : ℕ) → l.from ≤ i → i < 64 * l.k → has l.self.words i ≡ false
