-- `routes::rule::next_values` meets its contract. The loop's invariant: the table holds the next values on the entries from i
-- on, and `after` is the first of these, or 513 where there are none.
use Prim.Native.Nat.{ℕ}
use mathlib.Core.Path.{◌≡◌}
use mathlib.Core.List.{List}
use lib.ListN.{get_or, drop}
use Rattle.house.specs.Numbers.{entries}
use Rattle.routes.specs.Rules.{Values}
use Rattle.routes.proofs.rule.next_values.Given as goal

pub record Filled (l t : List ℕ) (after i : ℕ) : Type 0 where
  pub table : Values (drop i l) t
  pub first : after ≡ get_or (drop i l) 0 513

abbrev pub invariant-loop-i : goal.invariant-loop-i
invariant-loop-i l = Filled (entries l.route) l.values l.after l.i
