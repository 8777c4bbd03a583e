-- `graph::Peeling::offer` meets its contract: each return is one of the ways in which a number is offered.
use native.Mathlib.Omega.{arith}
use borrow.Author.Rules.{rules}
use Rattle.graph.specs.Working.{over, gone, busy, free}
use Rattle.graph.proofs.Peeling.offer.Goals as goal

pub returns-then-w-ge512-clause-offered : goal.returns-then-w-ge512-clause-offered
returns-then-w-ge512-clause-offered c = search (rules, over, gone, busy)

pub returns-clause-offered : goal.returns-clause-offered
returns-clause-offered c = rw (c.push.ensures.items, c.push.ensures.tail) (free (omega arith) (search rules) (omega arith))
