-- `graph::Graph::nexts` meets its contract: by the choice's number, the next values that were read are those that the choice
-- picks.
use native.Mathlib.Omega.{arith}
use borrow.Author.Rules.{rules}
use mathlib.Core.Path.{ap}
use Rattle.graph.specs.Graph.{old, new, either, choice_of}
use Rattle.graph.proofs.SearchLaws.{either_of, nexts_by}
use Rattle.graph.proofs.Graph.nexts.Goals as goal

pub returns-in-0 : goal.returns-in-0
returns-in-0 c =
    nexts_by _ _ _ _ _ c.from-new.result old (omega arith, omega arith) (ap choice_of c.in-0.is) c.from-old.ensures c.from-new.ensures

pub returns-in-1 : goal.returns-in-1
returns-in-1 c =
    nexts_by _ _ _ _ c.from-old.result _ new (omega arith, omega arith) (ap choice_of c.in-1.is) c.from-old.ensures c.from-new.ensures

pub returns-in_default : goal.returns-in_default
returns-in_default c =
    nexts_by _ _ _ _ _ _ either (omega arith, omega arith) (either_of _ (search rules) (search rules)) c.from-old.ensures c.from-new.ensures
