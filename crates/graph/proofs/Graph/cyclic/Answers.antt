-- `graph::Graph::cyclic` meets its contract: fewer nodes were taken away than the set has exactly if there is a closed path.
use mathlib.Core.Path.{◌≡◌, sym, ◌∙◌}
use native.Mathlib.Omega.{arith}
use borrow.Author.Rules.{rules}
use Rattle.std.specs.List.{count_by}
use Rattle.std.proofs.iter.runs.Made.{chains}
use Rattle.std.proofs.Common.{tests}
use Rattle.std.proofs.lemmas.Iterator.{YieldsList-from_slice}
use Rattle.std.proofs.lemmas.Iterator.Adapters.{fits_from_length, at_most_from_yields_List}
use Rattle.std.proofs.lemmas.Bool.Decides.{Decides-ltb}
use Rattle.graph.proofs.Sums.{among_count}
use Rattle.graph.proofs.PeelingLaws.{cyclic_by}
use Rattle.graph.proofs.Graph.cyclic.Goals as goal

pub sum-all-requires-clause-fits : goal.sum-all-requires-clause-fits
sum-all-requires-clause-fits c =
    fits_from_length _ _ 512 _
    (at_most_from_yields_List {all = c.args.alive.now} (YieldsList-from_slice _ cc) (grind arith))
    c.map.ensures.closure
    (omega arith)
    (λ x r q k. search (rules, tests))

pub returns : goal.returns
returns c =
    let a = c.args.alive.now in
    let n : c.sum-all.result ≡ count_by (λ b. b) a = search (rules, chains) in
    cyclic_by c.peeled.ensures (rw c.told-alive at (n ∙ sym (among_count a))) _ (Decides-ltb _ _)
