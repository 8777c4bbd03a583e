-- `routes::rule::due_count` meets its contract: the nodes that the filter lets through are those that `apart` holds of.
use Prim.Native.Nat.{ℕ}
use native.Mathlib.Omega.{arith}
use mathlib.Core.Path.{refl, sym, ◌∙◌}
use mathlib.Core.Bool.{Bool, not}
use lib.Dec.{eqb}
use lib.ListN.{get_or}
use borrow.Author.Rules.{rules}
use borrow.Author.Tests.{tests}
use Rattle.std.proofs.lemmas.Iterator.{YieldsList-from_range}
use Rattle.std.proofs.lemmas.Iterator.Consumers.{count_from_yields_List, YieldsList-from_filter}
use Rattle.routes.specs.Rules.{apart}
use Rattle.routes.proofs.RuleLaws.{apart_read, tally_length, tally_cong}
use Rattle.routes.proofs.rule.due_count.Goals as goal

pub returns : goal.returns
returns c =
    let a = c.args.old.now in
    let b = c.args.new.now in
    let test : ℕ → Bool = λ v. not (eqb (get_or a v 0) (get_or b v 0)) in
    count_from_yields_List c.filter.result _ c.count.ensures.ran
    (YieldsList-from_filter _ test (YieldsList-from_range 0 512 512 c.filter.ensures.source refl) c.filter.ensures.closure
    (λ x r q k. search (rules, tests)))
    ∙ tally_length 512 test
    ∙ sym (tally_cong 512 (apart a b) test (λ v h. apart_read a b v (omega arith) (omega arith)))
