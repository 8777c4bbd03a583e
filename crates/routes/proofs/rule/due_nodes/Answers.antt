-- `routes::rule::due_nodes` meets its contract: each mark is what the closure says of its node.
use Prim.Native.Nat.{ℕ}
use native.Mathlib.Omega.{arith}
use mathlib.Core.Path.{◌∙◌, sym}
use mathlib.Core.Bool.{Bool, false, not}
use lib.Dec.{eqb}
use lib.ListN.{get_or}
use borrow.Author.Rules.{rules}
use borrow.Author.Tests.{tests}
use Rattle.routes.proofs.RuleLaws.{apart_read, made_at}
use Rattle.routes.proofs.rule.due_nodes.Goals as goal

pub returns : goal.returns
returns c =
    let a = c.args.old.now in
    let b = c.args.new.now in
    let test : ℕ → Bool = λ v. not (eqb (get_or a v 0) (get_or b v 0)) in
    record {
      size = c.from_fn.ensures.items.long;
      at = λ v h.
          made_at test c.from_fn.ensures.items (λ x r q k. search (rules, tests)) v false h
          ∙ sym (apart_read a b v (omega arith) (omega arith));
    }
