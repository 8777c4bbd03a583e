-- `routes::walk::walk` meets its contract: each return is one of the replies, from what the parts called before it ensure.
use mathlib.Core.Path.{◌≡◌}
use borrow.Author.Rules.{rules}
use Rattle.std.specs.Prelude.{Err}
use Rattle.routes.proofs.PairLaws.{judges_good}
use Rattle.routes.proofs.WalkPartsLaws.{
  judged_first,
  judged_clear,
  Tabled,
  reply_unfit,
  reply_judged,
  reply_stray,
  reply_walked,
}
use Rattle.routes.proofs.walk.walk.Goals as goal
use Rattle.routes.proofs.walk.walk.Goals.{After-due_nodes}

-- the words, tables and marks that are read are those of a good pair and its set
tabled :
    (c : After-due_nodes)
    → Tabled c.args.old.now c.args.new.now c.args.set.now c.from_bytes-changed.result.words c.next_values-was.result
    c.next_values-will.result c.due_nodes.result
tabled c = record {
  eight_long = c.if-set-ne64.false;
  clear = judged_clear c.in_ok-judge.was c.judge.ensures;
  read = c.from_bytes-changed.ensures;
  old_values = c.next_values-was.ensures;
  new_values = c.next_values-will.ensures;
  differ = c.due_nodes.ensures;
}

pub returns-then-set-ne64 : goal.returns-then-set-ne64
returns-then-set-ne64 c = reply_unfit c.if-set-ne64.true

pub returns-in_err-judge : goal.returns-in_err-judge
returns-in_err-judge c =
    let e : c.from_residual.result ≡ Err c.in_err-judge.field-0.0 = search rules in
    rw e (reply_judged c.if-set-ne64.false (judged_first c.in_err-judge.was c.judge.ensures))

pub returns-in-Some : goal.returns-in-Some
returns-in-Some c = reply_stray (tabled (goal.at.returns-in-Some c).After-due_nodes) c.in-Some.ensures

pub invariant_of-source : goal.invariant_of-source
invariant_of-source c = record { good = judges_good c.in_ok-judge.ensures }

pub returns : goal.returns
returns c =
    reply_walked (tabled (goal.at.returns c).After-due_nodes)
    c.in_default.ensures
    c.source.ensures.is
    c.walk_from.ensures
