use Rattle.std.proofs.Common.{arith, sym, ◌∙◌}
use Rattle.std.proofs.lemmas.Bool.{true≢false}
use Rattle.house.specs.Finds.{nowhere}
use Rattle.house.proofs.SetLaws.{first_here, none_here}
use Rattle.house.proofs.IdSet.first_from.Goals as goal

pub loop-k-init : goal.loop-k-init
loop-k-init c i g h = absurd (omega arith)

pub returns-then-zeros-at : goal.returns-then-zeros-at
returns-then-zeros-at c =
    first_here c.args.self.now.words c.args.from c.max-at.result c.loop-k.k (omega arith) c.loop-k-test.true (omega arith)
    (λ i g h. c.loop-k.invariant i g (omega arith)) (omega (arith, c.if-zeros-at.true))

pub loop-k-preserved : goal.loop-k-preserved
loop-k-preserved c i g h =
    none_here c.args.self.now.words c.args.from c.max-at.result c.loop-k.k i (omega arith)
    (λ j l m. c.loop-k.invariant j l (omega arith)) (omega (arith, c.if-zeros-at.false)) g h

pub returns : goal.returns
returns c = nowhere (λ i h p. true≢false (sym p.1 ∙ c.loop-k.invariant i p.0 (omega arith)))
