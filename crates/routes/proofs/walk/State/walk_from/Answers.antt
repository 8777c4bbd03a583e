use native.Mathlib.Omega.{arith}
use mathlib.Core.Path.{◌∙◌}
use borrow.Author.Rules.{rules}
use Rattle.routes.proofs.WalkPartsLaws.{falses_less, begins, arrives, drops, loops, onward}
use Rattle.routes.proofs.walk.State.walk_from.Goals as goal

pub loop-seen-init : goal.loop-seen-init
loop-seen-init c = begins _ c.args.s c.requires

pub returns-then-to-eq-HANDED_OFF : goal.returns-then-to-eq-HANDED_OFF
returns-then-to-eq-HANDED_OFF c = arrives c.loop-seen.invariant c.next-to.ensures (omega arith)

pub returns-then-to-ge-NOTHING : goal.returns-then-to-ge-NOTHING
returns-then-to-ge-NOTHING c = drops c.loop-seen.invariant c.next-to.ensures (λ e. omega arith) (omega arith)

pub loop-seen-smaller : goal.loop-seen-smaller
loop-seen-smaller c = falses_less _ _ (search rules) c.loop-seen-test.true

pub loop-seen-preserved : goal.loop-seen-preserved
loop-seen-preserved c = onward c.loop-seen.invariant (c.from-at.ensures ∙ c.next-to.ensures) (omega arith) c.loop-seen-test.true

pub returns : goal.returns
returns c = loops c.loop-seen.invariant c.loop-seen-test.false
