-- `Printed::ids` meets its contract.
use native.Mathlib.Omega.{arith}
use mathlib.Core.Path.{refl, ◌∙◌}
use Rattle.desk.proofs.IdLaws.{listing_none, listing_more, listing_end}
use Rattle.desk.proofs.Printed.ids.Goals as goal

pub loop-id-init : goal.loop-id-init
loop-id-init c = (refl, listing_none _ _ _)

pub number-requires : goal.number-requires
number-requires c =
    let l = c.loop-id.invariant.1 in
    omega (arith, c.requires, l.within, l.short)

pub loop-id-preserved : goal.loop-id-preserved
loop-id-preserved c = (
  c.number.ensures.same_reference ∙ c.loop-id.invariant.0,
  listing_more c.loop-id.invariant.1 c.in-Some.ensures c.number.ensures.put,
)

pub returns-clause-put : goal.returns-clause-put
returns-clause-put c = listing_end c.loop-id.invariant.1 c.in_default.ensures
