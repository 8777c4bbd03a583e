-- `house::IdSet::contains` meets its contract: below 512 the code is the definition of `has`, and from 512 on a set of eight
-- words has no word for the id.
use Rattle.std.proofs.Common.{rules, refl}
use Rattle.house.specs.Sets.{has}
use Rattle.house.proofs.SetLaws.{has_past}
use Rattle.house.proofs.IdSet.contains.Goals as goal

pub returns-then-id-lt512 : goal.returns-then-id-lt512
unfolding has
returns-then-id-lt512 c = refl

pub returns-else-id-lt512 : goal.returns-else-id-lt512
returns-else-id-lt512 c = search (rules, has_past)
