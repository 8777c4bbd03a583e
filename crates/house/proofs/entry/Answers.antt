-- `house::entry` meets its contract: it is the number of its bytes.
use Rattle.std.proofs.Common.{rules}
use Rattle.house.specs.Numbers.{entries}
use Rattle.house.proofs.NumberLaws.{le_two}
use Rattle.house.proofs.entry.Goals as goal

pub returns : goal.returns
unfolding entries
returns c = search (rules, le_two)
