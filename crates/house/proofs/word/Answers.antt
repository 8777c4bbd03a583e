-- `house::word` meets its contract: it is the number of its bytes.
use Rattle.std.proofs.Common.{rules}
use Rattle.house.specs.Numbers.{words}
use Rattle.house.proofs.NumberLaws.{le_eight}
use Rattle.house.proofs.word.Goals as goal

pub returns : goal.returns
unfolding words
returns c = search (rules, le_eight)
