-- `house::put_entry` meets its contract: the bytes that it stores are those of the number.
use Rattle.std.proofs.Common.{rules}
use Rattle.house.specs.Numbers.{bytes}
use Rattle.house.proofs.put_entry.Goals as goal

pub returns : goal.returns
unfolding bytes
returns c = c.put_bytes.ensures c.args.x (search rules)
