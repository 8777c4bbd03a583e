-- `pair::wrong_length` meets its contract: the number of entries is half the number of bytes.
use Rattle.std.proofs.Common.{rules}
use Rattle.house.proofs.NumberLaws.{length_entries}
use Rattle.routes.proofs.pair.wrong_length.Goals as goal

pub returns : goal.returns
returns c = rw (length_entries c.args.route.now) (search rules)
