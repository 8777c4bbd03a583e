-- `house::bytes_at` meets its contract: the chunks of W bytes each are the bytes of the numbers.
use Rattle.std.proofs.Common.{rules}
use Rattle.std.proofs.lemmas.Option.{unwrap_or-slice_get}
use Rattle.house.proofs.NumberLaws.{le_chunk}
use Rattle.house.proofs.bytes_at.Goals as goal

pub returns : goal.returns
returns g c = search (rules, unwrap_or-slice_get, le_chunk)
