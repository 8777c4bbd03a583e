-- `Printed::number` meets its contract: a space and the digits behind it are the number's field, of at most 21 bytes.
use Rattle.desk.proofs.LineLaws.{put_one}
use Rattle.desk.proofs.Printed.number.Goals as goal

pub returns-clause-put : goal.returns-clause-put
returns-clause-put c = put_one c.text.ensures.put c.text-2.ensures.put c.decimal-k.ensures.len c.decimal-k.ensures.digits
