-- `write::put_record` meets its contract: its two stores make the record.
use mathlib.Core.Path.{refl}
use Rattle.planfile.proofs.WriteLaws.{record_stored}
use Rattle.planfile.proofs.write.put_record.Goals as goal

pub returns : goal.returns
returns c = record_stored refl c.to_le_bytes.ensures c.to_le_bytes-2.ensures c.store.ensures c.store-2.ensures
