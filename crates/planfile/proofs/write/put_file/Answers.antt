-- `write::put_file` meets its contract: the four parts are stored one after the other, and a sound change leaves them room.
use Rattle.planfile.proofs.StoreLaws.{are_bytes}
use Rattle.planfile.proofs.WriteLaws.{old_room, new_room, mode_room, rounds_room, file_stored}
use Rattle.planfile.proofs.write.put_file.Goals as goal

pub put_record-second-requires : goal.put_record-second-requires
put_record-second-requires c = old_room c.requires

pub put_record-third-requires : goal.put_record-third-requires
put_record-third-requires c = new_room c.requires c.put_record-second.ensures

pub put_record-rounds-requires : goal.put_record-rounds-requires
put_record-rounds-requires c = mode_room c.requires c.put_record-second.ensures c.put_record-third.ensures c.to_le_bytes.ensures

pub put_rounds-requires : goal.put_rounds-requires
put_rounds-requires c =
    rounds_room c.requires c.put_record-second.ensures c.put_record-third.ensures
    c.to_le_bytes.ensures
    c.put_record-rounds.ensures

pub returns : goal.returns
returns c =
    file_stored c.requires c.put_record-second.ensures c.put_record-third.ensures
    c.to_le_bytes.ensures
    c.put_record-rounds.ensures
    (are_bytes c.type_inv.old)
    (are_bytes c.type_inv.new)
    c.put_rounds.ensures
