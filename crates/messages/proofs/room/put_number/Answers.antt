-- `room::put_number`: the part of the room is filled with the number. Assumes nothing.
use Rattle.messages.proofs.Puts.{put_filled}
use Rattle.messages.proofs.room.put_number.Goals as goal

pub returns : goal.returns
returns c = put_filled c.args.room.now c.args.at c.args.octets c.args.number _ c.requires c.fill.ensures
