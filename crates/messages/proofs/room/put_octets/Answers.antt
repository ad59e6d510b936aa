-- `room::put_octets`: the part of the room is wholly replaced. Assumes nothing.
use Rattle.messages.proofs.Puts.{put_copied}
use Rattle.messages.proofs.room.put_octets.Goals as goal

pub returns : goal.returns
returns c = put_copied c.args.room.now c.args.at c.args.new.now _ c.requires c.copy.ensures
