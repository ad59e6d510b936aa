-- `room::put_octet`: one octet is set. Assumes nothing.
use Rattle.messages.proofs.Puts.{put_one}
use Rattle.messages.proofs.room.put_octet.Goals as goal

pub returns : goal.returns
returns c = put_one _ _ _ c.requires
