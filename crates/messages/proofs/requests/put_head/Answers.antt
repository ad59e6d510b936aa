-- `requests::put_head`: two fields, one behind the other. Assumes nothing.
use Rattle.messages.proofs.Puts.{put_then}
use Rattle.messages.proofs.requests.put_head.Goals as goal

pub returns : goal.returns
returns c = put_then c.put_octet-behind_kind.ensures c.put_number.ensures
