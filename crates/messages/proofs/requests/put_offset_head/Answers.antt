-- `requests::put_offset_head`: the offset behind kind and id. Assumes nothing.
use Rattle.std.proofs.Common.{arith}
use Rattle.meaning.proofs.Octets.{octets_long}
use Rattle.messages.proofs.Puts.{put_long, put_then}
use Rattle.messages.proofs.requests.put_offset_head.Goals as goal

pub put_number-requires : goal.put_number-requires
put_number-requires c = omega (arith, put_long c.put_head-behind_id.ensures, octets_long 1 2 c.args.id)

pub returns : goal.returns
returns c = put_then c.put_head-behind_id.ensures c.put_number.ensures
