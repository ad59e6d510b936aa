-- `requests::send_full_read`: sent where it fits. Assumes nothing.
use Rattle.std.proofs.Common.{length}
use Rattle.meaning.specs.Basics.{◌≤?◌}
use Rattle.meaning.specs.Messages.{request_fits, request_octets}
use Rattle.messages.proofs.Puts.{full_read_long, has_room, is_sent, not_sent}
use Rattle.messages.proofs.requests.send_full_read.Goals as goal

pub put_head-requires : goal.put_head-requires
put_head-requires c = has_room (c.args.id ≤? 65535) _ 3 (length c.args.room.now) c.both.ensures c.if-both.true

pub returns-then-both : goal.returns-then-both
unfolding request_fits request_octets
returns-then-both c =
    let both = is_sent _ _ _ 3 (full_read_long c.args.id 0) _ c.both.ensures c.if-both.true c.put_head.ensures in record { reply = both.0; room = both.1 }

pub returns : goal.returns
unfolding request_fits request_octets
returns c =
    let both = not_sent _ _ _ 3 (full_read_long c.args.id 0) _ c.both.ensures c.if-both.false in record { reply = both.0; room = both.1 }
