-- `requests::send_offset_read`: sent where it fits. Assumes nothing.
use Rattle.std.proofs.Common.{length, append_assoc, arith}
use Rattle.meaning.specs.Messages.{request_fits, request_octets}
use Rattle.messages.proofs.Puts.{offset_head_long, offset_read_long, put_long, put_then, has_room, is_sent, not_sent}
use Rattle.messages.proofs.requests.send_offset_read.Goals as goal

pub put_offset_head-behind_offset-requires : goal.put_offset_head-behind_offset-requires
put_offset_head-behind_offset-requires c =
    omega (arith, has_room c.both-fits.result _ 8 (length c.args.room.now) c.both-2.ensures c.if-both.true)

pub put_number-requires : goal.put_number-requires
put_number-requires c =
    let h = has_room c.both-fits.result _ 8 (length c.args.room.now) c.both-2.ensures c.if-both.true in
    omega (arith, put_long c.put_offset_head-behind_offset.ensures, offset_head_long c.args.id c.args.offset)

pub returns-then-both : goal.returns-then-both
unfolding request_fits request_octets
returns-then-both c =
    let fits = rw (c.both-fits.ensures, c.both.ensures) at c.both-2.ensures in let both = is_sent _ _ _ 8 (offset_read_long c.args.id c.args.offset c.args.count) _ fits c.if-both.true
    (rw append_assoc at (put_then c.put_offset_head-behind_offset.ensures c.put_number.ensures)) in record { reply = both.0; room = both.1 }

pub returns : goal.returns
unfolding request_fits request_octets
returns c =
    let fits = rw (c.both-fits.ensures, c.both.ensures) at c.both-2.ensures in let both = not_sent _ _ _ 8 (offset_read_long c.args.id c.args.offset c.args.count) _ fits c.if-both.false in record { reply = both.0; room = both.1 }
