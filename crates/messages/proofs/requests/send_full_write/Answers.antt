-- `requests::send_full_write`: sent where it fits. Assumes nothing.
use Rattle.std.proofs.Common.{◌+◌, length, ◌∙◌, arith}
use Rattle.meaning.specs.Messages.{request_fits, request_octets}
use Rattle.meaning.proofs.Octets.{octets_long}
use Rattle.messages.proofs.Puts.{full_write_long, put_long, put_then, has_room, is_sent, not_sent}
use Rattle.messages.proofs.requests.send_full_write.Goals as goal

pub put_head-behind_id-requires : goal.put_head-behind_id-requires
put_head-behind_id-requires c =
    omega (arith, has_room c.both-fits.result _ (6 + length c.args.new.now) (length c.args.room.now) (c.both.ensures ∙ rw c.ends_within.ensures) c.if-both.true)

pub put_counted-requires : goal.put_counted-requires
put_counted-requires c =
    let h = has_room c.both-fits.result _ (6 + length c.args.new.now) (length c.args.room.now) (c.both.ensures ∙ rw c.ends_within.ensures) c.if-both.true in
    omega (arith, put_long c.put_head-behind_id.ensures, octets_long 1 2 c.args.id)

pub returns-then-both : goal.returns-then-both
unfolding request_fits request_octets
returns-then-both c =
    let fits = rw (c.ends_within.ensures, c.both-fits.ensures) at c.both.ensures in let both = is_sent _ _ _ _ (full_write_long c.args.id 0 c.args.new.now) _ fits c.if-both.true (put_then c.put_head-behind_id.ensures c.put_counted.ensures) in record { reply = both.0; room = both.1 }

pub returns : goal.returns
unfolding request_fits request_octets
returns c =
    let fits = rw (c.ends_within.ensures, c.both-fits.ensures) at c.both.ensures in let both = not_sent _ _ _ _ (full_write_long c.args.id 0 c.args.new.now) _ fits c.if-both.false in record { reply = both.0; room = both.1 }
