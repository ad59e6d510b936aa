-- `replying::send_data`: sent where it fits. Assumes nothing.
use Rattle.std.proofs.Common.{◌+◌, length, ◌∙◌, arith}
use Rattle.meaning.specs.Basics.{◌≤?◌}
use Rattle.meaning.specs.Messages.{reply_fits, reply_octets}
use Rattle.messages.proofs.Puts.{holds_long, put_long, put_then, has_room, is_sent, not_sent}
use Rattle.messages.proofs.replying.send_data.Goals as goal

pub put_octet-behind-requires : goal.put_octet-behind-requires
put_octet-behind-requires c =
    omega (arith, has_room (length c.args.new.now ≤? 65535) _ (4 + length c.args.new.now) (length c.args.room.now) (c.both.ensures ∙ rw c.ends_within.ensures) c.if-both.true)

pub put_counted-requires : goal.put_counted-requires
put_counted-requires c =
    let h = has_room (length c.args.new.now ≤? 65535) _ (4 + length c.args.new.now) (length c.args.room.now) (c.both.ensures ∙ rw c.ends_within.ensures) c.if-both.true in
    omega (arith, put_long c.put_octet-behind.ensures)

pub returns-then-both : goal.returns-then-both
unfolding reply_fits reply_octets
returns-then-both c =
    let both = is_sent _ _ _ _ (holds_long c.args.new.now) _ (c.both.ensures ∙ rw c.ends_within.ensures) c.if-both.true
    (put_then c.put_octet-behind.ensures c.put_counted.ensures) in record { reply = both.0; room = both.1 }

pub returns : goal.returns
unfolding reply_fits reply_octets
returns c =
    let both = not_sent _ _ _ _ (holds_long c.args.new.now) _ (c.both.ensures ∙ rw c.ends_within.ensures) c.if-both.false in record { reply = both.0; room = both.1 }
