-- `replying::send_refusal`: one octet, sent where it is a refusal's and there is room for it. Assumes nothing.
use Rattle.std.proofs.Common.{length, refl, ◌∙◌, arith}
use Rattle.meaning.specs.Basics.{◌≤?◌}
use Rattle.meaning.specs.Messages.{reply_fits, reply_octets}
use Rattle.messages.proofs.Puts.{both_hold, has_room, is_sent, not_sent}
use Rattle.messages.proofs.replying.send_refusal.Goals as goal

pub overflow_cast-code : goal.overflow_cast-code
overflow_cast-code c =
    let fits = (both_hold c.both-fits.result (1 ≤? length c.args.room.now) _ c.both.ensures c.if-both.true).0 in
    omega (arith, has_room (1 ≤? c.args.code) _ c.args.code 4 c.both-fits.ensures fits)

pub put_octet-requires : goal.put_octet-requires
put_octet-requires c = has_room c.both-fits.result _ 1 (length c.args.room.now) c.both.ensures c.if-both.true

pub returns-then-both : goal.returns-then-both
unfolding reply_fits reply_octets
returns-then-both c =
    let both = is_sent _ _ _ 1 refl _ (c.both.ensures ∙ rw c.both-fits.ensures) c.if-both.true c.put_octet.ensures in record { reply = both.0; room = both.1 }

pub returns : goal.returns
unfolding reply_fits reply_octets
returns c =
    let both = not_sent _ _ _ 1 refl _ (c.both.ensures ∙ rw c.both-fits.ensures) c.if-both.false in record { reply = both.0; room = both.1 }
