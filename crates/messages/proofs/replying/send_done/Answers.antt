-- `replying::send_done`: one octet, sent where there is room for it. Assumes nothing.
use Rattle.std.proofs.Common.{sym, refl, le-leb}
use borrow.Author.Tests.{lt-leb}
use Rattle.meaning.specs.Messages.{reply_fits, reply_octets}
use Rattle.messages.proofs.Puts.{is_sent, not_sent}
use Rattle.messages.proofs.replying.send_done.Goals as goal

pub returns-then-room-ge1 : goal.returns-then-room-ge1
unfolding reply_fits reply_octets
returns-then-room-ge1 c =
    let both = is_sent _ _ _ 1 refl _ (sym (le-leb 1 _ c.if-room-ge1.true)) refl c.put_octet.ensures in record { reply = both.0; room = both.1 }

pub returns : goal.returns
unfolding reply_fits reply_octets
returns c =
    let both = not_sent _ _ _ 1 refl _ (sym (lt-leb 1 _ c.if-room-ge1.false)) refl in record { reply = both.0; room = both.1 }
