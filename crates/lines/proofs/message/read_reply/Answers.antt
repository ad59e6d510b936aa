-- `lines::message::read_reply`: its numbers, and its data. Assumes nothing.
use mathlib.Core.Path.{ap}
use native.Mathlib.Omega.{arith}
use lib.ListN.{length}
use Rattle.messages.proofs.Parts.{reply_short}
use Rattle.lines.proofs.message.read_reply.Goals as goal

pub returns : goal.returns
returns c =
    record {
      told = rw (c.reply_told-told.ensures, c.read_reply.ensures);
      within = omega (arith, ap length c.reply_data.ensures.reply, reply_short c.args.d.now);
      octets = c.reply_data.ensures.reply;
    }
