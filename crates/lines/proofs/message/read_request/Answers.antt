-- `lines::message::read_request`: its numbers, and its data. Assumes nothing.
use mathlib.Core.Path.{ap}
use native.Mathlib.Omega.{arith}
use lib.ListN.{length}
use Rattle.messages.proofs.Parts.{request_short}
use Rattle.lines.proofs.message.read_request.Goals as goal

pub returns : goal.returns
returns c =
    record {
      told = rw (c.request_told-told.ensures, c.read_request.ensures);
      within = omega (arith, ap length c.request_data.ensures.reply, request_short c.args.d.now);
      octets = c.request_data.ensures.reply;
    }
