-- `check::check_octet`: the two's complement of the sum. Assumes nothing.
use Rattle.std.proofs.Common.{arith}
use Rattle.meaning.specs.Messages.{check_octet}
use Rattle.messages.proofs.check.check_octet.Goals as goal

pub returns : goal.returns
unfolding check_octet
returns c = omega arith
