-- `check::sum`: the total is that of the octets so far, modulo 256. Assumes nothing.
use Rattle.std.proofs.Common.{◌≡◌, ◌%◌, ◌^◌, take}
use Rattle.meaning.specs.Messages.{sum_of}
use Rattle.messages.proofs.check.sum.Given as goal

abbrev pub invariant-loop-octet : goal.invariant-loop-octet
invariant-loop-octet l = l.total ≡ sum_of (take l.octet-index l.new) % 2 ^ 8
