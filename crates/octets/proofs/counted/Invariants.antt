-- `octets::counted`: the loop has counted in the i most significant octets (Counting). Assumes nothing.
use Rattle.octets.specs.Octets.{Counting}
use Rattle.octets.proofs.counted.Given as goal

abbrev pub invariant-loop-i : goal.invariant-loop-i
invariant-loop-i l = Counting l.octets l.order l.i l.number
