-- `octets::least_first`: the loop has filled in some octets, and what is left leads to the whole (Filling). Assumes nothing.
use Rattle.octets.specs.Octets.{Filling}
use Rattle.octets.proofs.least_first.Given as goal

abbrev pub invariant-loop-octet : goal.invariant-loop-octet
invariant-loop-octet l = Filling l.initial.octets l.value l.octets l.rest l.octet-index
