-- `replies::cells`: octet by octet. Assumes nothing.
use Rattle.replies.proofs.Rows.{Copied}
use Rattle.replies.proofs.cells.Given as goal

abbrev pub invariant-loop-at : goal.invariant-loop-at
invariant-loop-at l = Copied l.matrix l.octets l.at
