-- `calendar::cells_of`: the loop has filled the columns before this one (Filled). Assumes nothing.
use lib.ListN.{get_or}
use Rattle.almanac.proofs.Build.{Filled}
use Rattle.calendar.proofs.cells_of.Given as goal

abbrev pub invariant-loop-column : goal.invariant-loop-column
invariant-loop-column l = Filled 0 0 22 (λ k. get_or l.octets k 0) l.row l.column
