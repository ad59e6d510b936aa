-- `Calendar::rows`: the loop has filled the rows before this one (Filled). Assumes nothing.
use mathlib.Core.List.{[]}
use lib.ListN.{replicate}
use Rattle.almanac.proofs.Build.{Filled}
use Rattle.calendar.proofs.Cells.{row_of}
use Rattle.calendar.proofs.Calendar.rows.Given as goal

abbrev pub invariant-loop-row : goal.invariant-loop-row
invariant-loop-row l = Filled [] (replicate 22 0) 15 (row_of l.self.controls l.self.table.now) l.rows l.row
