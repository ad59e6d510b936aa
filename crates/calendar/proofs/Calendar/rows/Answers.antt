-- `Calendar::rows`: the loop has filled the rows before this one (Filled). Assumes nothing.
use native.Mathlib.Nat.{le_trans}
use native.Mathlib.Omega.{arith}
use mathlib.Core.Path.{◌∙◌}
use mathlib.Core.List.{[]}
use Rattle.meaning.specs.Calendar.{matrix_of}
use Rattle.almanac.proofs.Build.{fill_start, fill_step, fill_end}
use Rattle.calendar.proofs.Cells.{row_fits, row_cells, no_row}
use Rattle.calendar.proofs.Calendar.rows.Goals as goal

pub loop-row-init : goal.loop-row-init
loop-row-init c = fill_start [] _ 15 _

pub cells_of-requires : goal.cells_of-requires
cells_of-requires c = rw c.row.ensures (row_fits _ c.args.self.now.sized)

pub loop-row-preserved : goal.loop-row-preserved
loop-row-preserved c =
    fill_step _ c.loop-row.invariant (omega (arith, c.args.self.now.sized.small.few_seasons))
    (c.cells_of.ensures ∙ rw c.row.ensures (row_cells _ _ _ c.loop-row-test.true))

pub returns : goal.returns
unfolding matrix_of
returns c = fill_end c.loop-row.invariant (λ k h l. no_row _ _ k (le_trans c.loop-row-test.false h))
