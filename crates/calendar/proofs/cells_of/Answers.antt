-- `calendar::cells_of`: the loop has filled the columns before this one (Filled). Assumes nothing.
use mathlib.Core.Path.{refl, sym}
use native.Mathlib.Nat.{le_trans}
use native.Mathlib.Omega.{arith}
use lib.ListN.{get_or-eq_default}
use Rattle.almanac.proofs.Build.{fill_start, fill_step, fill_end}
use Rattle.calendar.proofs.cells_of.Goals as goal

pub loop-column-init : goal.loop-column-init
loop-column-init c = fill_start 0 0 22 _

pub loop-column-preserved : goal.loop-column-preserved
loop-column-preserved c = fill_step _ c.loop-column.invariant (omega arith) refl

pub returns : goal.returns
returns c = fill_end c.loop-column.invariant (λ k h l. sym (get_or-eq_default c.args.octets.now 0 (le_trans c.loop-column-test.false h)))
