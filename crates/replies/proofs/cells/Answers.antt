-- `replies::cells`: octet by octet. Assumes nothing.
use Rattle.replies.proofs.Rows.{wide, copied_none, copied_more, copied_all}
use Rattle.replies.proofs.cells.Goals as goal

pub loop-at-init : goal.loop-at-init
loop-at-init c = copied_none _

pub loop-at-preserved : goal.loop-at-preserved
loop-at-preserved c =
    copied_more _ c.well_formed.0.1.0.1 (wide 22 c.args.matrix c.well_formed.0.0 c.well_formed.0.1.1) c.loop-at.invariant c.loop-at-test.true

pub returns : goal.returns
returns c =
    copied_all _ c.well_formed.0.1.0.1 (wide 22 c.args.matrix c.well_formed.0.0 c.well_formed.0.1.1) c.loop-at.invariant c.loop-at-test.false
