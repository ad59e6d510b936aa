-- `access::around`: at each item, the item read and the latest TABLE before it. Assumes nothing.
use Rattle.access.proofs.Laws.{passing_first, passing_next, passing_seen}
use Rattle.access.proofs.around.Goals as goal

pub loop-init : goal.loop-init
loop-init c = passing_first _ _ c.requires _ (rw c.first.ensures at c.read-read.ensures)

pub loop-preserved : goal.loop-preserved
loop-preserved c =
    passing_next _ _ c.requires _ _ _ c.loop.invariant c.loop-test.true _ c.latest-table.ensures _ c.read-read-in-loop.ensures

pub returns : goal.returns
returns c = passing_seen _ _ c.requires _ _ _ c.loop.invariant c.loop-test.false
