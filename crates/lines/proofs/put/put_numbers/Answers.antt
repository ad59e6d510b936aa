-- `lines::put::put_numbers`: the loop's invariant, `Counted`: the numbers so far stand in `out`. Assumes nothing.
use native.Mathlib.Omega.{arith}
use Rattle.words.proofs.PutLaws.{put_long}
use Rattle.lines.proofs.PutLaws.{counted_none, counted_room, counted_more, counted_all}
use Rattle.lines.proofs.put.put_numbers.Goals as goal

pub loop-n-init : goal.loop-n-init
loop-n-init c = counted_none _ _ (omega arith) (omega arith)

pub put_number-at-requires : goal.put_number-at-requires
put_number-at-requires c = counted_room c.loop-n.invariant (omega arith)

pub loop-n-preserved : goal.loop-n-preserved
loop-n-preserved c = counted_more c.loop-n.invariant (omega arith) c.put_number-at.ensures

pub shape_of-out : goal.shape_of-out
shape_of-out c = put_long c.loop-n.invariant.is

pub returns : goal.returns
returns c = counted_all c.loop-n.invariant (omega arith)
