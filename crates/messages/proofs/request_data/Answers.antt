-- `messages::request_data`: the part that a write's data are; an empty one elsewhere. Assumes nothing.
use Rattle.std.proofs.Common.{arith}
use Rattle.meaning.specs.Messages.{request_told}
use Rattle.messages.proofs.Serving.{came_as}
use Rattle.messages.proofs.Parts.{request_cut}
use Rattle.messages.proofs.request_data.Goals as goal

pub overflow_add-end : goal.overflow_add-end
unfolding request_told
overflow_add-end c = omega (arith, (came_as _ c.read.ensures (rw c.in-Ok-FullWrite.field-0-is at c.in-Ok-FullWrite.is)).0)

pub slice_bounds-result-end : goal.slice_bounds-result-end
unfolding request_told
slice_bounds-result-end c = omega (arith, (came_as _ c.read.ensures (rw c.in-Ok-FullWrite.field-0-is at c.in-Ok-FullWrite.is)).0)

pub overflow_add-end-in-Ok-OffsetWrite : goal.overflow_add-end-in-Ok-OffsetWrite
unfolding request_told
overflow_add-end-in-Ok-OffsetWrite c = omega (arith, (came_as _ c.read.ensures (rw c.in-Ok-OffsetWrite.field-0-is at c.in-Ok-OffsetWrite.is)).0)

pub slice_bounds-result-end-in-Ok-OffsetWrite : goal.slice_bounds-result-end-in-Ok-OffsetWrite
unfolding request_told
slice_bounds-result-end-in-Ok-OffsetWrite c = omega (arith, (came_as _ c.read.ensures (rw c.in-Ok-OffsetWrite.field-0-is at c.in-Ok-OffsetWrite.is)).0)

pub returns-in-Ok-FullWrite : goal.returns-in-Ok-FullWrite
unfolding request_told
returns-in-Ok-FullWrite c =
    let both = request_cut _ c.read.ensures (rw c.in-Ok-FullWrite.field-0-is at c.in-Ok-FullWrite.is) _ _ in record { reply = both.0; place = both.1 }

pub returns-in-Ok-OffsetWrite : goal.returns-in-Ok-OffsetWrite
unfolding request_told
returns-in-Ok-OffsetWrite c =
    let both = request_cut _ c.read.ensures (rw c.in-Ok-OffsetWrite.field-0-is at c.in-Ok-OffsetWrite.is) _ _ in record { reply = both.0; place = both.1 }

pub returns-in-Err : goal.returns-in-Err
unfolding request_told
returns-in-Err c =
    let both = request_cut _ c.read.ensures c.in-Err.is _ _ in record { reply = both.0; place = both.1 }

pub returns-in-Ok-FullRead : goal.returns-in-Ok-FullRead
unfolding request_told
returns-in-Ok-FullRead c =
    let both = request_cut _ c.read.ensures (rw c.in-Ok-FullRead.field-0-is at c.in-Ok-FullRead.is) _ _ in record { reply = both.0; place = both.1 }

pub returns-in-Ok-OffsetRead : goal.returns-in-Ok-OffsetRead
unfolding request_told
returns-in-Ok-OffsetRead c =
    let both = request_cut _ c.read.ensures (rw c.in-Ok-OffsetRead.field-0-is at c.in-Ok-OffsetRead.is) _ _ in record { reply = both.0; place = both.1 }
