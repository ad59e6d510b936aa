-- `serve`: by what the request was read as. Assumes nothing.
use Rattle.std.proofs.Common.{arith}
use Rattle.messages.proofs.Serving.{came_as, refused_served, full_read_served, offset_read_served, full_write_served, offset_write_served}
use Rattle.messages.proofs.serve.Goals as goal

pub overflow_add-end : goal.overflow_add-end
overflow_add-end c = omega (arith, (came_as _ c.read.ensures (rw c.in-Ok-FullWrite.field-0-is at c.in-Ok-FullWrite.is)).0)

pub slice_bounds-write_table-end : goal.slice_bounds-write_table-end
slice_bounds-write_table-end c = omega (arith, (came_as _ c.read.ensures (rw c.in-Ok-FullWrite.field-0-is at c.in-Ok-FullWrite.is)).0)

pub overflow_add-end-in-Ok-OffsetWrite : goal.overflow_add-end-in-Ok-OffsetWrite
overflow_add-end-in-Ok-OffsetWrite c = omega (arith, (came_as _ c.read.ensures (rw c.in-Ok-OffsetWrite.field-0-is at c.in-Ok-OffsetWrite.is)).0)

pub slice_bounds-write_range-end : goal.slice_bounds-write_range-end
slice_bounds-write_range-end c = omega (arith, (came_as _ c.read.ensures (rw c.in-Ok-OffsetWrite.field-0-is at c.in-Ok-OffsetWrite.is)).0)

pub returns-in-Err : goal.returns-in-Err
returns-in-Err c =
    let all = refused_served c.args.description.now c.args.image.now c.args.request.now c.args.room.now c.read.ensures c.in-Err.is (c.send_refusal.ensures.reply, c.send_refusal.ensures.room) in record { reply = all.0; image = all.1.0; room = all.1.1 }

pub returns-in-Ok-FullRead : goal.returns-in-Ok-FullRead
returns-in-Ok-FullRead c =
    let all = full_read_served c.args.description.now c.args.image.now c.args.request.now c.args.room.now c.read.ensures (c.reply_part.ensures.reply, c.reply_part.ensures.room) (rw c.in-Ok-FullRead.field-0-is at c.in-Ok-FullRead.is) c.table_place-place.ensures in record { reply = all.0; image = all.1.0; room = all.1.1 }

pub returns-in-Ok-OffsetRead : goal.returns-in-Ok-OffsetRead
returns-in-Ok-OffsetRead c =
    let all = offset_read_served c.args.description.now c.args.image.now c.args.request.now c.args.room.now c.read.ensures (c.reply_part-in-Ok-OffsetRead.ensures.reply, c.reply_part-in-Ok-OffsetRead.ensures.room) (rw c.in-Ok-OffsetRead.field-0-is at c.in-Ok-OffsetRead.is) c.new.ensures c.range_place-place.ensures in record { reply = all.0; image = all.1.0; room = all.1.1 }

pub returns-in-Ok-FullWrite : goal.returns-in-Ok-FullWrite
returns-in-Ok-FullWrite c =
    let all = full_write_served c.args.description.now c.args.image.now c.args.request.now c.args.room.now c.read.ensures (omega (arith, c.if-room-eq0.false)) (c.reply_verdict.ensures.reply, c.reply_verdict.ensures.room) (rw c.in-Ok-FullWrite.field-0-is at c.in-Ok-FullWrite.is) (c.write_table-verdict.ensures.reply, c.write_table-verdict.ensures.image) in record { reply = all.0; image = all.1.0; room = all.1.1 }

pub returns-in-Ok-OffsetWrite : goal.returns-in-Ok-OffsetWrite
returns-in-Ok-OffsetWrite c =
    let all = offset_write_served c.args.description.now c.args.image.now c.args.request.now c.args.room.now c.read.ensures (omega (arith, c.if-room-eq0.false)) (c.reply_verdict-in-Ok-OffsetWrite.ensures.reply, c.reply_verdict-in-Ok-OffsetWrite.ensures.room) (rw c.in-Ok-OffsetWrite.field-0-is at c.in-Ok-OffsetWrite.is) c.new-in-Ok-OffsetWrite.ensures
    (c.write_range-verdict.ensures.reply, c.write_range-verdict.ensures.image) in record { reply = all.0; image = all.1.0; room = all.1.1 }
