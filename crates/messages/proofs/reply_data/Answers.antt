-- `messages::reply_data`: the part that a read's data are; an empty one elsewhere. Assumes nothing.
use Rattle.std.proofs.Common.{arith}
use Rattle.meaning.specs.Messages.{reply_told}
use Rattle.messages.proofs.Parts.{heard_came, reply_cut}
use Rattle.messages.proofs.reply_data.Goals as goal

pub overflow_add-end : goal.overflow_add-end
unfolding reply_told
overflow_add-end c = omega (arith, (heard_came _ c.read.ensures (rw c.in-Ok-Data.field-0-is at c.in-Ok-Data.is)).0)

pub slice_bounds-result-end : goal.slice_bounds-result-end
unfolding reply_told
slice_bounds-result-end c = omega (arith, (heard_came _ c.read.ensures (rw c.in-Ok-Data.field-0-is at c.in-Ok-Data.is)).0)

pub returns-in-Ok-Data : goal.returns-in-Ok-Data
unfolding reply_told
returns-in-Ok-Data c =
    let both = reply_cut _ c.read.ensures (rw c.in-Ok-Data.field-0-is at c.in-Ok-Data.is) _ _ in record { reply = both.0; place = both.1 }

pub returns-in-Ok-Done : goal.returns-in-Ok-Done
unfolding reply_told
returns-in-Ok-Done c =
    let both = reply_cut _ c.read.ensures (rw c.in-Ok-Done.field-0-is at c.in-Ok-Done.is) _ _ in record { reply = both.0; place = both.1 }

pub returns-in-Ok-Refused : goal.returns-in-Ok-Refused
unfolding reply_told
returns-in-Ok-Refused c =
    let both = reply_cut _ c.read.ensures (rw c.in-Ok-Refused.field-0-is at c.in-Ok-Refused.is) _ _ in record { reply = both.0; place = both.1 }

pub returns-in-Err : goal.returns-in-Err
unfolding reply_told
returns-in-Err c =
    let both = reply_cut _ c.read.ensures c.in-Err.is _ _ in record { reply = both.0; place = both.1 }
