-- `places::range_in`: the first table of the answer, and what is told of the range. Assumes nothing.
use Rattle.std.proofs.Common.{◌≡◌, Err, rules}
use Rattle.places.proofs.Replies.{range_refused, range_none, range_told}
use Rattle.places.proofs.range_in.Goals as goal

pub returns-in_err-first : goal.returns-in_err-first
returns-in_err-first c =
    let e : c.from_residual.result ≡ Err c.in_err-first.field-0.0 = search rules in
    rw e (range_refused _ _ _ c.in_err-first.ensures _ _ _ _)

pub returns-in_err-item : goal.returns-in_err-item
returns-in_err-item c =
    let e : c.from_residual-in_err-item.result ≡ Err c.in_err-item.field-0.0 = search rules in
    rw e (range_none _ _ _ _ c.in_ok-first.ensures c.ok_or.ensures.value c.in_err-item.was)

pub returns : goal.returns
returns c = range_told _ _ _ _ c.in_ok-first.ensures c.ok_or.ensures.value c.in_ok-item.was
