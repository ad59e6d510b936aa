-- `replying::read`: one octet, or data behind 00. Assumes nothing.
use Rattle.std.proofs.lemmas.Result.{err_from_is_err_and}
use Rattle.messages.proofs.Checks.{counted_are, counted_not, count_missing, count_there}
use Rattle.messages.proofs.Reading.{of_one, no_data, has_data, not_good}
use Rattle.messages.proofs.replying.read.Goals as goal

pub returns-then-reply-eq1 : goal.returns-then-reply-eq1
returns-then-reply-eq1 c = of_one _ c.if-reply-eq1.true c.read_short.ensures

pub returns-in_err-count : goal.returns-in_err-count
returns-in_err-count c =
    let p = err_from_is_err_and c.from_residual.result c.from_residual.ensures.1 in
    let m = count_missing _ c.ok_or.ensures.value c.in_err-count.was in
    rw (p.1, p.2, m.1) (no_data _ c.if-reply-eq1.false (counted_not _ _ c.counted_from.ensures m.0))

pub returns-then-reply-eq-GOOD : goal.returns-then-reply-eq-GOOD
returns-then-reply-eq-GOOD c =
    has_data _ c.if-reply-eq1.false (counted_are _ _ c.counted_from.ensures (count_there _ c.ok_or.ensures.value c.in_ok-count.was)) c.if-reply-eq-GOOD.true

pub returns : goal.returns
returns c =
    not_good _ c.if-reply-eq1.false (counted_are _ _ c.counted_from.ensures (count_there _ c.ok_or.ensures.value c.in_ok-count.was)) c.if-reply-eq-GOOD.false
