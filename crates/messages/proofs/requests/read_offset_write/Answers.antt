-- `requests::read_offset_write`: data behind id and offset. Assumes nothing.
use Rattle.std.proofs.Common.{arith}
use Rattle.std.proofs.lemmas.Result.{err_from_is_err_and}
use Rattle.meaning.specs.Messages.{request_by, as_request, requested_by}
use Rattle.messages.proofs.Checks.{counted_are, counted_not, count_missing, count_there, data_long}
use Rattle.messages.proofs.requests.read_offset_write.Goals as goal

pub returns-in_err-count : goal.returns-in_err-count
unfolding request_by as_request requested_by
returns-in_err-count c =
    let p = err_from_is_err_and c.from_residual.result c.from_residual.ensures.1 in
    let m = count_missing _ c.ok_or.ensures.value c.in_err-count.was in
    rw (p.1, p.2, m.1, counted_not _ _ c.counted_from.ensures m.0)

pub id_of-requires : goal.id_of-requires
id_of-requires c = omega (arith, (counted_are _ _ c.counted_from.ensures (count_there _ c.ok_or.ensures.value c.in_ok-count.was)).long)

pub offset_of-requires : goal.offset_of-requires
offset_of-requires c = omega (arith, (counted_are _ _ c.counted_from.ensures (count_there _ c.ok_or.ensures.value c.in_ok-count.was)).long)

pub returns : goal.returns
unfolding request_by as_request requested_by
returns c =
    let s = counted_are _ _ c.counted_from.ensures (count_there _ c.ok_or.ensures.value c.in_ok-count.was) in rw (s.is, ← c.id_of.ensures, ← c.offset_of.ensures, data_long _ 6 s)
