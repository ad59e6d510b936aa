-- `requests::read_offset_read`: eight octets. Assumes nothing.
use Rattle.std.proofs.Common.{eq-eqb, ne_eqb}
use Rattle.meaning.specs.Messages.{request_by, as_request, requested_by}
use Rattle.messages.proofs.requests.read_offset_read.Goals as goal

pub returns-then-request-ne8 : goal.returns-then-request-ne8
unfolding request_by as_request requested_by
returns-then-request-ne8 c = rw (ne_eqb _ 8 c.if-request-ne8.true)

pub returns : goal.returns
unfolding request_by as_request requested_by
returns c =
    rw (eq-eqb _ 8 c.if-request-ne8.false, ← c.id_of.ensures, ← c.offset_of.ensures, ← c.number_from.ensures.0)
