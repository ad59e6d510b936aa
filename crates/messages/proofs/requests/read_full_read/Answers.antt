-- `requests::read_full_read`: three octets. Assumes nothing.
use Rattle.std.proofs.Common.{eq-eqb, ne_eqb}
use Rattle.meaning.specs.Messages.{request_by, as_request, requested_by}
use Rattle.messages.proofs.requests.read_full_read.Goals as goal

pub returns-then-request-ne3 : goal.returns-then-request-ne3
unfolding request_by as_request requested_by
returns-then-request-ne3 c = rw (ne_eqb _ 3 c.if-request-ne3.true)

pub returns : goal.returns
unfolding request_by as_request requested_by
returns c = rw (eq-eqb _ 3 c.if-request-ne3.false, ← c.id_of.ensures)
