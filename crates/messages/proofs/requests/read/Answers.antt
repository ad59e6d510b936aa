-- `requests::read`: by the first octet. Assumes nothing.
use Rattle.std.proofs.Common.{refl, arith}
use Rattle.messages.proofs.Reading.{in_none, by_first, by_none}
use Rattle.messages.proofs.requests.read.Goals as goal

pub returns-then-request-eq0 : goal.returns-then-request-eq0
returns-then-request-eq0 c = in_none _ c.if-request-eq0.true

pub returns-in-48 : goal.returns-in-48
returns-in-48 c = by_first _ 48 c.if-request-eq0.false c.in-48.is c.read_full_read.ensures

pub returns-in-63 : goal.returns-in-63
returns-in-63 c = by_first _ 63 c.if-request-eq0.false c.in-63.is c.read_offset_read.ensures

pub returns-in-64 : goal.returns-in-64
returns-in-64 c = by_first _ 64 c.if-request-eq0.false c.in-64.is c.read_full_write.ensures

pub returns-in-79 : goal.returns-in-79
returns-in-79 c = by_first _ 79 c.if-request-eq0.false c.in-79.is c.read_offset_write.ensures

pub returns-in_default : goal.returns-in_default
returns-in_default c = by_first _ _ c.if-request-eq0.false refl (by_none _ _ (λ e. omega arith) (λ e. omega arith) (λ e. omega arith) (λ e. omega arith))
