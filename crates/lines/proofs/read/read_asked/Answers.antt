-- `lines::read::read_asked`: the line is of the form where its words are as many and each was read. Assumes nothing.
use Rattle.lines.proofs.AnswerLaws.{counted}
use Rattle.lines.proofs.ReadLaws.{miscounted, not_part, not_numbers, d_none, m_none, given_none, numbers_none, asked_read}
use Rattle.lines.proofs.read.read_asked.Goals as goal

pub returns-then-line-form-clause-read : goal.returns-then-line-form-clause-read
returns-then-line-form-clause-read c = miscounted (counted _ _ c.args.line.is_split) c.if-line-form.true

pub returns-in_err-d-clause-read : goal.returns-in_err-d-clause-read
returns-in_err-d-clause-read c = rw c.from_residual.ensures (d_none (not_part c.read_octets.ensures c.in_err-d.was))

pub returns-in_err-m-clause-read : goal.returns-in_err-m-clause-read
returns-in_err-m-clause-read c = rw c.from_residual-in_err-m.ensures (m_none (not_part c.read_octets-2.ensures c.in_err-m.was))

pub returns-in_err-numbers-clause-read : goal.returns-in_err-numbers-clause-read
returns-in_err-numbers-clause-read c = rw c.from_residual-in_err-numbers.ensures (numbers_none (not_numbers _ _ _ c.read_numbers.ensures c.in_err-numbers.was))

pub returns-in_err-given-clause-read : goal.returns-in_err-given-clause-read
returns-in_err-given-clause-read c = rw c.from_residual-in_err-given.ensures (given_none (not_part c.read_octets-3.ensures c.in_err-given.was))

pub returns-clause-read : goal.returns-clause-read
returns-clause-read c =
    asked_read (counted _ _ c.args.line.is_split) c.if-line-form.false c.read_octets.ensures c.in_ok-d.was c.read_octets-2.ensures c.in_ok-m.was
    c.read_numbers.ensures c.in_ok-numbers.was c.read_octets-3.ensures c.in_ok-given.was
