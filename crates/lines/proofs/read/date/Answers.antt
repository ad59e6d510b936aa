-- `lines::read::date`: number by number, each within its limit. Assumes nothing.
use native.Mathlib.Omega.{arith}
use borrow.Author.Rules.{rules}
use Rattle.lines.specs.Answer.{date_of}
use Rattle.lines.proofs.read.date.Goals as goal

pub overflow_cast-result : goal.overflow_cast-result
unfolding date_of
overflow_cast-result c = omega (arith, c.requires 0)

pub overflow_cast-result-2 : goal.overflow_cast-result-2
unfolding date_of
overflow_cast-result-2 c = omega (arith, c.requires 1)

pub overflow_cast-result-3 : goal.overflow_cast-result-3
unfolding date_of
overflow_cast-result-3 c = omega (arith, c.requires 2)

pub returns : goal.returns
unfolding date_of
returns c = search rules
