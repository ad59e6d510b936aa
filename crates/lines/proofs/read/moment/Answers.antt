-- `lines::read::moment`: number by number, each within its limit. Assumes nothing.
use native.Mathlib.Omega.{arith}
use borrow.Author.Rules.{rules}
use Rattle.lines.specs.Answer.{moment_of}
use Rattle.lines.proofs.read.moment.Goals as goal

pub overflow_cast-result : goal.overflow_cast-result
unfolding moment_of
overflow_cast-result c = omega (arith, c.requires 0)

pub overflow_cast-result-2 : goal.overflow_cast-result-2
unfolding moment_of
overflow_cast-result-2 c = omega (arith, c.requires 1)

pub overflow_cast-result-3 : goal.overflow_cast-result-3
unfolding moment_of
overflow_cast-result-3 c = omega (arith, c.requires 2)

pub overflow_cast-result-4 : goal.overflow_cast-result-4
unfolding moment_of
overflow_cast-result-4 c = omega (arith, c.requires 3)

pub overflow_cast-result-5 : goal.overflow_cast-result-5
unfolding moment_of
overflow_cast-result-5 c = omega (arith, c.requires 4)

pub returns : goal.returns
unfolding moment_of
returns c = search rules
