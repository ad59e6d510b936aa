-- `lines::read::read_numbers`. The loop's invariant: the words before i are numbers within their limits, and values are what they come to. Assumes nothing.
use mathlib.Core.Path.{◌∙◌}
use native.Mathlib.Omega.{arith}
use Rattle.lines.proofs.ReadLaws.{limits_long, so_far_none, so_far_more, so_far_not, so_far_all}
use Rattle.lines.proofs.read.read_numbers.Goals as goal

pub loop-i-init : goal.loop-i-init
loop-i-init c = so_far_none _ _ _

pub loop-i-preserved : goal.loop-i-preserved
loop-i-preserved c =
    so_far_more c.requires.from_bound.1 c.loop-i.invariant (omega arith) c.word.ensures.value c.number.ensures _ c.in_ok-values.was

pub returns-in_err-values : goal.returns-in_err-values
returns-in_err-values c =
    c.from_residual.ensures ∙ so_far_not c.requires.from_bound.1 c.loop-i.invariant (omega arith) c.word.ensures.value c.number.ensures c.in_err-values.was

pub returns : goal.returns
returns c = so_far_all c.loop-i.invariant (omega (arith, limits_long c.requires.from_bound.1))
