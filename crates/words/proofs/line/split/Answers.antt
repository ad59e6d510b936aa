-- `words::split`. The loop's invariant, `Splitting`: the reply for the line is what the words from `from` on make of the n places
-- found. The measure is the number of places left. Assumes nothing.
use mathlib.Core.Path.{◌∙◌}
use native.Mathlib.Omega.{arith}
use Rattle.words.proofs.LineLaws.{split_none, split_empty, split_more, split_last, split_many}
use Rattle.words.proofs.line.split.Goals as goal

pub loop-n-init : goal.loop-n-init
loop-n-init c = split_none _

pub returns-then-end-from : goal.returns-then-end-from
returns-then-end-from c = c.no_words.ensures ∙ split_empty _ c.loop-n.invariant c.find_space-end.ensures.value c.if-end-from.true

pub returns-then-end-line : goal.returns-then-end-line
returns-then-end-line c =
    split_last _ c.loop-n.invariant c.find_space-end.ensures.value c.if-end-line.true c.if-end-from.false (omega arith)

pub loop-n-preserved : goal.loop-n-preserved
loop-n-preserved c =
    split_more _ c.loop-n.invariant c.find_space-end.ensures.value (omega arith) c.if-end-from.false (omega arith)

pub returns : goal.returns
returns c = c.no_words-2.ensures ∙ split_many c.loop-n.invariant (omega arith)
