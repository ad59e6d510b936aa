-- `words::split`. The loop's invariant, `Splitting`: the reply for the line is what the words from `from` on make of the n places
-- found. Assumes nothing.
use Rattle.words.proofs.LineLaws.{Splitting}
use Rattle.words.proofs.line.split.Given as goal

abbrev pub invariant-loop-n : goal.invariant-loop-n
invariant-loop-n l = Splitting l.line l.spans l.from l.n
