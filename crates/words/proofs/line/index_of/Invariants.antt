-- `words::index_of`. The loop's invariant, `Looked`: the name is none of the first k words. Assumes nothing.
use Rattle.words.specs.Line.{line_words}
use Rattle.words.proofs.IndexLaws.{Looked}
use Rattle.words.proofs.line.index_of.Given as goal

abbrev pub invariant-loop-k : goal.invariant-loop-k
invariant-loop-k l = Looked l.name (line_words l.text) l.k
