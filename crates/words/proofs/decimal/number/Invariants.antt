-- `words::number`. The loop's invariant, `SoFar`: the octets before this one are digits that come to n, which is no more than most.
-- Assumes nothing.
use Rattle.words.proofs.NumberLaws.{SoFar}
use Rattle.words.proofs.decimal.number.Given as goal

abbrev pub invariant-loop-b : goal.invariant-loop-b
invariant-loop-b l = SoFar l.word l.most l.b-index l.n
