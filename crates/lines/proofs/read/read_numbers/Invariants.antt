-- `lines::read::read_numbers`. The loop's invariant: the words before i are numbers within their limits, and values are what they come to. Assumes nothing.
use lib.ListN.{take}
use Rattle.words.specs.Line.{line_words}
use Rattle.lines.proofs.ReadLaws.{SoFar}
use Rattle.lines.proofs.read.read_numbers.Given as goal

abbrev pub invariant-loop-i : goal.invariant-loop-i
invariant-loop-i l = SoFar (line_words l.fn.line.text.now) l.from (take l.count l.most) l.values l.i
