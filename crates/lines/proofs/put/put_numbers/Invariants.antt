-- `lines::put::put_numbers`: the loop's invariant, `Counted`: the numbers so far stand in `out`. Assumes nothing.
use Rattle.lines.proofs.PutLaws.{Counted}
use Rattle.lines.proofs.put.put_numbers.Given as goal

abbrev pub invariant-loop-n : goal.invariant-loop-n
invariant-loop-n l = Counted l.initial.out l.numbers l.out l.at l.n-index
