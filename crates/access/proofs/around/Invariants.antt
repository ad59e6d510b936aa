-- `access::around`: at each item, the item read and the latest TABLE before it. Assumes nothing.
use Rattle.access.proofs.Laws.{Passing}
use Rattle.access.proofs.around.Given as goal

abbrev pub invariant-loop : goal.invariant-loop
invariant-loop l = Passing l.description l.item l.read l.counter l.table
