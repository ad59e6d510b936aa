-- `lines::input::take_lines`. The measure is the number of the chunk's octets left. Assumes nothing.
use lib.ListN.{length}
use Rattle.lines.proofs.input.take_lines.Given as goal

abbrev pub decreases-loop-end : goal.decreases-loop-end
decreases-loop-end g l = length l.rest
