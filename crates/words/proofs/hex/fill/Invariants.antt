-- `words::hex::fill`. The loop's invariant: the first i of the word's octets stand at the start of out. Assumes nothing.
use mathlib.Core.Path.{◌≡◌}
use lib.ListN.{length}
use Rattle.words.specs.Hex.{octets_of}
use Rattle.words.proofs.PutLaws.{Pasted}
use Rattle.words.proofs.hex.fill.Given as goal

abbrev pub invariant-loop-i : goal.invariant-loop-i
invariant-loop-i l = (length (octets_of l.word) ≡ l.count) × Pasted l.initial.out 0 (octets_of l.word) l.out l.i
