-- `words::hex::piece_hex`. The loop's invariant: the word is all hex where the octets so far are and what is left of it is. Assumes nothing.
use mathlib.Core.Path.{◌≡◌}
use mathlib.Core.Bool.{◌&&◌}
use lib.ListN.{drop}
use Rattle.words.specs.Hex.{all_hex}
use Rattle.words.proofs.hex.piece_hex.Given as goal

abbrev pub invariant-loop-b : goal.invariant-loop-b
invariant-loop-b l = all_hex l.piece ≡ (l.all && all_hex (drop l.b-index l.piece))
