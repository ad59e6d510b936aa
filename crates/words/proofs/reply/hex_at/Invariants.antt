-- `words::reply::hex_at`. The loop's invariant: the digits of the octets so far stand in out from `at` on, and `to` is the place after
-- them. A turn stores two digits. Assumes nothing.
use mathlib.Core.Path.{◌≡◌}
use Prim.Native.Nat.{◌+◌, ◌*◌}
use lib.ListN.{length}
use Rattle.words.specs.Hex.{hex_pairs}
use Rattle.words.proofs.PutLaws.{Pasted}
use Rattle.words.proofs.reply.hex_at.Given as goal

abbrev pub invariant-loop-b : goal.invariant-loop-b
invariant-loop-b l = (length (hex_pairs l.octets) ≡ length l.octets * 2)
    × (l.to ≡ l.at + l.b-index * 2)
    × Pasted l.initial.out l.at (hex_pairs l.octets) l.out (l.b-index * 2)
