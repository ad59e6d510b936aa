-- `records::triple_of`: two octets as a number, and one more. Assumes nothing.
use Prim.Native.Nat.{◌+◌, ◌≤◌}
use lib.ListN.{length}
use Rattle.records.proofs.Laws.{word_is}
use native.Mathlib.Omega.{arith}
use mathlib.Core.Path.{refl}
use Rattle.meaning.specs.Calendar.{triple_at}
use Rattle.records.proofs.triple_of.Goals as goal

pub returns : goal.returns
unfolding triple_at
returns c =
    let inside : 0 + 3 ≤ length c.args.raw.now = omega arith in
    rw (word_is _ c.args.raw.now 0 2 _ refl inside c.number_in.ensures.0, c.wide.ensures.0)
