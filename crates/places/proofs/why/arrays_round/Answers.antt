-- `why::arrays_round`: those among the items before the place are counted. Assumes nothing.
use native.Mathlib.Omega.{arith}
use Rattle.items.proofs.ReadLaws.{range_read, next_read}
use Rattle.places.proofs.Reasons.{counted_none, counted_next}
use Rattle.places.proofs.why.arrays_round.Goals as goal

pub loop-at-init : goal.loop-at-init
loop-at-init c = record { here = c.first-place.ensures; counted = counted_none _ _ }

pub one_round-arrays-requires : goal.one_round-arrays-requires
one_round-arrays-requires c = (range_read _ _ c.read-read.ensures, c.loop-at-test.true)

pub loop-at-preserved : goal.loop-at-preserved
loop-at-preserved c =
    let read = rw c.loop-at.invariant.here at c.read-read.ensures in
    record {
      here = next_read _ _ (omega (arith, c.requires, c.loop-at-test.true)) read;
      counted = counted_next _ _ c.requires c.loop-at.invariant.counted c.loop-at-test.true read c.one_round-arrays.ensures.1 c.one_round-arrays.ensures.0;
    }
