-- `measure::body_size` and `measure::item_size`: what the loop has measured comes with what is left to the whole body (Going), and what is left falls. The cycle's
-- measure is twice the depth, and one more for a body. Assumes nothing.
use Prim.Native.Nat.{◌+◌, ◌-◌, ◌*◌}
use Rattle.places.specs.Measuring.{Going}
use Rattle.places.proofs.measure.+body_size_item_size.Given as goal

abbrev pub decreases-body_size : goal.decreases-body_size
decreases-body_size l = l.depth * 2 + 1

abbrev pub decreases-item_size : goal.decreases-item_size
decreases-item_size l = l.depth * 2

abbrev pub invariant-body_size-loop-numbers : goal.invariant-body_size-loop-numbers
invariant-body_size-loop-numbers l = Going l.d l.numbers l.initial.place.at l.items l.depth l.wanted l.span l.place.at

abbrev pub decreases-body_size-loop-numbers : goal.decreases-body_size-loop-numbers
decreases-body_size-loop-numbers l = l.initial.place.at + l.items - l.place.at
