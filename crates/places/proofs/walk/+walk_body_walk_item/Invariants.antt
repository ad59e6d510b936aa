-- `walk::walk_body` and `walk::walk_item`: what is left of a body leads where the whole does (OnItsWay), and falls. The cycle's measure is twice the depth, and one more
-- for a body. Assumes nothing.
use Prim.Native.Nat.{◌+◌, ◌-◌, ◌*◌}
use Rattle.places.specs.Walking.{OnItsWay}
use Rattle.places.proofs.walk.+walk_body_walk_item.Given as goal

abbrev pub decreases-walk_body : goal.decreases-walk_body
decreases-walk_body l = l.depth * 2 + 1

abbrev pub decreases-walk_item : goal.decreases-walk_item
decreases-walk_item l = l.depth * 2

abbrev pub invariant-walk_body-loop-aim : goal.invariant-walk_body-loop-aim
invariant-walk_body-loop-aim l = OnItsWay l.d l.image l.aim l.initial.walk l.items l.depth l.walk

abbrev pub decreases-walk_body-loop-aim : goal.decreases-walk_body-loop-aim
decreases-walk_body-loop-aim l = l.initial.walk.next.at + l.items - l.walk.next.at
