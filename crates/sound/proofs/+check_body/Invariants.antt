-- `sound::check_body`: the loop has cleared the items from its start up to `place` (Going), and what is left of the body is its measure;
-- the measure of the recursion is the levels left. Assumes nothing.
use Prim.Native.Nat.{◌-◌}
use Rattle.sound.specs.Walk.{Going}
use Rattle.sound.proofs.+check_body.Given as goal

abbrev pub decreases-check_body : goal.decreases-check_body
decreases-check_body l = l.levels

abbrev pub invariant-loop-r : goal.invariant-loop-r
invariant-loop-r l = Going l.d l.initial.place.at l.place.at l.set l.r l.levels

abbrev pub decreases-loop-r : goal.decreases-loop-r
decreases-loop-r l = l.r.limit - l.place.at
