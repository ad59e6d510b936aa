-- `octets::counted`: the loop has counted in the i most significant octets (Counting). Assumes nothing.
use mathlib.Core.Path.{◌∙◌}
use native.Mathlib.Omega.{arith}
use Rattle.octets.proofs.Numbers.{counted_none, counted_next, counted_all, counted_room}
use Rattle.octets.proofs.counted.Goals as goal

pub loop-i-init : goal.loop-i-init
loop-i-init c = counted_none _ _ c.requires

pub overflow_mul-number : goal.overflow_mul-number
overflow_mul-number c = omega (arith, counted_room _ _ _ _ c.loop-i.invariant c.loop-i-test.true)

pub overflow_add-number : goal.overflow_add-number
overflow_add-number c = omega (arith, c.wide.ensures.1, counted_room _ _ _ _ c.loop-i.invariant c.loop-i-test.true)

pub loop-i-preserved : goal.loop-i-preserved
loop-i-preserved c =
    counted_next _ _ _ _ _ c.loop-i.invariant c.loop-i-test.true (c.wide.ensures.0 ∙ rw c.place_of-k.ensures.0) c.wide.ensures.1

pub returns : goal.returns
returns c = counted_all _ _ _ _ c.loop-i.invariant c.loop-i-test.false
