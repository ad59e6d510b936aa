-- `octets::least_first`: the loop has filled in some octets, and what is left leads to the whole (Filling). Assumes nothing.
use native.Mathlib.Omega.{arith}
use mathlib.Core.Path.{refl}
use Rattle.octets.proofs.Filled.{filled_none, filled_next, filled_all}
use Rattle.octets.proofs.least_first.Goals as goal

pub loop-octet-init : goal.loop-octet-init
loop-octet-init c = filled_none _ _

pub loop-octet-preserved : goal.loop-octet-preserved
loop-octet-preserved c =
    filled_next _ _ _ _ _ _ c.loop-octet.invariant (omega (arith, c.loop-octet-test.true, c.loop-octet.invariant.long)) refl

pub returns : goal.returns
returns c =
    filled_all _ _ _ _ _ c.loop-octet.invariant (omega (arith, c.loop-octet-test.false, c.loop-octet.invariant.long))
