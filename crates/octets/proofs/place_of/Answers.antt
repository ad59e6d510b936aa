-- `octets::place_of`: as defined for each DATA_ORDER. Assumes nothing.
use borrow.Author.Tests.{eq-eqb, ne_eqb}
use native.Mathlib.Omega.{arith}
use Rattle.octets.specs.Octets.{place_of}
use Rattle.octets.proofs.place_of.Goals as goal

pub returns-then-order-eq0 : goal.returns-then-order-eq0
unfolding place_of
returns-then-order-eq0 c = (rw (eq-eqb _ _ c.if-order-eq0.true), omega (arith, c.requires))

pub returns : goal.returns
unfolding place_of
returns c = (rw (ne_eqb _ _ c.if-order-eq0.false), c.requires)
