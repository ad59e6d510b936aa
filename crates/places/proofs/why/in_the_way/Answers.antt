-- `why::in_the_way`: what is left from the place on leads to the same as all of it. Assumes nothing.
use Rattle.std.proofs.Common.{◌≡◌, Err, rules}
use native.Mathlib.Omega.{arith}
use Rattle.places.proofs.Reasons.{way_past, way_stops, way_ends}
use Rattle.places.proofs.why.in_the_way.Goals as goal

pub returns-in_err-depth : goal.returns-in_err-depth
returns-in_err-depth c =
    let e : c.from_residual.result ≡ Err c.in_err-depth.field-0.0 = search rules in
    rw e (way_stops _ _ _ c.loop.invariant.way (omega (arith, c.loop.invariant.here, c.loop-test.true)) c.step_in.ensures c.in_err-depth.was)

pub loop-preserved : goal.loop-preserved
loop-preserved c =
    let here = c.loop.invariant.here in
    record {
      here = omega (arith, here, c.past-place.ensures, c.requires, c.loop-test.true);
      way = way_past _ _ _ c.loop.invariant.way (omega (arith, here, c.loop-test.true)) c.step_in.ensures c.in_ok-depth.was (omega (arith, here, c.past-place.ensures, c.loop-test.true));
    }

pub returns : goal.returns
returns c = way_ends _ _ _ c.loop.invariant.way (omega (arith, c.loop.invariant.here, c.loop-test.false))
