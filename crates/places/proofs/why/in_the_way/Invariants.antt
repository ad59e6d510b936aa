-- `why::in_the_way`: what is left from the place on leads to the same as all of it. Assumes nothing.
use mathlib.Core.Path.{◌≡◌}
use Rattle.places.specs.Measuring.{numbers_in}
use Rattle.places.proofs.Reasons.{OnTheWay}
use Rattle.places.proofs.why.in_the_way.Given as goal

abbrev pub invariant-loop : goal.invariant-loop
invariant-loop l = record { here : l.place.at ≡ l.counter; way : OnTheWay l.d (numbers_in l.numbers) l.name l.place.at l.depth }
