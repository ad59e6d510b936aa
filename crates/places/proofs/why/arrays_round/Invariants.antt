-- `why::arrays_round`: those among the items before the place are counted. Assumes nothing.
use mathlib.Core.Path.{◌≡◌}
use Rattle.places.proofs.Reasons.{Counted}
use Rattle.places.proofs.why.arrays_round.Given as goal

abbrev pub invariant-loop-at : goal.invariant-loop-at
invariant-loop-at l = record { here : l.place.at ≡ l.at; counted : Counted l.d l.item l.at l.arrays }
