-- `survey::survey_image`: the tables before the next one are laid, and with those left come to the whole image (Surveyed); the items left are the loop's measure.
-- Assumes nothing.
use Prim.Native.Nat.{◌-◌}
use Rattle.places.specs.Surveying.{Surveyed}
use Rattle.places.proofs.survey.survey_image.Given as goal

abbrev pub invariant-loop-asked : goal.invariant-loop-asked
invariant-loop-asked l = Surveyed l.d l.image l.asked l.s

abbrev pub decreases-loop-asked : goal.decreases-loop-asked
decreases-loop-asked l = l.items - l.s.next.at
