-- `survey::survey_image`: the tables before the next one are laid, and with those left come to the whole image (Surveyed); the items left are the loop's measure.
-- Assumes nothing.
use native.Mathlib.Omega.{arith}
use Rattle.places.proofs.Surveys.{set_out, laid_all}
use Rattle.places.proofs.survey.survey_image.Goals as goal

pub loop-asked-init : goal.loop-asked-init
loop-asked-init c =
    set_out _ _ _ _ _ c.first-start.ensures c.first.ensures c.requires.passes

pub returns : goal.returns
returns c =
    laid_all _ _ _ _ c.loop-asked.invariant (omega (arith, c.loop-asked-test.false, c.item.ensures)) _
    (omega (arith, c.octet.ensures, c.in_image-end.ensures, c.new.ensures, c.loop-asked.invariant.inside, c.requires.small))
