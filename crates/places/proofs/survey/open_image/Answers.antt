-- `survey::open_image`: 1 to 7 by the check, 8 by the length, else what laying out comes to. Assumes nothing.
use mathlib.Core.Path.{◌∙◌, sym}
use Rattle.std.proofs.lemmas.Result.{err_from_is_err_and}
use Rattle.places.proofs.Surveys.{opened_refused, opened_long, opened_laid}
use Rattle.places.proofs.survey.open_image.Goals as goal

pub returns-in_err-check : goal.returns-in_err-check
returns-in_err-check c =
    let p = err_from_is_err_and c.from_residual.result c.from_residual.ensures.1 in
    rw (p.1, p.2) (opened_refused _ _ c.args.asked _ (sym c.check.ensures ∙ c.in_err-check.was))

pub returns-then-image-gt65535 : goal.returns-then-image-gt65535
returns-then-image-gt65535 c = opened_long _ _ c.args.asked (sym c.check.ensures ∙ c.in_ok-check.was) c.if-image-gt65535.true

pub survey_image-requires : goal.survey_image-requires
survey_image-requires c = record { passes = sym c.check.ensures ∙ c.in_ok-check.was; small = c.if-image-gt65535.false }

pub returns : goal.returns
returns c = opened_laid _ _ _ _ (sym c.check.ensures ∙ c.in_ok-check.was) c.if-image-gt65535.false c.survey_image.ensures
