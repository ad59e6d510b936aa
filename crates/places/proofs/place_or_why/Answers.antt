-- `places::place_or_why`: refused by 1 to 9, the place that the row and the subscripts give, or why there is none. Assumes nothing.
use Rattle.std.proofs.Common.{rules}
use mathlib.Core.Path.{refl}
use Rattle.std.proofs.lemmas.Result.{err_from_is_err_and}
use Rattle.places.proofs.Replies.{element_refused, element_answered}
use Rattle.places.proofs.place_or_why.Goals as goal

pub returns-in_err-numbers : goal.returns-in_err-numbers
returns-in_err-numbers c =
    let p = err_from_is_err_and c.from_residual.result c.from_residual.ensures.1 in
    rw (p.1, p.2) (element_refused _ _ _ c.in_err-numbers.ensures _ _)

pub returns : goal.returns
returns c =
    element_answered _ _ _ _ c.in_ok-numbers.ensures _ _ refl c.suits.ensures c.found_by.ensures _ (λ y h. search rules) c.ok_or_else.ensures.cases
