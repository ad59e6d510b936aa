-- `access::octets_place`: by where the element is, case by case. Assumes nothing.
use mathlib.Core.Path.{◌∙◌, sym}
use Rattle.std.proofs.lemmas.Result.{err_from_is_err_and}
use Rattle.meaning.specs.Refusals.{element_place_reply}
use Rattle.access.proofs.Laws.{write_refused, write_there}
use Rattle.access.proofs.Inside.{stands}
use Rattle.access.proofs.octets_place.Goals as goal

pub returns-in_err-at : goal.returns-in_err-at
unfolding element_place_reply
returns-in_err-at c =
    let p = err_from_is_err_and c.from_residual.result c.from_residual.ensures.1 in
    rw (p.1, p.2) (sym c.in_err-at.was ∙ write_refused _ _ _ _ _ _ c.element_place.ensures _ c.in_err-at.was)

pub element_to_write-requires : goal.element_to_write-requires
unfolding element_place_reply
element_to_write-requires c = (stands _ _ _ _ _ (sym c.element_place.ensures ∙ c.in_ok-at.was)).there

pub returns : goal.returns
unfolding element_place_reply
returns c =
    c.element_to_write.ensures ∙ (write_there _ _ _ _ _ _ c.element_place.ensures _ _ c.in_ok-at.was)
