-- `access::write_number`: an accepted number's octets fit where they go. Assumes nothing.
use mathlib.Core.Path.{subst}
use Rattle.std.proofs.lemmas.Result.{err_from_is_err_and}
use Rattle.meaning.specs.Refusals.{write_number_reply, write_number_image}
use Rattle.access.specs.Access.{Inside}
use Rattle.access.proofs.Laws.{number_kept, number_there}
use Rattle.access.proofs.Inside.{number_fits}
use Rattle.access.proofs.write_number.Goals as goal

pub returns-in_err-at : goal.returns-in_err-at
unfolding write_number_image write_number_reply
returns-in_err-at c =
    let p = err_from_is_err_and c.from_residual.result c.from_residual.ensures.1 in
    let both = number_kept _ _ _ _ c.in_err-at.was in record { reply = rw (p.1, p.2, ← c.number_place.ensures) both.0; image = rw (← c.number_place.ensures) both.1 }

pub returns : goal.returns
unfolding write_number_image write_number_reply
returns c =
    let both = number_there _ _ _ _ _ _ c.in_ok-at.was (subst (Inside _) c.in_ok-at.was (number_fits _ _ _ _ _ c.number_place.ensures)) c.put_number.ensures in record { reply = rw (← c.number_place.ensures) both.0; image = rw (← c.number_place.ensures) both.1 }
