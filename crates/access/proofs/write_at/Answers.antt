-- `access::write_at`: the data fit where they go, so they are put there whole. Assumes nothing.
use mathlib.Core.Path.{subst}
use lib.ListN.{length}
use Rattle.std.proofs.lemmas.Result.{err_from_is_err_and}
use Rattle.access.specs.Access.{FitsAt}
use Rattle.access.proofs.Laws.{kept_refused, put_there}
use Rattle.access.proofs.write_at.Goals as goal

pub returns-in_err-at : goal.returns-in_err-at
returns-in_err-at c =
    let p = err_from_is_err_and c.from_residual.result c.from_residual.ensures.1 in
    let both = kept_refused _ _ _ _ c.in_err-at.was in record { reply = rw (p.1, p.2) both.0; image = both.1 }

pub returns : goal.returns
returns c =
    let both = put_there _ _ _ _ _ _ c.in_ok-at.was (subst (FitsAt c.args.image.now (length c.args.new.now)) c.in_ok-at.was c.requires) c.put_octets.ensures in record { reply = both.0; image = both.1 }
