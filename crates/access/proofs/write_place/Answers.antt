-- `access::write_place`: by what a walk tells of the table, case by case; a table found lies inside the image, so its start and the offset are counted on. Assumes nothing.
use mathlib.Core.Path.{◌≡◌, ◌∙◌}
use native.Mathlib.Omega.{arith}
use Rattle.std.proofs.lemmas.Result.{err_from_is_err_and}
use Rattle.items.proofs.ReadLaws.{fields_read}
use Rattle.access.proofs.Laws.{table_in, place_refused, place_past, place_there, part_within, counted_on}
use Rattle.access.proofs.write_place.Goals as goal

pub returns-in_err-item : goal.returns-in_err-item
returns-in_err-item c =
    let p = err_from_is_err_and c.from_residual.result c.from_residual.ensures.1 in
    rw (p.1, p.2) (place_refused _ _ _ _ _ _ _ (rw c.start-offset.ensures at c.range_in.ensures) _ c.in_err-item.was)

pub returns-then-not-fits : goal.returns-then-not-fits
returns-then-not-fits c = place_past _ _ _ _ _ _ _ (rw c.start-offset.ensures at c.range_in.ensures) _ c.in_ok-item.was _ c.fits.ensures c.if-not-fits.true

pub returns : goal.returns
returns c =
    let a = table_in _ _ _ _ _ _ _ (rw c.start-offset.ensures at c.range_in.ensures) _ c.in_ok-item.was in
    let here : c.past.result.at ≡ c.in_ok-item.field-0.item = omega (arith, c.past.ensures, c.first.ensures) in
    c.allowed.ensures ∙ place_there _ _ _ _ _ _ _ (rw c.start-offset.ensures at c.range_in.ensures) _ c.in_ok-item.was _ c.fits.ensures c.if-not-fits.false _
    (counted_on _ _ _ _ _ _ (rw c.start-offset.ensures at c.in_image.ensures) a.inside a.small (part_within _ _ _ c.fits.ensures c.if-not-fits.false)) _ (fields_read _ _ a.there (rw here at c.read.ensures))
