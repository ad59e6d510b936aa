-- `access::range_place`: by what a walk tells of the table, case by case. Assumes nothing.
use mathlib.Core.Path.{sym, ◌∙◌}
use borrow.Author.Tests.{leb-true}
use Rattle.std.proofs.lemmas.Result.{err_from_is_err_and}
use Rattle.access.proofs.Laws.{table_in, read_refused, read_past, read_there, counted_on}
use Rattle.access.proofs.range_place.Goals as goal

pub returns-in_err-start : goal.returns-in_err-start
returns-in_err-start c =
    let p = err_from_is_err_and c.from_residual.result c.from_residual.ensures.1 in
    rw (p.1, p.2) (read_refused _ _ _ _ _ _ _ c.range_in.ensures _ c.in_err-start.was)

pub returns-then-not-ends_within : goal.returns-then-not-ends_within
returns-then-not-ends_within c =
    read_past _ _ _ _ _ _ _ c.range_in.ensures _ c.in_ok-start.was _ (c.ends_within.ensures ∙ rw c.octets.ensures) c.if-not-ends_within.true

pub returns : goal.returns
returns c =
    let a = table_in _ _ _ _ _ _ _ c.range_in.ensures _ c.in_ok-start.was in
    let w = rw c.octets.ensures at c.ends_within.ensures in
    read_there _ _ _ _ _ _ _ c.range_in.ensures _ c.in_ok-start.was _ w c.if-not-ends_within.false _
    (counted_on _ _ _ _ _ _ c.in_image.ensures a.inside a.small (leb-true _ _ (sym w ∙ c.if-not-ends_within.false)))
