-- `octets::put_number`: the part of the image is filled with the number, or nothing is. Assumes nothing.
use native.Mathlib.Omega.{arith}
use mathlib.Core.Path.{sym, ◌∙◌}
use Rattle.octets.proofs.Laws.{inside_true, number_inside, number_outside}
use Rattle.octets.proofs.put_number.Goals as goal

pub overflow_add-end : goal.overflow_add-end
overflow_add-end c =
    let h = inside_true c.args.image.now _ c.args.octets _ c.ends_within.ensures c.if-ends_within.true in omega (arith, h)

pub slice_bounds-fill-end : goal.slice_bounds-fill-end
slice_bounds-fill-end c =
    let h = inside_true c.args.image.now _ c.args.octets _ c.ends_within.ensures c.if-ends_within.true in omega (arith, h)

pub returns-then-ends_within : goal.returns-then-ends_within
returns-then-ends_within c =
    let h = inside_true c.args.image.now _ c.args.octets _ c.ends_within.ensures c.if-ends_within.true in
    rw (← c.octet-at.ensures) (number_inside c.args.image.now _ c.args.octets _ c.args.value _ h c.data_order-order.ensures c.fill.ensures)

pub returns-else-ends_within : goal.returns-else-ends_within
returns-else-ends_within c =
    number_outside c.args.image.now c.args.start.0 c.args.octets c.args.value (rw (← c.octet-at.ensures) (sym c.ends_within.ensures ∙ c.if-ends_within.false))
