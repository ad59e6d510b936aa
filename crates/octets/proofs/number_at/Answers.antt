-- `octets::number_at`: the number of that part where it lies inside the image, 0 elsewhere. Assumes nothing.
use native.Mathlib.Omega.{arith}
use mathlib.Core.Path.{refl, sym, ◌∙◌}
use Rattle.octets.proofs.Laws.{inside_true, read_none, read_part}
use Rattle.octets.proofs.number_at.Goals as goal

pub overflow_add-end : goal.overflow_add-end
overflow_add-end c =
    let h = inside_true c.args.image.now _ c.args.octets _ c.ends_within.ensures c.if-ends_within.true in omega (arith, h)

pub slice_bounds-number_in-end : goal.slice_bounds-number_in-end
slice_bounds-number_in-end c =
    let h = inside_true c.args.image.now _ c.args.octets _ c.ends_within.ensures c.if-ends_within.true in omega (arith, h)

pub returns-then-ends_within : goal.returns-then-ends_within
returns-then-ends_within c =
    let h = inside_true c.args.image.now _ c.args.octets _ c.ends_within.ensures c.if-ends_within.true in
    rw (← c.octet-at.ensures) (read_part c.args.image.now _ c.args.octets _ _ _ refl h c.data_order.ensures c.number_in.ensures)

pub returns : goal.returns
returns c =
    read_none c.args.image.now c.args.start.0 c.args.octets (rw (← c.octet-at.ensures) (sym c.ends_within.ensures ∙ c.if-ends_within.false))
