-- `octets::put_octets`: the part of the image is wholly replaced, or nothing is. Assumes nothing.
use native.Mathlib.Omega.{arith}
use mathlib.Core.Path.{refl, sym, ◌∙◌}
use lib.ListN.{length}
use Rattle.octets.proofs.Laws.{put_inside, put_outside, inside_true, copied}
use Rattle.octets.proofs.put_octets.Goals as goal

pub overflow_add-end : goal.overflow_add-end
overflow_add-end c =
    let h = inside_true c.args.image.now _ (length c.args.new.now) _ c.ends_within.ensures c.if-ends_within.true in omega (arith, h)

pub slice_bounds-copy-end : goal.slice_bounds-copy-end
slice_bounds-copy-end c =
    let h = inside_true c.args.image.now _ (length c.args.new.now) _ c.ends_within.ensures c.if-ends_within.true in omega (arith, h)

pub returns-then-ends_within : goal.returns-then-ends_within
returns-then-ends_within c =
    let h = inside_true c.args.image.now _ (length c.args.new.now) _ c.ends_within.ensures c.if-ends_within.true in
    let e = copied c.args.image.now _ _ c.args.new.now _ refl h c.copy.ensures in
    rw (e, ← c.octet-at.ensures) (put_inside c.args.image.now _ _ c.args.new.now refl h)

pub returns-else-ends_within : goal.returns-else-ends_within
returns-else-ends_within c =
    put_outside c.args.image.now c.args.start.0 c.args.new.now (rw (← c.octet-at.ensures) (sym c.ends_within.ensures ∙ c.if-ends_within.false))
