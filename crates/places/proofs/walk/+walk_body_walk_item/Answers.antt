-- `walk::walk_body` and `walk::walk_item`: what is left of a body leads where the whole does, and an item is walked by what it comes to. Assumes nothing.
use borrow.Author.Tests.{eqb-true, eqb-false}
use Rattle.std.proofs.Common.{◌≡◌, Err, rules}
use mathlib.Core.Path.{refl, sym, ◌∙◌}
use native.Mathlib.Omega.{arith}
use Rattle.items.proofs.ReadLaws.{range_read}
use Rattle.places.proofs.Opened.{level_left}
use Rattle.places.proofs.Through.{arrives, item_ready, stops, further, goes_on}
use Rattle.places.proofs.Walking.{here, leaf_ready, leaf_walks, array_step, array_walks}
use Rattle.places.proofs.Walking.{choosing, through_ready, choice_stops, choice_walks}
use Rattle.places.proofs.walk.+walk_body_walk_item.Goals as goal

pub walk_body-walk_item-requires : goal.walk_body-walk_item-requires
walk_body-walk_item-requires t c =
    (omega arith, item_ready _ _ _ _ _ _ _ c.loop-aim.invariant (omega arith))

pub walk_body-returns-in_err-walk : goal.walk_body-returns-in_err-walk
walk_body-returns-in_err-walk t c =
    let e : c.from_residual.result ≡ Err c.in_err-walk.field-0.0 = search rules in
    rw e (stops _ _ _ _ _ _ _ c.loop-aim.invariant (omega arith) c.in_err-walk.ensures)

pub walk_body-loop-aim-smaller : goal.walk_body-loop-aim-smaller
walk_body-loop-aim-smaller t c =
    omega (arith, further _ _ _ _ _ _ _ c.loop-aim.invariant (omega arith) c.in_ok-walk.ensures)

pub walk_body-loop-aim-preserved : goal.walk_body-loop-aim-preserved
walk_body-loop-aim-preserved t c =
    goes_on _ _ _ _ _ _ _ c.loop-aim.invariant (omega arith) c.in_ok-walk.ensures

pub walk_body-returns : goal.walk_body-returns
walk_body-returns t c =
    arrives _ _ _ _ _ _ _ c.loop-aim.invariant (omega arith)

pub walk_item-value_here-value-requires : goal.walk_item-value_here-value-requires
walk_item-value_here-value-requires t c =
    (range_read _ _ c.read.ensures, c.requires.ready.slots)

pub walk_item-overflow_add-inside : goal.walk_item-overflow_add-inside
walk_item-overflow_add-inside t c =
    omega (arith, range_read _ _ c.read.ensures)

pub walk_item-overflow_sub-depth : goal.walk_item-overflow_sub-depth
walk_item-overflow_sub-depth t c =
    let h = here c.requires c.read.ensures c.value_here-value.ensures c.past-after.ensures in
    let g = choosing h c.is_choice.ensures c.if-is_choice.true c.chosen-taken.ensures c.past-from.ensures refl in
    level_left g.enters

pub walk_item-walk_body-requires : goal.walk_item-walk_body-requires
walk_item-walk_body-requires t c =
    let h = here c.requires c.read.ensures c.value_here-value.ensures c.past-after.ensures in
    let g = choosing h c.is_choice.ensures c.if-is_choice.true c.chosen-taken.ensures c.past-from.ensures refl in
    (omega (arith, level_left g.enters), through_ready g)

pub walk_item-returns-in_err-inner : goal.walk_item-returns-in_err-inner
walk_item-returns-in_err-inner t c =
    let h = here c.requires c.read.ensures c.value_here-value.ensures c.past-after.ensures in
    let g = choosing h c.is_choice.ensures c.if-is_choice.true c.chosen-taken.ensures c.past-from.ensures refl in
    let e : c.from_residual.result ≡ Err c.in_err-inner.field-0.0 = search rules in
    rw e (choice_stops g c.in_err-inner.ensures)

pub walk_item-returns-then-is_choice : goal.walk_item-returns-then-is_choice
walk_item-returns-then-is_choice t c =
    let h = here c.requires c.read.ensures c.value_here-value.ensures c.past-after.ensures in
    let g = choosing h c.is_choice.ensures c.if-is_choice.true c.chosen-taken.ensures c.past-from.ensures refl in
    choice_walks g c.in_ok-inner.ensures

pub walk_item-item_size-all-requires : goal.walk_item-item_size-all-requires
walk_item-item_size-all-requires t c =
    let h = here c.requires c.read.ensures c.value_here-value.ensures c.past-after.ensures in
    h.item.ready

pub walk_item-step-requires : goal.walk_item-step-requires
walk_item-step-requires t c =
    let h = here c.requires c.read.ensures c.value_here-value.ensures c.past-after.ensures in
    array_step h (eqb-true _ 5 (sym c.is_array.ensures ∙ c.if-is_array.true)) c.item_size-all.ensures

pub walk_item-returns-then-is_array : goal.walk_item-returns-then-is_array
walk_item-returns-then-is_array t c =
    let h = here c.requires c.read.ensures c.value_here-value.ensures c.past-after.ensures in
    array_walks h (eqb-true _ 5 (sym c.is_array.ensures ∙ c.if-is_array.true)) c.item_size-all.ensures c.step.ensures

pub walk_item-step-requires-2 : goal.walk_item-step-requires-2
walk_item-step-requires-2 t c =
    let h = here c.requires c.read.ensures c.value_here-value.ensures c.past-after.ensures in
    leaf_ready h c.is_choice.ensures c.if-is_choice.false (eqb-false _ 5 (sym c.is_array.ensures ∙ c.if-is_array.false)) c.item.ensures c.leaf_span-piece.ensures

pub walk_item-returns : goal.walk_item-returns
walk_item-returns t c =
    let h = here c.requires c.read.ensures c.value_here-value.ensures c.past-after.ensures in
    leaf_walks h c.is_choice.ensures c.if-is_choice.false (eqb-false _ 5 (sym c.is_array.ensures ∙ c.if-is_array.false)) c.item.ensures c.leaf_span-piece.ensures c.step-2.ensures
