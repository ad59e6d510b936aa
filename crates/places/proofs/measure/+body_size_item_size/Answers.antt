-- `measure::body_size` and `measure::item_size`: what is measured so far goes with what is left, and an item is measured by what it comes to. Assumes nothing.
use borrow.Author.Tests.{eqb-true, eqb-false}
use mathlib.Core.Path.{sym, ◌∙◌}
use native.Mathlib.Omega.{arith}
use Rattle.items.proofs.ReadLaws.{range_read}
use Rattle.places.proofs.Measures.{started, ended, next_ready, less, counted, stepped_on}
use Rattle.places.proofs.Opened.{opened, entered, leaf_done, level_left, body_ready, array_done, choice_done}
use Rattle.places.proofs.measure.+body_size_item_size.Goals as goal

pub body_size-loop-numbers-init : goal.body_size-loop-numbers-init
body_size-loop-numbers-init t c =
    started _ _ _ _ _ _ c.requires

pub body_size-item_size-one-requires : goal.body_size-item_size-one-requires
body_size-item_size-one-requires t c =
    (omega arith, next_ready _ _ _ _ _ _ _ _ c.loop-numbers.invariant (omega arith))

pub body_size-joined-span-requires : goal.body_size-joined-span-requires
body_size-joined-span-requires t c =
    counted _ _ _ _ _ _ _ _ c.loop-numbers.invariant (omega arith) _ c.item_size-one.ensures

pub body_size-loop-numbers-smaller : goal.body_size-loop-numbers-smaller
body_size-loop-numbers-smaller t c =
    less _ _ _ _ _ _ _ _ c.loop-numbers.invariant (omega arith) _ c.item_size-one.ensures

pub body_size-loop-numbers-preserved : goal.body_size-loop-numbers-preserved
body_size-loop-numbers-preserved t c =
    rw c.joined-span.ensures (stepped_on _ _ _ _ _ _ _ _ c.loop-numbers.invariant (omega arith) _ c.item_size-one.ensures)

pub body_size-returns : goal.body_size-returns
body_size-returns t c =
    ended _ _ _ _ _ _ _ _ c.loop-numbers.invariant (omega arith)

pub item_size-value-value-requires : goal.item_size-value-value-requires
item_size-value-value-requires t c =
    (range_read _ _ c.read.ensures, c.requires.slots)

pub item_size-overflow_add-inside : goal.item_size-overflow_add-inside
item_size-overflow_add-inside t c =
    omega (arith, range_read _ _ c.read.ensures)

pub item_size-overflow_sub-depth : goal.item_size-overflow_sub-depth
item_size-overflow_sub-depth t c =
    let o = opened c.requires c.read.ensures c.value-value.ensures c.past-after.ensures in
    let e = entered o c.nests.ensures c.if-nests.true c.inner_of-taken.ensures c.past.ensures in
    level_left e

pub item_size-body_size-body-requires : goal.item_size-body_size-body-requires
item_size-body_size-body-requires t c =
    let o = opened c.requires c.read.ensures c.value-value.ensures c.past-after.ensures in
    let e = entered o c.nests.ensures c.if-nests.true c.inner_of-taken.ensures c.past.ensures in
    (omega (arith, level_left e), body_ready e)

pub item_size-returns-then-is_array : goal.item_size-returns-then-is_array
item_size-returns-then-is_array t c =
    let o = opened c.requires c.read.ensures c.value-value.ensures c.past-after.ensures in
    let e = entered o c.nests.ensures c.if-nests.true c.inner_of-taken.ensures c.past.ensures in
    array_done e _ c.body_size-body.ensures (eqb-true _ 5 (sym c.is_array.ensures ∙ c.if-is_array.true)) c.array_span.ensures

pub item_size-returns-then-nests : goal.item_size-returns-then-nests
item_size-returns-then-nests t c =
    let o = opened c.requires c.read.ensures c.value-value.ensures c.past-after.ensures in
    let e = entered o c.nests.ensures c.if-nests.true c.inner_of-taken.ensures c.past.ensures in
    choice_done e _ c.body_size-body.ensures (eqb-false _ 5 (sym c.is_array.ensures ∙ c.if-is_array.false))

pub item_size-returns : goal.item_size-returns
item_size-returns t c =
    let o = opened c.requires c.read.ensures c.value-value.ensures c.past-after.ensures in
    leaf_done o c.nests.ensures c.if-nests.false c.item.ensures c.leaf_span.ensures
