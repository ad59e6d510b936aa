-- `why::why_none`: the causes one after another. Assumes nothing.
use mathlib.Core.Path.{◌∙◌}
use Rattle.places.proofs.Reasons.{not_one, not_number, not_right, by_round}
use Rattle.places.proofs.why.why_none.Goals as goal

pub returns-then-not-is_one : goal.returns-then-not-is_one
returns-then-not-is_one c = not_one _ _ _ _ c.is_one.ensures (c.if-not-is_one.true)

pub returns-then-not-suits : goal.returns-then-not-suits
returns-then-not-suits c =
    not_number _ _ _ _ c.is_one.ensures (c.if-not-is_one.false) c.suits.ensures (c.if-not-suits.true)

pub returns-then-not-is_counted : goal.returns-then-not-is_counted
returns-then-not-is_counted c =
    let right = c.is_counted.ensures ∙ rw c.arrays_round.ensures in
    not_right _ _ _ _ c.is_one.ensures (c.if-not-is_one.false) c.suits.ensures (c.if-not-suits.false) right (c.if-not-is_counted.true)

pub returns-in-Err : goal.returns-in-Err
returns-in-Err c =
    let right = c.is_counted.ensures ∙ rw c.arrays_round.ensures in
    by_round _ _ _ _ c.is_one.ensures (c.if-not-is_one.false) c.suits.ensures (c.if-not-suits.false) right (c.if-not-is_counted.false) c.in-Err.ensures

pub returns-in-Ok : goal.returns-in-Ok
returns-in-Ok c =
    let right = c.is_counted.ensures ∙ rw c.arrays_round.ensures in
    by_round _ _ _ _ c.is_one.ensures (c.if-not-is_one.false) c.suits.ensures (c.if-not-suits.false) right (c.if-not-is_counted.false) c.in-Ok.ensures
