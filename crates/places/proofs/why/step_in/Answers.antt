-- `why::step_in`: each way through is a case of the step. Assumes nothing.
use borrow.Author.Rules.{rules}
use native.Mathlib.Omega.{arith}
use Rattle.items.proofs.ReadLaws.{range_read}
use Rattle.places.proofs.Reasons.{step_below, step_large, step_taken, step_unchosen, step_other}
use Rattle.places.proofs.why.step_in.Goals as goal

pub encloses-round-requires : goal.encloses-round-requires
encloses-round-requires c = (range_read _ _ c.read.ensures, omega (arith, c.item-at.ensures, c.requires.1))

pub value-value-requires : goal.value-value-requires
value-value-requires c = (range_read _ _ c.read.ensures, search rules)

pub returns-then-subscript_at-value : goal.returns-then-subscript_at-value
returns-then-subscript_at-value c =
    let round = rw c.item-at.ensures at c.encloses-round.ensures in
    step_below _ _ _ _ _ (omega (arith, c.requires.1, c.requires.2)) c.read.ensures round c.value-value.ensures
    (rw c.is_array.ensures at c.both.ensures) c.if-both.true c.subscript_at.ensures c.if-subscript_at-value.true

pub returns-then-both : goal.returns-then-both
returns-then-both c =
    let round = rw c.item-at.ensures at c.encloses-round.ensures in
    step_large _ _ _ _ _ (omega (arith, c.requires.1, c.requires.2)) c.read.ensures round c.value-value.ensures
    (rw c.is_array.ensures at c.both.ensures) c.if-both.true c.subscript_at.ensures c.if-subscript_at-value.false c.too_large.ensures

pub returns-then-in_branch : goal.returns-then-in_branch
returns-then-in_branch c =
    let round = rw c.item-at.ensures at c.encloses-round.ensures in
    step_taken _ _ _ _ _ (omega (arith, c.requires.1, c.requires.2)) c.read.ensures round c.value-value.ensures
    (rw c.is_array.ensures at c.both.ensures) c.if-both.false c.is_choice.ensures c.both-2.ensures c.if-both-2.true c.chosen.ensures (rw c.item-at.ensures at c.in_branch.ensures) c.if-in_branch.true

pub returns-then-both-2 : goal.returns-then-both-2
returns-then-both-2 c =
    let round = rw c.item-at.ensures at c.encloses-round.ensures in
    step_unchosen _ _ _ _ _ (omega (arith, c.requires.1, c.requires.2)) c.read.ensures round c.value-value.ensures
    (rw c.is_array.ensures at c.both.ensures) c.if-both.false c.is_choice.ensures c.both-2.ensures c.if-both-2.true c.chosen.ensures (rw c.item-at.ensures at c.in_branch.ensures) c.if-in_branch.false

pub returns : goal.returns
returns c =
    let round = rw c.item-at.ensures at c.encloses-round.ensures in
    step_other _ _ _ _ _ (omega (arith, c.requires.1, c.requires.2)) c.read.ensures round c.value-value.ensures
    (rw c.is_array.ensures at c.both.ensures) c.if-both.false c.is_choice.ensures c.both-2.ensures c.if-both-2.false
