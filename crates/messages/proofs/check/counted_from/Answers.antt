-- `check::counted_from`: the count, the length and the check octet, one after another. Assumes nothing.
use Rattle.std.proofs.Common.{arith}
use Rattle.messages.proofs.Checks.{other_count_lem, other_check, all_stands}
use Rattle.messages.proofs.check.counted_from.Goals as goal

pub returns-then-message-at : goal.returns-then-message-at
returns-then-message-at c = other_count_lem _ _ (λ e. omega arith)

pub returns-then-message-end : goal.returns-then-message-end
returns-then-message-end c = other_count_lem _ _ (λ e. omega (arith, c.if-message-end.true (omega arith)))

pub returns-then-message-end-2 : goal.returns-then-message-end-2
returns-then-message-end-2 c = other_check _ _ _ _ c.number_from-count.ensures.0 c.check_octet.ensures c.if-message-end-2.true

pub returns : goal.returns
returns c =
    all_stands _ _ _ _ c.number_from-count.ensures.0 c.check_octet.ensures c.number_from-count.ensures.1 c.if-message-end.false c.if-message-end-2.false
