-- `octets::data_order`: bit 0 of the first octet, or 0. Assumes nothing.
use native.Mathlib.Omega.{arith}
use Rattle.octets.proofs.Laws.{order_empty, order_first}
use Rattle.octets.proofs.data_order.Goals as goal

pub returns-in-empty : goal.returns-in-empty
returns-in-empty c = order_empty _ (omega (arith, c.in-empty.len_below))

pub returns-in-len1-up : goal.returns-in-len1-up
returns-in-len1-up c = order_first _ _ c.wide.ensures.0
