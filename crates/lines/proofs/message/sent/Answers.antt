-- `lines::message::sent`. Assumes nothing.
use mathlib.Core.Path.{◌∙◌}
use Rattle.lines.proofs.message.sent.Goals as goal

pub returns : goal.returns
returns c = (c.numbers.ensures ∙ rw c.told-told.ensures, rw c.told-told.ensures)
