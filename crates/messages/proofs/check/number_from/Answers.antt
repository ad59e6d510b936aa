-- `check::number_from`: the number of the part there. Assumes nothing.
use Rattle.messages.proofs.Checks.{number_is}
use Rattle.messages.proofs.check.number_from.Goals as goal

pub returns : goal.returns
returns c = number_is _ _ _ _ c.requires.0 c.requires.1 c.number_in.ensures
