-- `lines::read::element`: number by number. Assumes nothing.
use borrow.Author.Rules.{rules}
use Rattle.lines.specs.Answer.{element_of}
use Rattle.lines.proofs.read.element.Goals as goal

pub returns : goal.returns
unfolding element_of
returns c = search rules
