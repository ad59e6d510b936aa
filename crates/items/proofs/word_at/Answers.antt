-- `items::word_at`: the four octets, weighed, are the word. Assumes nothing.
use native.Mathlib.Omega.{arith}
use Rattle.items.proofs.Laws.{word_is}
use Rattle.items.proofs.word_at.Goals as goal

pub returns : goal.returns
returns c = omega (arith, word_is c.args.description.now c.args.item c.requires)
