-- `lines::put::put_octets_if`: nothing where the reply has no such word. Assumes nothing.
use borrow.Author.Rules.{rules}
use Rattle.lines.proofs.PutLaws.{hex_there, hex_none}
use Rattle.lines.proofs.put.put_octets_if.Goals as goal

pub returns-then-not-there : goal.returns-then-not-there
returns-then-not-there c = hex_none _ _ _ (search rules) (c.if-not-there.true)

pub returns : goal.returns
returns c = hex_there _ _ (c.if-not-there.false) c.put_octets.ensures
