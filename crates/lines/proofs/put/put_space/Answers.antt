-- `lines::put::put_space`: nothing at the start, else a space. Assumes nothing.
use borrow.Author.Rules.{rules}
use Rattle.lines.proofs.PutLaws.{no_space, a_space}
use Rattle.lines.proofs.put.put_space.Goals as goal

pub returns-then-at-eq0 : goal.returns-then-at-eq0
returns-then-at-eq0 c = no_space _ _ (search rules) c.if-at-eq0.true

pub returns : goal.returns
returns c = a_space _ c.if-at-eq0.false c.put_octet.ensures
