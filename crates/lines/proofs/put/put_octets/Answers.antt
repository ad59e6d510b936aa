-- `lines::put::put_octets`: the space, then the word. Assumes nothing.
use borrow.Author.Rules.{rules}
use Rattle.lines.proofs.PutLaws.{octets_put}
use Rattle.lines.proofs.put.put_octets.Goals as goal

pub returns : goal.returns
returns c = octets_put _ (search rules) c.put_space-to.ensures c.put_octets.ensures
