-- `lines::put::put_number`: the space, then the word. Assumes nothing.
use borrow.Author.Rules.{rules}
use Rattle.lines.proofs.PutLaws.{number_put}
use Rattle.lines.proofs.put.put_number.Goals as goal

pub returns : goal.returns
returns c = number_put _ (search rules) c.put_space-to.ensures c.put_number.ensures
