-- `lines::put::no_form`: `?` and the line feed. Assumes nothing.
use borrow.Author.Rules.{rules}
use Rattle.lines.proofs.PutLaws.{no_form_put}
use Rattle.lines.proofs.put.no_form.Goals as goal

pub returns : goal.returns
returns c = no_form_put (search rules) c.put_text.ensures
