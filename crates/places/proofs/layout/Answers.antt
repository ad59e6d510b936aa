-- `places::layout`: the answer's total is the reply. Assumes nothing.
use Rattle.std.proofs.lemmas.Result.{err_from_is_err_and}
use Rattle.places.proofs.Replies.{layout_refused, layout_told}
use Rattle.places.proofs.layout.Goals as goal

pub returns-in_err-answer : goal.returns-in_err-answer
returns-in_err-answer c =
    let p = err_from_is_err_and c.from_residual.result c.from_residual.ensures.1 in
    rw (p.1, p.2) (layout_refused _ _ _ c.in_err-answer.ensures)

pub returns : goal.returns
returns c = layout_told _ _ _ _ c.in_ok-answer.ensures
