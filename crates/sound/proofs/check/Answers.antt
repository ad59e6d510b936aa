-- `sound::check`: a bad length, every item clear, or the first that breaks a rule. Assumes nothing.
use mathlib.Core.Path.{sym, ◌∙◌}
use Rattle.std.proofs.lemmas.Result.{err_from_is_err_and}
use Rattle.meaning.proofs.Rules.{sound_length, sound_passed, sound_refused}
use Rattle.sound.proofs.Laws.{whole}
use Rattle.sound.proofs.check.Goals as goal

pub returns-then-breaks1 : goal.returns-then-breaks1
returns-then-breaks1 c = sym (sound_length _ (sym c.breaks1.ensures ∙ c.if-breaks1.true))

pub check_body-requires : goal.check_body-requires
check_body-requires c = rw c.first.ensures (whole _ (sym c.breaks1.ensures ∙ c.if-breaks1.false))

pub returns-in_err-check_body : goal.returns-in_err-check_body
returns-in_err-check_body c =
    let p = err_from_is_err_and c.from_residual.result c.from_residual.ensures.1 in
    let b = c.in_err-check_body.ensures in
    rw (p.1, p.2, b.is) (sym (sound_refused _ _ _ (sym c.breaks1.ensures ∙ c.if-breaks1.false) b.fine b.breaks b.there b.some))

pub returns : goal.returns
returns c = sym (sound_passed _ (sym c.breaks1.ensures ∙ c.if-breaks1.false) c.in_ok-check_body.ensures.fine)
