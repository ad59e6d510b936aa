-- `lines::reply::reply_weekday`: the two numbers, and the line feed. Assumes nothing.
use mathlib.Core.Path.{refl, ◌∙◌}
use Rattle.lines.specs.Answer.{date_limits, table_rows, message_rows, date_rows, rows, row_at, form_of, limits}
use Rattle.lines.proofs.AskLaws.{fits_all, weekday_put}
use Rattle.lines.proofs.reply.reply_weekday.Goals as goal

pub date-requires : goal.date-requires
unfolding table_rows message_rows date_rows rows row_at form_of limits
date-requires c = fits_all 19 date_limits refl c.requires.within refl

pub returns : goal.returns
returns c =
    weekday_put _ (c.told-told.ensures ∙ rw (c.weekday_of.ensures, c.date.ensures)) c.requires.room_for_in_bounds c.put_numbers-last.ensures c.put_octet.ensures
