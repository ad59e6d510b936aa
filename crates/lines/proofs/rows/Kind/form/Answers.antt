-- `lines::rows::Kind::form`: that of the kind within, and the last row's. Assumes nothing.
use mathlib.Core.Path.{◌∙◌}
use Rattle.lines.specs.Answer.{table_rows, message_rows, date_rows, rows, row_at, form_of}
use Rattle.lines.proofs.rows.Kind.form.Goals as goal

pub returns-in-Weekday : goal.returns-in-Weekday
unfolding table_rows message_rows date_rows rows row_at form_of
returns-in-Weekday c = c.columns.ensures ∙ rw c.in-Weekday.is
