-- `lines::reply::reply`: no form, a question about tables, a message, or a date. Assumes nothing.
use mathlib.Core.Path.{ap, ◌∙◌}
use native.Mathlib.Omega.{arith}
use Rattle.lines.specs.Kinds.{kind_place}
use Rattle.lines.proofs.AskLaws.{weekday_text}
use Rattle.lines.proofs.AnswerLaws.{put_as, taken_text, not_taken}
use Rattle.lines.proofs.reply.reply.Goals as goal

pub returns-then-not-takes : goal.returns-then-not-takes
returns-then-not-takes c = put_as _ c.no_form.ensures (not_taken _ _ _ _ _ c.takes.ensures (c.if-not-takes.true))

pub reply_tables-requires-clause-within : goal.reply_tables-requires-clause-within
reply_tables-requires-clause-within c = rw c.in-Tables.is at c.requires.within

pub returns-in-Tables : goal.returns-in-Tables
returns-in-Tables c = put_as _ c.reply_tables.ensures (rw c.in-Tables.is (taken_text _ _ _ _ _ (rw c.in-Tables.is at c.takes.ensures) (c.if-not-takes.false)))

pub reply_message-requires-clause-within : goal.reply_message-requires-clause-within
reply_message-requires-clause-within c = rw c.in-Messages.is at c.requires.within

pub returns-in-Messages : goal.returns-in-Messages
returns-in-Messages c = put_as _ c.reply_message.ensures (rw c.in-Messages.is (taken_text _ _ _ _ _ (rw c.in-Messages.is at c.takes.ensures) (c.if-not-takes.false)))

pub reply_weekday-requires : goal.reply_weekday-requires
reply_weekday-requires c = record { within = rw c.in-Weekday.is at c.requires.within; room_for_in_bounds = omega (arith, c.requires.m_in_bounds) }

pub returns-in-Weekday : goal.returns-in-Weekday
returns-in-Weekday c =
    put_as _ c.reply_weekday.ensures
    (weekday_text _ _ _ _ (ap kind_place c.in-Weekday.is) ∙ taken_text _ _ _ _ _ c.takes.ensures (c.if-not-takes.false))
