-- `dates::month_days`: the table's days, and a leap year's one more from March on. Assumes nothing.
use mathlib.Core.Path.{sym, ◌∙◌}
use mathlib.Core.Bool.{true, false}
use native.Mathlib.Omega.{arith}
use Rattle.almanac.proofs.Days.{months_most, months_at_once}
use Rattle.dates.proofs.month_days.Goals as goal

pub overflow_add-result : goal.overflow_add-result
overflow_add-result c =
    let days = months_at_once c.args.year c.args.month true c.requires (sym c.past_leap_day.ensures ∙ c.if-past_leap_day.true) in
    omega (arith, days, months_most c.args.year c.args.month)

pub returns-then-past_leap_day : goal.returns-then-past_leap_day
returns-then-past_leap_day c = months_at_once c.args.year c.args.month true c.requires (sym c.past_leap_day.ensures ∙ c.if-past_leap_day.true)

pub returns : goal.returns
returns c =
    let days = months_at_once c.args.year c.args.month false c.requires (sym c.past_leap_day.ensures ∙ c.if-past_leap_day.false) in
    omega (arith, days)
