-- `dates::month_length`: the table's days, and February's one more in a leap year. Assumes nothing.
use mathlib.Core.Path.{◌≡◌, sym, ◌∙◌}
use mathlib.Core.Bool.{true, false}
use native.Mathlib.Omega.{arith}
use Rattle.std.proofs.Common.{rules}
use lib.ListN.{get_or}
use Rattle.almanac.proofs.Days.{months, month_at_once}
use Rattle.dates.proofs.month_length.Goals as goal

pub returns-then-both : goal.returns-then-both
returns-then-both c =
    let days : c.unwrap_or-days.result ≡ get_or (months 28) c.args.month 0 = c.unwrap_or-days.ensures ∙ rw c.copied.ensures (search rules) in
    let own = month_at_once c.args.year c.args.month true (rw (← c.is_leap.ensures) (sym c.both.ensures ∙ c.if-both.true)) in
    omega (arith, days, own)

pub returns : goal.returns
returns c =
    let days : c.unwrap_or-days.result ≡ get_or (months 28) c.args.month 0 = search rules in
    let own = month_at_once c.args.year c.args.month false (rw (← c.is_leap.ensures) (sym c.both.ensures ∙ c.if-both.false)) in
    omega (arith, days, own)
