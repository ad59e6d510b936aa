-- `dates::day_of`: the sum is made of a real date only, whose parts fit. Assumes nothing.
use mathlib.Core.Path.{sym, ◌∙◌}
use native.Mathlib.Omega.{arith}
use Rattle.almanac.proofs.Days.{real}
use Rattle.dates.proofs.Laws.{day_fits}
use Rattle.dates.proofs.day_of.Goals as goal

pub overflow_add-result : goal.overflow_add-result
overflow_add-result c = let f = day_fits (real _ _ _ (sym c.is_real.ensures ∙ c.if-is_real.true)) in omega arith
