-- That a date's number fits. Assumes nothing.
use Prim.Native.Nat.{ℕ, ◌+◌, ◌-◌, ◌<◌}
use native.Mathlib.Omega.{arith}
use Rattle.meaning.specs.Calendar.{year_days, month_days}
use Rattle.almanac.specs.Days.{Real}
use Rattle.almanac.proofs.Days.{month_most, months_most, years_most}

-- a real date's number fits
pub day_fits : {y m d : ℕ} → Real y m d → year_days (y - 1990) + month_days y m + (d - 1) < 40000
day_fits {y} {m} {d} r = omega (arith, years_most (y - 1990), months_most y m, month_most y m)
