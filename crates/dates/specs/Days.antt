-- What a date comes to. Assumes nothing.
use Rattle.std.specs.Prelude.{ℕ, Option, Some, None, if◌then◌else◌}
use Rattle.meaning.specs.Calendar.{real_date, day_number}

-- the day's number, where the date is real
unfoldable pub day_of : (year month day : ℕ) → Option ℕ
day_of y m d = if real_date y m d then Some (day_number y m d) else None
