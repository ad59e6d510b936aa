-- DAYS AND WEEKDAYS: what a real date is, the day after it, and what day numbers and weekdays then say of the calendar. Assumes nothing.
-- Wrong answers ruled out: 29 February 2023 counted as a day, where 1 March has the number after 28 February's; a week that starts anew each year.
use Rattle.std.specs.Prelude.{ℕ, ◌+◌, ◌*◌, ◌/◌, ◌%◌, ◌<◌, ◌≤◌, ◌≡◌, ◌⊎◌, true, if◌then◌else◌}
use Rattle.meaning.specs.Basics.{◌<?◌}
use Rattle.meaning.specs.declared.Date.{Date}
use Rattle.meaning.specs.Calendar.{month_length, real_date, year_days, day_number, weekday_of}

-- what makes a date real
pub record Real (year month day : ℕ) : Type 0 where
  pub from : 1990 ≤ year
  pub to : year ≤ 2089
  pub first_month : 1 ≤ month
  pub last_month : month ≤ 12
  pub first : 1 ≤ day
  pub last : day ≤ month_length year month

abbrev pub IsReal : Date → Type 0
IsReal t = real_date t.year t.month t.day ≡ true

abbrev pub number_of : Date → ℕ
number_of t = day_number t.year t.month t.day

-- the day after: in the month, in the next month, in the next year
unfoldable pub next : Date → Date
next t =
    if t.day <? month_length t.year t.month then record { year = t.year; month = t.month; day = t.day + 1 }
    else if t.month <? 12 then record { year = t.year; month = t.month + 1; day = 1 }
    else record { year = t.year + 1; month = 1; day = 1 }

abbrev pub last_date : Date
last_date = record { year = 2089; month = 12; day = 31 }

-- the next day is real, has the next number, and the next weekday
pub record NextDay (t : Date) : Type 0 where
  pub real : IsReal (next t)
  pub number : number_of (next t) ≡ number_of t + 1
  pub weekday : weekday_of (number_of (next t)) ≡ (weekday_of (number_of t) + 1) % 7

abbrev pub Before : (earlier later : Date) → Type 0
Before s t = (s.year < t.year) ⊎ ((s.year ≡ t.year) × ((s.month < t.month) ⊎ ((s.month ≡ t.month) × (s.day < t.day))))

-- the date with that number
pub record Numbered (n : ℕ) : Type 0 where
  pub date : Date
  pub real : IsReal date
  pub number : number_of date ≡ n

-- 2100 TAKEN FOR A LEAP YEAR: days of years counted as if every fourth year were one. Up to the end of 2099 the count is right, so in a date of 1990 to 2089 nobody can tell; the year
-- after it is wrong
unfoldable pub every_fourth : (years : ℕ) → ℕ
every_fourth n = 365 * n + (n + 1) / 4

pub record EveryFourth : Type 0 where
  pub inside : (n : ℕ) → n ≤ 110 → every_fourth n ≡ year_days n
  pub outside : every_fourth 111 ≡ year_days 111 + 1

-- ALL OF IT. 1 January 2000 was a Saturday, and every day's weekday follows the day's before it. Day numbers keep the order of dates, no two dates share one, and
-- each of the 36,525 is a date's
pub record Days : Type 0 where
  pub saturday : weekday_of (day_number 2000 1 1) ≡ 6
  pub next : (t : Date) → IsReal t → (t ≡ last_date → ⊥) → NextDay t
  pub order : (s t : Date) → IsReal s → IsReal t → Before s t → number_of s < number_of t
  pub one : (s t : Date) → IsReal s → IsReal t → number_of s ≡ number_of t → s ≡ t
  pub below : (t : Date) → IsReal t → number_of t < 36525
  pub each : (n : ℕ) → n < 36525 → Numbered n
