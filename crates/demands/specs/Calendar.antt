-- THE CALENDAR over the octets of tables 51 and 54, in the words of document 01's section of that name and of document 02's E1: which record chooses what, up to the tier, whether a season
-- record stands, and the matrix cell by cell. And the weekday of a date, document 02's E3, which needs no table.
-- What a table's octets say is read by `controls_of`, `dates_of` and `switches_of` (crate meaning, specs/Calendar), which record is chosen is said by crate almanac. proofs/Calendar.antt proves
-- the statements of our replies, for every description and image. Assumes nothing.
use Rattle.std.specs.Prelude.{ℕ, ◌+◌, ◌*◌, ◌%◌, ◌<◌, ◌≡◌, true, false, List, get_or, Ok}
use Rattle.meaning.specs.declared.Controls.{Controls}
use Rattle.meaning.specs.declared.Date.{Date}
use Rattle.meaning.specs.declared.Moment.{Moment}
use Rattle.meaning.specs.declared.Quantity.{Quantity}
use Rattle.meaning.specs.declared.Triple.{Triple}
use Rattle.meaning.specs.Calendar.{real_date, real_time, day_number, weekday_of, controls_of, matrix_at, day_columns, row_width, dates_of, switches_of, day_column}
use Rattle.meaning.specs.Passed.{Exactly}
use Rattle.almanac.specs.Days.{IsReal, number_of, next}
use Rattle.almanac.specs.Latest.{◌among◌}
use Rattle.almanac.specs.Choices.{SeasonChosen, SeasonStands, SelectsSpecial, SpecialChosen, Switches, SwitchChosen}
use Rattle.almanac.specs.Matrix.{Fifteen, Shown}
use Rattle.meaning.specs.Values.{Verdict, Reply, passed}
use Rattle.meaning.specs.declared.Answer.{Answer}

-- THE SCHEDULE ON A DAY, by what Table 51 says (c), the octets of Table 54 (t) and its dates
-- the column: that of the special schedule of the day, which has one; else that of the weekday
pub record ColumnOn (c : Controls) (day : ℕ) (dates : List Triple) (column : ℕ) : Type 0 where
  pub special : (w k : ℕ) → SpecialChosen day dates w k → (k < c.specials) × (column ≡ day_columns c + k)
  pub weekday : ((r : Triple) → r among dates → SelectsSpecial day r → ⊥) → column ≡ day_column c (weekday_of day)

-- the season: that of the record chosen by that day; season 0 where no season record stands at or before it
pub record SeasonOn (day : ℕ) (dates : List Triple) (season : ℕ) : Type 0 where
  pub chosen : (w s : ℕ) → SeasonChosen day dates w s → season ≡ s
  pub before : (SeasonStands day dates → ⊥) → season ≡ 0

-- the schedule number is the matrix entry: in the row of the season, which has one, and that column
pub record ScheduleOn (c : Controls) (t : List ℕ) (day : ℕ) (dates : List Triple) (n : ℕ) : Type 0 where
  pub season : ℕ
  pub in_season : SeasonOn day dates season
  pub row : season < c.seasons
  pub column : ℕ
  pub is : ColumnOn c day dates column
  pub entry : get_or t (matrix_at c + season * row_width c + column) 0 ≡ n

-- THE TIER, where a calendar can be had: a real date and time, and SEASON_CHNG_ARMED_FLAG isn't set
pub record Answerable (c : Controls) (had : Verdict) (w : Moment) : Type 0 where
  pub calendar : had ≡ passed
  pub date : real_date w.year w.month w.day ≡ true
  pub time : real_time w.hour w.minute ≡ true
  pub unarmed : c.armed ≡ false

module _ (o : ℕ) (c : Controls) (t : List ℕ) (had : Verdict) (w : Moment) (q : Quantity) where
  -- the schedule that holds at that date
  pub record Scheduled : Type 0 where
    pub answerable : Answerable c had w
    pub schedule : ℕ
    pub on : ScheduleOn c t (day_number w.year w.month w.day) (dates_of o c t) schedule

  -- tier x is that of the latest switch of that schedule at or before the time
  pub record TierIs (x : ℕ) : Type 0 where
    pub scheduled : Scheduled
    pub time : ℕ
    pub switch : SwitchChosen c.separate q scheduled.schedule (60 * w.hour + w.minute) (switches_of o c t) time x

  -- no such switch: none yet today
  pub record NoneYetToday : Type 0 where
    pub scheduled : Scheduled
    pub none : (r : Triple) → r among switches_of o c t → Switches c.separate q scheduled.schedule (60 * w.hour + w.minute) r → ⊥

  pub record TierAnswers (reply : Reply) : Type 0 where
    pub tier : (x : ℕ) → Exactly (reply ≡ Ok (Answer.Tier x)) (TierIs x)
    pub none : Exactly (reply ≡ Ok Answer.NoneYet) NoneYetToday

-- by the octets of the two tables, in that DATA_ORDER; `had` is the reply to whether the matrix can be had
abbrev pub TierSays : (order : ℕ) → (table51 table54 : List ℕ) → (had : Verdict) → Moment → Quantity → Reply → Type 0
TierSays o a b had w q reply = TierAnswers o (controls_of o a) b had w q reply

-- DOES A SEASON RECORD STAND at or before a date, where a calendar can be had and the date is real: yes exactly where one does, no exactly where none does. A season change that is armed
-- has no part in it, nor whether the season has a row
pub record Dated (had : Verdict) (t : Date) : Type 0 where
  pub calendar : had ≡ passed
  pub date : IsReal t

module _ (o : ℕ) (c : Controls) (b : List ℕ) (had : Verdict) (t : Date) where
  abbrev Stands : Type 0
  Stands = SeasonStands (number_of t) (dates_of o c b)

  pub record SeasonedAnswers (reply : Reply) : Type 0 where
    pub yes : Exactly (reply ≡ Ok Answer.Yes) (Dated had t × Stands)
    pub no : Exactly (reply ≡ Ok Answer.No) (Dated had t × (Stands → ⊥))

abbrev pub SeasonedSays : (order : ℕ) → (table51 table54 : List ℕ) → (had : Verdict) → Date → Reply → Type 0
SeasonedSays o a b had t reply = SeasonedAnswers o (controls_of o a) b had t reply

-- THE MATRIX, over the same octets: fifteen rows of twenty-two, each cell Table 54's own, unused ones 0. Cells lent to be written hold it afterwards. On refusal see
-- specs/Demand1
pub record MatrixSays (o : ℕ) (table51 table54 : List ℕ) (had : Verdict) (matrix : List (List ℕ)) (lentAfter : List (List ℕ) → List (List ℕ)) : Type 0 where
  pub fifteen : Fifteen matrix
  pub shown : had ≡ passed → Shown (controls_of o table51) table54 matrix
  pub written : had ≡ passed → (lent : List (List ℕ)) → lentAfter lent ≡ matrix

-- THE WEEKDAY OF A DATE, 0 for Sunday to 6 for Saturday, said from each day to the next and not by a count: one day's weekday is known, and every other real date is reached from it. Which
-- dates are real and which comes after which is said by crate almanac, that any other date gets 16 by specs/Demand1
-- one of the seven
pub record OneOfSeven (reply : Reply) : Type 0 where
  pub day : ℕ
  pub below : day < 7
  pub is : reply ≡ Ok (Answer.Weekday day)

pub record WeekdaysSay (weekday : Date → Reply) : Type 0 where
  pub each : (t : Date) → IsReal t → OneOfSeven (weekday t)
  -- 1 January 2000 was a Saturday
  pub saturday : weekday (record { year = 2000; month = 1; day = 1 }) ≡ Ok (Answer.Weekday 6)
  -- the day after has the weekday after, and after Saturday comes Sunday
  pub next : (t : Date) → IsReal t → IsReal (next t) → (w : ℕ) → weekday t ≡ Ok (Answer.Weekday w) → weekday (next t) ≡ Ok (Answer.Weekday ((w + 1) % 7))
