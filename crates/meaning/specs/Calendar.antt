-- THE CALENDAR: the section of that name in document 01, and E1 of document 02. Dates and weekdays; tables 51 and 54; season, special schedule, schedule and tier; the matrix.
-- A table is here the list of its octets, however the description divides it. Assumes nothing.
use Rattle.std.specs.Prelude.{ℕ, zero, suc, ◌+◌, ◌-◌, ◌*◌, ◌%◌, Bool, false, not, ◌&&◌, ◌||◌, List, [], ◌∷◌, length, get_or, if◌then◌else◌, Ok, Err, Some, None}
use Rattle.std.proofs.Math.Option.{Option, some, none}
use Rattle.meaning.specs.Basics.{◌=?◌, ◌<?◌, ◌≤?◌, bits, flag, part, number_in, build}
use Rattle.meaning.specs.declared.Controls.{Controls}
use Rattle.meaning.specs.declared.Date.{Date}
use Rattle.meaning.specs.declared.Moment.{Moment}
use Rattle.meaning.specs.declared.Quantity.{Quantity}
use Rattle.meaning.specs.declared.Refusal.{Refusal}
use Rattle.meaning.specs.declared.Triple.{Triple}
use Rattle.meaning.specs.Layout.{Seat, data_order, table_named}
use Rattle.meaning.specs.Refusals.{Opened, opened, refused, open_image}
use Rattle.meaning.specs.Numbers.{no_table, not_a_date, season_change_armed, no_row_or_column, not_a_calendar}
use Rattle.meaning.specs.Values.{Verdict, Reply, Chosen, passed, entry}
use Rattle.meaning.specs.declared.Answer.{Answer}

-- DATES
-- Gregorian: every fourth year, but of the hundreds only every fourth
unfoldable pub leap : (year : ℕ) → Bool
leap y = y % 4 =? 0 && (not (y % 100 =? 0) || y % 400 =? 0)

unfoldable pub month_length : (year month : ℕ) → ℕ
month_length y m =
    get_or (0 ∷ 31 ∷ (if leap y then 29 else 28) ∷ 31 ∷ 30 ∷ 31 ∷ 30 ∷ 31 ∷ 31 ∷ 30 ∷ 31 ∷ 30 ∷ 31 ∷ []) m 0

-- a real date from 1 January 1990 to 31 December 2089
unfoldable pub real_date : (year month day : ℕ) → Bool
real_date y m d = 1990 ≤? y && y ≤? 2089 && 0 <? d && d ≤? month_length y m

-- a time 00:00 to 23:59
unfoldable pub real_time : (hour minute : ℕ) → Bool
real_time h m = h ≤? 23 && m ≤? 59

-- the days of the n years from 1990 on
unfoldable pub year_days : (n : ℕ) → ℕ
year_days zero = 0
year_days (suc n) = year_days n + (if leap (1990 + n) then 366 else 365)

-- the days of a year before month m
unfoldable pub month_days : (year m : ℕ) → ℕ
month_days y zero = 0
month_days y (suc m) = month_days y m + month_length y m

-- the day's number: 1 January 1990 is day 0
unfoldable pub day_number : (year month day : ℕ) → ℕ
day_number y m d = year_days (y - 1990) + month_days y m + (d - 1)

-- 0 is Sunday, 6 Saturday. 1 January 1990 was a Monday: so 1 January 2000 was a Saturday
unfoldable pub weekday_of : (day_number : ℕ) → ℕ
weekday_of n = (n + 1) % 7

-- TABLE 51
-- flag octet 1: bit 3 SEASON_CHNG_ARMED, bit 5 ANCHOR_DATE; flag octet 2: bit 1 SEPARATE_WEEKDAYS, bit 2 SEPARATE_SUM_DEMANDS; octet 3: seasons (bits 0..3),
-- special schedules (bits 4..7); then non-recurring dates and recurring dates, one octet each; tier switches, two; table size, two, not used here
unfoldable pub controls_of : (order : ℕ) → (table51 : List ℕ) → Controls
controls_of o t =
    record {
      armed = flag 3 (get_or t 0 0);
      anchored = flag 5 (get_or t 0 0);
      weekdays = flag 1 (get_or t 1 0);
      separate = flag 2 (get_or t 1 0);
      seasons = bits 3 0 (get_or t 2 0);
      specials = bits 7 4 (get_or t 2 0);
      dates = get_or t 3 0;
      recurring = get_or t 4 0;
      switches = number_in o (part t 5 2);
    }

-- TABLE 54
-- anchor date, 2 octets if flagged; then the dates
unfoldable pub dates_at : Controls → ℕ
dates_at c = if c.anchored then 2 else 0

-- records of three octets: non-recurring dates, then recurring dates, then switches
unfoldable pub switches_at : Controls → ℕ
switches_at c = dates_at c + 3 * c.dates + 3 * c.recurring

-- then the matrix, a row for each season
unfoldable pub matrix_at : Controls → ℕ
matrix_at c = switches_at c + 3 * c.switches

-- the columns of days: Sunday to Saturday, or Saturday, Sunday, weekday; a special schedule's column stands after them
unfoldable pub day_columns : Controls → ℕ
day_columns c = if c.weekdays then 7 else 3

unfoldable pub row_width : Controls → ℕ
row_width c = day_columns c + c.specials

unfoldable pub table54_size : Controls → ℕ
table54_size c = matrix_at c + c.seasons * row_width c

-- three octets from `at` on: a number of two, and one more
unfoldable pub triple_at : (order : ℕ) → (table54 : List ℕ) → (at : ℕ) → Triple
triple_at o t at = record { word = number_in o (part t at 2); octet = get_or t (at + 2) 0 }

-- n such records from `at` on
unfoldable pub triples : (order : ℕ) → (table54 : List ℕ) → (at n : ℕ) → List Triple
triples o t at zero = []
triples o t at (suc n) = triple_at o t at ∷ triples o t (at + 3) n

-- THE LATEST OF WHAT SOME RECORDS BRING, by the day or the minute from which it holds
-- an earlier record's before a later one's: of equals, the later record
unfoldable pub or_later : (earlier later : Chosen) → Chosen
or_later None b = b
or_later (Some a) None = Some a
or_later (Some a) (Some b) = if a.when ≤? b.when then Some b else Some a

unfoldable pub latest : (brought : Triple → Chosen) → List Triple → Chosen
latest f [] = None
latest f (r ∷ rs) = or_later (f r) (latest f rs)

-- something, where a condition holds
abbrev pub entry_if : Bool → (when brings : ℕ) → Chosen
entry_if b w x = if b then entry w x else None

-- DATES OF RECORDS. DATE: year bits 0..6, month 7..10, day 11..15
-- years 0..89 are 2000 on, 90..99 are 1990 on; others are no years
unfoldable pub year_of : ℕ → ℕ
year_of y = if y <? 90 then 2000 + y else if y <? 100 then 1900 + y else 0

unfoldable pub record_real : Triple → Bool
record_real r = real_date (year_of (bits 6 0 r.word)) (bits 10 7 r.word) (bits 15 11 r.word)

unfoldable pub record_day : Triple → ℕ
record_day r = day_number (year_of (bits 6 0 r.word)) (bits 10 7 r.word) (bits 15 11 r.word)

-- action bits 0..4
unfoldable pub action : Triple → ℕ
action r = bits 4 0 r.octet

-- a season record with a real date that stands at or before the day. 3 to 18 select season 0 to 15; records without a real date are skipped
unfoldable pub selects_season : (day : ℕ) → Triple → Bool
selects_season day r = record_real r && record_day r ≤? day && 3 ≤? action r && action r ≤? 18

unfoldable pub season_entry : (day : ℕ) → Triple → Chosen
season_entry day r = entry_if (selects_season day r) (record_day r) (action r - 3)

-- 19 to 30 select special schedule 0 to 11; it holds for its own date only
unfoldable pub special_entry : (day : ℕ) → Triple → Chosen
special_entry day r = entry_if (record_real r && record_day r =? day && 19 ≤? action r && action r ≤? 30) (record_day r) (action r - 19)

-- the non-recurring dates; recurring records are read past and not applied
unfoldable pub dates_of : (order : ℕ) → Controls → (table54 : List ℕ) → List Triple
dates_of o c t = triples o t (dates_at c) c.dates

-- the season on a day: the season action with the latest date not after it; of equal dates, the later record
unfoldable pub season_on : (day : ℕ) → List Triple → Chosen
season_on day dates = latest (season_entry day) dates

-- document 02, E1: a day before every season record is in season 0
unfoldable pub in_season : Chosen → ℕ
in_season None = 0
in_season (Some e) = e.brings

-- and whether any season record with a real date stands at or before the day
unfoldable pub season_stands : (day : ℕ) → List Triple → Bool
season_stands day [] = false
season_stands day (r ∷ rs) = selects_season day r || season_stands day rs

-- the special schedule on a day: the later record wins
unfoldable pub special_on : (day : ℕ) → List Triple → Chosen
special_on day dates = latest (special_entry day) dates

-- THE SCHEDULE
-- rows stand Sunday first; SEPARATE_WEEKDAYS false: Saturday, Sunday, weekday
unfoldable pub day_column : Controls → (weekday : ℕ) → ℕ
day_column c w = if c.weekdays then w else if w =? 6 then 0 else if w =? 0 then 1 else 2

-- special schedule k stands in column 7 + k or 3 + k
unfoldable pub column_on : Controls → (day : ℕ) → Chosen → ℕ
column_on c day None = day_column c (weekday_of day)
column_on c day (Some e) = day_columns c + e.brings

-- a season without a row, a special schedule without a column
unfoldable pub missing_special : Controls → Chosen → Bool
missing_special c None = false
missing_special c (Some e) = c.specials ≤? e.brings

unfoldable pub cell_at : Controls → (table54 : List ℕ) → (row column : ℕ) → ℕ
cell_at c t row column = get_or t (matrix_at c + row * row_width c + column) 0

-- THE TIER. Switch: tier bits 0..2, summation flag 3, demand flag 4, minute 5..10, hour 11..15
unfoldable pub flagged_for : Quantity → (switch : ℕ) → Bool
flagged_for Quantity.Summations w = flag 3 w
flagged_for Quantity.Demands w = flag 4 w

-- with SEPARATE_SUM_DEMANDS only switches flagged for what is asked count; without it all do
unfoldable pub counts : (separate : Bool) → Quantity → (switch : ℕ) → Bool
counts separate q w = not separate || flagged_for q w

unfoldable pub switch_minute : (switch : ℕ) → ℕ
switch_minute w = 60 * bits 15 11 w + bits 10 5 w

-- a switch of that schedule number at or before the time; hours over 23 or minutes over 59 are skipped
unfoldable pub switch_entry : (separate : Bool) → Quantity → (schedule minute : ℕ) → Triple → Chosen
switch_entry separate q n m r =
    entry_if (r.octet =? n && real_time (bits 15 11 r.word) (bits 10 5 r.word) && switch_minute r.word ≤? m && counts separate q r.word)
    (switch_minute r.word) (bits 2 0 r.word)

unfoldable pub switches_of : (order : ℕ) → Controls → (table54 : List ℕ) → List Triple
switches_of o c t = triples o t (switches_at c) c.switches

-- no such switch: "none yet today"
unfoldable pub tier_from : Chosen → Reply
tier_from None = Ok Answer.NoneYet
tier_from (Some e) = Ok (Answer.Tier e.brings)

-- the tier is that of the latest switch of that number at or before the time; of equal times, the later record
unfoldable pub tier_by_schedule : (order : ℕ) → Controls → (table54 : List ℕ) → Quantity → (schedule minute : ℕ) → Reply
tier_by_schedule o c t q n m = tier_from (latest (switch_entry c.separate q n m) (switches_of o c t))

-- THE TABLES NEEDED
-- the image's DATA_ORDER, what Table 51 says, and the octets of Table 54; or the refusal
pub data Found : Type 0 where
  found : (order : ℕ) → Controls → (table54 : List ℕ) → Found
  missing : Refusal → Found

-- 20: Table 51 isn't 9 octets, or Table 54 isn't of the size that Table 51 says
unfoldable pub sized : (order : ℕ) → (table51 table54 : List ℕ) → Found
sized o a b =
    if length a =? 9 && length b =? table54_size (controls_of o a) then found o (controls_of o a) b else missing not_a_calendar

abbrev pub seat_octets : (image : List ℕ) → Seat → List ℕ
seat_octets img t = part img t.start t.size

-- 10: tables 00, 51, 54
unfoldable pub seats_found : (image : List ℕ) → (table00 table51 table54 : Option Seat) → Found
seats_found img none b c = missing no_table
seats_found img (some a) none c = missing no_table
seats_found img (some a) (some b) none = missing no_table
seats_found img (some a) (some b) (some c) = sized (data_order img) (seat_octets img b) (seat_octets img c)

unfoldable pub calendar_in : (image : List ℕ) → Opened → Found
calendar_in img (opened ts es s n) = seats_found img (table_named 0 0 ts) (table_named 0 51 ts) (table_named 0 54 ts)
calendar_in img (refused r) = missing r

unfoldable pub calendar : (description image : List ℕ) → Found
calendar d img = calendar_in img (open_image d img)

-- THE TIER AT A DATE AND TIME: after 1 to 10 and 20 come 16, 18, 19
-- 19: season or special schedule without a row or column; so too season 0 where there are no seasons
unfoldable pub tier_on : (order : ℕ) → Controls → (table54 : List ℕ) → (day minute : ℕ) → Quantity → (special : Chosen) → (season : ℕ) → Reply
tier_on o c t day m q x s =
    if c.seasons ≤? s || missing_special c x then Err no_row_or_column
    else tier_by_schedule o c t q (cell_at c t s (column_on c day x)) m

unfoldable pub tier_day : (order : ℕ) → Controls → (table54 : List ℕ) → (day minute : ℕ) → Quantity → Reply
tier_day o c t day m q = tier_on o c t day m q (special_on day (dates_of o c t)) (in_season (season_on day (dates_of o c t)))

-- 16: not a real date, or not a time; 18: SEASON_CHNG_ARMED_FLAG set
unfoldable pub tier_in : Moment → Quantity → Found → Reply
tier_in w q (missing r) = Err r
tier_in w q (found o c t) =
    if not (real_date w.year w.month w.day && real_time w.hour w.minute) then Err not_a_date
    else if c.armed then Err season_change_armed
    else tier_day o c t (day_number w.year w.month w.day) (60 * w.hour + w.minute) q

unfoldable pub tier_reply : (description image : List ℕ) → Moment → Quantity → Reply
tier_reply d img w q = tier_in w q (calendar d img)

-- DOES ANY SEASON RECORD STAND AT OR BEFORE A DATE (document 02, E1): after 1 to 10 and 20 comes 16 alone
unfoldable pub seasoned_in : Date → Found → Reply
seasoned_in t (missing r) = Err r
seasoned_in t (found o c b) =
    if not (real_date t.year t.month t.day) then Err not_a_date
    else if season_stands (day_number t.year t.month t.day) (dates_of o c b) then Ok Answer.Yes
    else Ok Answer.No

unfoldable pub seasoned_reply : (description image : List ℕ) → Date → Reply
seasoned_reply d img t = seasoned_in t (calendar d img)

-- THE WEEKDAY OF A DATE (document 02, E3), 0 for Sunday to 6 for Saturday; or 16 alone. It needs no table
unfoldable pub weekday_reply : Date → Reply
weekday_reply t =
    if real_date t.year t.month t.day then Ok (Answer.Weekday (weekday_of (day_number t.year t.month t.day))) else Err not_a_date

-- THE MATRIX: fifteen rows of twenty-two; cells stand as in Table 54's rows, unused ones are 0
unfoldable pub matrix_cell : Controls → (table54 : List ℕ) → (row column : ℕ) → ℕ
matrix_cell c t row column = if row <? c.seasons && column <? row_width c then cell_at c t row column else 0

unfoldable pub matrix_of : Controls → (table54 : List ℕ) → List (List ℕ)
matrix_of c t = build 15 (λ row. build 22 (λ column. matrix_cell c t row column))

-- all cells 0 on refusal
unfoldable pub matrix_in : Found → List (List ℕ)
matrix_in (found o c t) = matrix_of c t
matrix_in (missing r) = build 15 (λ row. build 22 (λ column. 0))

unfoldable pub matrix_reply : (description image : List ℕ) → List (List ℕ)
matrix_reply d img = matrix_in (calendar d img)

-- by a separate question the refusal of the matrix: it needs no date, so 16 to 19 aren't given
unfoldable pub matrix_verdict_in : Found → Verdict
matrix_verdict_in (found o c t) = passed
matrix_verdict_in (missing r) = Err r

unfoldable pub matrix_verdict : (description image : List ℕ) → Verdict
matrix_verdict d img = matrix_verdict_in (calendar d img)

-- the cells lent to be written, afterwards: the matrix where it can be had; a refused call leaves them as they were
unfoldable pub cells_after : Verdict → (matrix lent : List (List ℕ)) → List (List ℕ)
cells_after passed matrix lent = matrix
cells_after (Err r) matrix lent = lent
