-- What the calendar comes to, case by case. Assumes nothing.
use Prim.Native.Nat.{ℕ, ◌+◌, ◌-◌, ◌*◌, ◌%◌, ◌<◌, ◌≤◌}
use mathlib.Core.Path.{◌≡◌, refl, sym, ◌∙◌}
use mathlib.Core.Bool.{Bool, true, false, cond}
use mathlib.Core.List.{List}
use mathlib.Core.Option.{Option, some, none}
use lib.ListN.{length, take, drop}
use native.Mathlib.Omega.{arith}
use native.Mathlib.Nat.{mul-le-mul}
use borrow.Author.Tests.{leb-true, leb-false}
use Rattle.meaning.specs.Basics.{◌=?◌, ◌≤?◌, part}
use Rattle.meaning.specs.Layout.{Seat, data_order, table_named}
use Rattle.meaning.specs.Refusals.{seat_place, table_place_in, table_place_reply}
use Rattle.meaning.specs.declared.Controls.{Controls}
use Rattle.meaning.specs.declared.Moment.{Moment}
use Rattle.meaning.specs.declared.Quantity.{Quantity}
use Rattle.meaning.specs.declared.Triple.{Triple}
use Rattle.meaning.specs.Calendar.{real_time, weekday_of, dates_at, switches_at, matrix_at, day_columns, row_width, table54_size, latest, dates_of, season_on, season_stands, day_column, column_on, missing_special, switches_of, tier_from, tier_by_schedule, Found, missing, sized, seats_found, calendar_in, calendar}
use Rattle.almanac.proofs.Tests.{both_true, cond_most}
use Rattle.meaning.proofs.Either.{tested}
use Rattle.almanac.proofs.Choices.{is_entry, stands_chosen}
use Rattle.almanac.proofs.Matrix.{row_inside, days_most}
use Rattle.records.specs.declared.Wanted.{Wanted}
use Rattle.records.specs.Records.{brought_to, latest_in}
use Rattle.records.proofs.Laws.{latest_part}
use Rattle.laying.proofs.First.{table_00}
use Rattle.laying.proofs.Opened.{Came, opens, refuses, came, opened_image}
use Rattle.calendar.specs.declared.Sections.{Sections}
use Rattle.calendar.specs.declared.Calendar.{Calendar}
use Rattle.calendar.specs.Sections.{Small, sections_of, Sized}
use Rattle.std.specs.Prelude.{Ok, Err, Some, None}
use Rattle.meaning.specs.Values.{Place, Chosen}

-- WHERE THE PARTS OF TABLE 54 STAND
dates_most : (c : Controls) → dates_at c ≤ 2
unfolding dates_at
dates_most c = cond_most c.anchored 2 0 (omega arith)

-- all sums are small
pub records_few : {c : Controls} {a : ℕ} → Small c → a ≡ dates_at c → a + 3 * c.dates + 3 * c.recurring + 3 * c.switches ≤ 200000
records_few {c} h e = omega (arith, dates_most c, h.few_dates, h.few_recurring, h.few_switches)

pub columns_few : {c : Controls} {n : ℕ} → Small c → n ≡ day_columns c → n + c.specials ≤ 22
columns_few {c} h e = omega (arith, days_most c, h.few_specials)

pub cells_few : {c : Controls} {n : ℕ} → Small c → n ≡ day_columns c → c.seasons * (n + c.specials) ≤ 330
cells_few h e = mul-le-mul h.few_seasons (columns_few h e)

-- 10, by the places of tables 51 and 54: table 00 is there
abbrev pub calendar_by : (image : List ℕ) → (table51 table54 : Place) → Found
calendar_by img (Err r) c = missing r
calendar_by img (Ok e) (Err r) = missing r
calendar_by img (Ok e) (Ok w) = sized (data_order img) (part img e.start.0 e.length) (part img w.start.0 w.length)

seats_told : (img : List ℕ) (a : Seat) (b c : Option Seat) → calendar_by img (seat_place b) (seat_place c) ≡ seats_found img (some a) b c
unfolding seat_place seats_found
seats_told img a none c = refl
seats_told img a (some b) none = refl
seats_told img a (some b) (some c) = refl

calendar_told : (d img : List ℕ) → Came d img → calendar_by img (table_place_reply d img 0 51) (table_place_reply d img 0 54) ≡ calendar d img
unfolding table_place_reply table_place_in calendar calendar_in
calendar_told d img (refuses r e) = rw e
calendar_told d img (opens ts es s n o) =
    let t = table_00 d img ts es s n o.passes o.laid in
    rw (opened_image o, t.found) (seats_told img t.seat (table_named 0 51 ts) (table_named 0 54 ts))

pub by_places : (d img : List ℕ) (a b : Place) → a ≡ table_place_reply d img 0 51 → b ≡ table_place_reply d img 0 54 → {x y : Place} → a ≡ x → b ≡ y
    → calendar_by img x y ≡ calendar d img
by_places d img a b ea eb e f = rw (← e, ← f, ea, eb) (calendar_told d img (came d img))

-- Table 54, as a calendar has it, is of its size
pub part_sized : (k : Calendar) → Sized k.controls k.table.now
part_sized k = k.sized

-- THE COLUMN ON A DAY
module _ (c : Controls) (day : ℕ) where
  weekday_column : day_column c (weekday_of day) < day_columns c
  unfolding day_column day_columns weekday_of
  weekday_column =
      elim c.weekdays as (λ b. cond b ((day + 1) % 7) (cond ((day + 1) % 7 =? 6) 0 (cond ((day + 1) % 7 =? 0) 1 2)) < cond b 7 3) [
        | true ↦ omega arith
        | false ↦ tested (λ n. n < 3) ((day + 1) % 7 =? 6) _ _ (λ e. omega arith)
            (λ e. tested (λ n. n < 3) ((day + 1) % 7 =? 0) _ _ (λ f. omega arith) (λ f. omega arith))
      ]

  pub column_inside : (x : Chosen) → missing_special c x ≡ false → column_on c day x < row_width c
  unfolding missing_special column_on row_width
  column_inside None h = omega (arith, weekday_column)
  column_inside (Some e) h = omega (arith, leb-false c.specials e.brings h)

-- A CELL
pub cell_inside : {c : Controls} {t : List ℕ} {s : Sections} {row column : ℕ} → Sized c t → s ≡ sections_of c → row < c.seasons → column < row_width c
    → s.matrix + row * s.width + column < length t
unfolding sections_of table54_size
cell_inside {c} {t} {s} {row} {column} z e r k = rw e (omega (arith, row_inside c.seasons row (row_width c) column r k, z.long))

-- THE RECORDS OF A TABLE OF THAT SIZE
module _ (c : Controls) (t : List ℕ) (z : Sized c t) (s : Sections) (se : s ≡ sections_of c) where
  pub dates_inside : s.dates + 3 * c.dates ≤ length t
  unfolding sections_of table54_size matrix_at switches_at
  dates_inside = rw se (omega (arith, z.long))

  pub switches_inside : (s.switches ≤ s.matrix) × (s.matrix ≤ length t)
  unfolding sections_of table54_size matrix_at
  switches_inside = rw se (omega (arith, z.long))

  pub dates_latest : (o : ℕ) (w : Wanted) (x : Chosen) → x ≡ latest_in o (take (s.dates + 3 * c.dates - s.dates) (drop s.dates t)) w
      → x ≡ latest (brought_to w) (dates_of o c t)
  unfolding sections_of part dates_of
  dates_latest o w x e =
      let n : s.dates + 3 * c.dates - s.dates ≡ 3 * c.dates = omega arith in
      e ∙ rw (n, se) (latest_part o t (dates_at c) c.dates w (rw se at dates_inside))

  pub switches_latest : (o : ℕ) (w : Wanted) (x : Chosen) → x ≡ latest_in o (take (s.matrix - s.switches) (drop s.switches t)) w
      → x ≡ latest (brought_to w) (switches_of o c t)
  unfolding sections_of part switches_of table54_size matrix_at
  switches_latest o w x e =
      let n : s.matrix - s.switches ≡ 3 * c.switches = rw se (omega arith) in
      e ∙ rw (n, se) (latest_part o t (switches_at c) c.switches w (omega (arith, z.long)))

-- A SEASON RECORD THAT STANDS
pub stands_is : (day : ℕ) (dates : List Triple) → season_stands day dates ≡ is_entry (latest (brought_to (Wanted.Season day)) dates)
unfolding season_on brought_to
stands_is day dates = sym (stands_chosen day dates)

-- THE TIER
pub tier_is : (o : ℕ) (c : Controls) (t : List ℕ) (q : Quantity) (n m : ℕ)
    → tier_by_schedule o c t q n m ≡ tier_from (latest (brought_to (Wanted.Switch c.separate q n m)) (switches_of o c t))
unfolding tier_by_schedule brought_to
tier_is o c t q n m = refl

-- the minute of the day is below 1,440
pub few_minutes : (w : Moment) (time : Bool) → time ≡ real_time w.hour w.minute → time ≡ true → 60 * w.hour + w.minute < 1440
unfolding real_time
few_minutes w time e h =
    let b = both_true (w.hour ≤? 23) (w.minute ≤? 59) (sym e ∙ h) in
    omega (arith, leb-true w.hour 23 b.0, leb-true w.minute 59 b.1)
