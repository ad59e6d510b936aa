-- Where a calendar is found, and the matrix, cell by cell, as specs/Matrix.antt says. Assumes nothing.
use Prim.Native.Nat.{ℕ, ◌+◌, ◌*◌, ◌<◌, ◌≤◌}
use mathlib.Core.Path.{◌≡◌, ap, ◌∙◌}
use mathlib.Core.Logic.{⊎_elim}
use mathlib.Core.Bool.{◌&&◌, and-false}
use mathlib.Core.List.{List, []}
use mathlib.Core.Option.{Option, some, none}
use native.Mathlib.Nat.{mul-le-mul_right, suc-mul}
use native.Mathlib.Omega.{arith}
use borrow.Author.Tests.{lt-ltb, le-ltb, eqb-true}
use lib.Dec.{eqb}
use lib.ListN.{length, get_or, get_or-eq_default}
use Rattle.meaning.specs.Basics.{build}
use Rattle.meaning.specs.declared.Controls.{Controls}
use Rattle.meaning.specs.declared.Refusal.{Refusal}
use Rattle.meaning.specs.Layout.{Seat, data_order}
use Rattle.meaning.specs.Refusals.{Opened, opened, refused, open_image, seat_place, table_place_in, table_place_reply, place_part, table_part_reply}
use Rattle.meaning.specs.Calendar.{controls_of, matrix_at, day_columns, row_width, table54_size, cell_at, Found, found, missing, sized, seats_found, calendar_in, calendar, matrix_cell, matrix_of, matrix_in}
use Rattle.meaning.specs.Numbers.{no_table, not_a_calendar}
use Rattle.almanac.specs.Matrix.{cell, Fifteen, Shown}
use Rattle.almanac.proofs.Tests.{lt_or_ge, both_true, cond_most}
use Rattle.meaning.proofs.Either.{tested}
use Rattle.almanac.proofs.Build.{build_long, build_at}

-- A LIST OF LISTS BUILT
module _ (f : ℕ → ℕ → ℕ) where
  abbrev grid : List (List ℕ)
  grid = build 15 (λ row. build 22 (λ column. f row column))

  grid_fifteen : Fifteen grid
  grid_fifteen = record { rows = build_long 15 _; columns = λ row h. ap length (build_at 15 _ row [] h) ∙ build_long 22 _ }

  grid_cell : (row column : ℕ) → row < 15 → column < 22 → cell grid row column ≡ f row column
  grid_cell row column h k = ap (λ (r : List ℕ). get_or r column 0) (build_at 15 _ row [] h) ∙ build_at 22 (f row) column 0 k

  -- past its end there is 0, as where f gives it
  grid_zero : (row column : ℕ) → f row column ≡ 0 → cell grid row column ≡ 0
  grid_zero row column e = ⊎_elim (λ h. ⊎_elim (λ k. grid_cell row column h k ∙ e) (past_column h) (lt_or_ge column 22)) past_row (lt_or_ge row 15)
    where
      past_row : 15 ≤ row → cell grid row column ≡ 0
      past_row h = ap (λ (r : List ℕ). get_or r column 0) (get_or-eq_default grid [] (omega (arith, build_long 15 (λ (i : ℕ). build 22 (f i)))))

      past_column : row < 15 → 22 ≤ column → cell grid row column ≡ 0
      past_column h k = get_or-eq_default (get_or grid row []) 0 (omega (arith, grid_fifteen.columns row h))

-- A CALENDAR THAT IS FOUND: Table 51 has room for no more than fifteen rows of twenty-two, and Table 54 is of the size that it says
pub record Sized (c : Controls) (t : List ℕ) : Type 0 where
  pub rows : c.seasons ≤ 15
  pub columns : row_width c ≤ 22
  pub size : length t ≡ matrix_at c + c.seasons * row_width c

-- what is found of the octets a and b of tables 51 and 54: those, or a refusal
pub data FoundIn (o : ℕ) (a b : List ℕ) : Found → Type 0 where
  there : Sized (controls_of o a) b → FoundIn o a b (found o (controls_of o a) b)
  absent : (r : Refusal) → FoundIn o a b (missing r)

controls_few : (o : ℕ) (t : List ℕ) → ((controls_of o t).seasons ≤ 15) × ((controls_of o t).specials ≤ 15)
unfolding controls_of
controls_few o t = omega arith

pub days_most : (c : Controls) → day_columns c ≤ 7
unfolding day_columns
days_most c = cond_most c.weekdays 7 3 (omega arith)

pub width_most : (c : Controls) → c.specials ≤ 15 → row_width c ≤ 22
unfolding row_width
width_most c h = omega (arith, days_most c)

sized_found : (o : ℕ) (a b : List ℕ) → FoundIn o a b (sized o a b)
unfolding sized table54_size
sized_found o a b =
    tested (FoundIn o a b) (eqb (length a) 9 && eqb (length b) (table54_size (controls_of o a))) _ _
    (λ e.
    let n = controls_few o a in
    there (record { rows = n.0; columns = width_most (controls_of o a) n.1; size = eqb-true _ _ (both_true (eqb (length a) 9) _ e).1 }))
    (λ e. absent not_a_calendar)

seats_found_lem : (img : List ℕ) (a b c : Option Seat) → FoundIn (data_order img) (place_part img (seat_place b)) (place_part img (seat_place c)) (seats_found img a b c)
unfolding seats_found seat_place place_part
seats_found_lem img none b c = absent no_table
seats_found_lem img (some a) none c = absent no_table
seats_found_lem img (some a) (some b) none = absent no_table
seats_found_lem img (some a) (some b) (some c) = sized_found _ _ _

opened_found : (img : List ℕ) (x : Opened)
    → FoundIn (data_order img) (place_part img (table_place_in 0 51 x)) (place_part img (table_place_in 0 54 x)) (calendar_in img x)
unfolding calendar_in table_place_in
opened_found img (opened ts es s n) = seats_found_lem img _ _ _
opened_found img (refused r) = absent r

pub calendar_found : (d img : List ℕ) → FoundIn (data_order img) (table_part_reply d img 0 51) (table_part_reply d img 0 54) (calendar d img)
unfolding calendar table_part_reply table_place_reply
calendar_found d img = opened_found img (open_image d img)

-- THE CELLS
-- a row's cells lie before the next row's
pub row_inside : (n row w column : ℕ) → row < n → column < w → row * w + column < n * w
row_inside n row w column h k = omega (arith, mul-le-mul_right w h, suc-mul row w)

pub matrix_found : (o : ℕ) (c : Controls) (t : List ℕ) → Sized c t → Shown c t (matrix_in (found o c t))
unfolding matrix_in matrix_of matrix_cell cell_at
matrix_found o c t s =
    record {
      rows = s.rows;
      columns = s.columns;
      inside = λ row column h k. omega (arith, row_inside c.seasons row (row_width c) column h k, s.size);
      used = λ row column h k. grid_cell (matrix_cell c t) row column (omega arith) (omega arith) ∙ rw (lt-ltb _ _ h, lt-ltb _ _ k);
      unused =
          λ row column h. grid_zero (matrix_cell c t) row column
          (⊎_elim (λ l. rw (le-ltb row c.seasons l)) (λ l. rw (le-ltb column (row_width c) l, and-false)) h);
    }

-- REFUSED OR FOUND, it has its rows
pub matrix_fifteen : (x : Found) → Fifteen (matrix_in x)
unfolding matrix_in matrix_of
matrix_fifteen (found o c t) = grid_fifteen (matrix_cell c t)
matrix_fifteen (missing r) = grid_fifteen (λ row column. 0)
