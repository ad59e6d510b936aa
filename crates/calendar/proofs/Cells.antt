-- The rows of the matrix, cell by cell. Assumes nothing.
use Prim.Native.Nat.{ℕ, ◌+◌, ◌*◌, ◌<◌, ◌≤◌}
use mathlib.Core.Path.{◌≡◌}
use mathlib.Core.List.{List}
use lib.Dec.{ltb}
use lib.ListN.{length, get_or, get_or-eq_default, replicate}
use native.Mathlib.Omega.{arith}
use native.Mathlib.Nat.{mul-le-mul_right, suc-mul}
use borrow.Author.Tests.{lt-ltb, le-ltb, ltb-true, ltb-false}
use Rattle.meaning.specs.Basics.{build, part}
use Rattle.meaning.specs.declared.Controls.{Controls}
use Rattle.meaning.specs.Calendar.{matrix_at, row_width, table54_size, cell_at, matrix_cell}
use Rattle.meaning.proofs.Either.{tested}
use Rattle.meaning.proofs.Splices.{part_long, part_at}
use Rattle.calendar.specs.Sections.{sections_of, Sized}
use Rattle.calendar.specs.declared.Sections.{Sections}
use Rattle.almanac.proofs.Matrix.{width_most}
use Rattle.almanac.proofs.Build.{build_same}

-- A ROW of the matrix lies inside the table
pub row_inside : {c : Controls} {t : List ℕ} {s : Sections} {row : ℕ} → Sized c t → s ≡ sections_of c → row < c.seasons → s.matrix + row * s.width + s.width ≤ length t
unfolding sections_of table54_size
row_inside {c} {t} {s} {row} z e r = rw e (omega (arith, mul-le-mul_right (row_width c) r, suc-mul row (row_width c), z.long))

-- and fits a row of cells
pub row_fits : {c : Controls} {t : List ℕ} (at : ℕ) → Sized c t → length (part t at (row_width c)) ≤ 22
row_fits {c} {t} at z = omega (arith, part_long t at (row_width c), width_most c z.small.few_specials)

-- a row of the matrix
abbrev pub row_of : Controls → List ℕ → (row : ℕ) → List ℕ
row_of c t row = build 22 (λ column. matrix_cell c t row column)

-- its octets are its first cells
pub row_cells : (c : Controls) (t : List ℕ) (row : ℕ) → row < c.seasons
    → build 22 (λ column. get_or (part t (matrix_at c + row * row_width c) (row_width c)) column 0) ≡ row_of c t row
unfolding matrix_cell cell_at
row_cells c t row h =
    let w = row_width c in
    let at = matrix_at c + row * w in
    build_same 22 _ _
    (λ k. rw (lt-ltb _ _ h)
    (tested (λ n. get_or (part t at w) k 0 ≡ n) (ltb k w) _ _ (λ e. part_at t at w k (ltb-true k w e))
    (λ e. get_or-eq_default (part t at w) 0 (omega (arith, part_long t at w, ltb-false k w e)))))

-- a row past the last season has none
pub no_row : (c : Controls) (t : List ℕ) (row : ℕ) → c.seasons ≤ row → replicate 22 0 ≡ row_of c t row
unfolding matrix_cell build
no_row c t row h = rw (le-ltb _ _ h)
