-- THE MATRIX, cell by cell: fifteen rows of twenty-two, which hold every cell of Table 54's rows; the others are 0. Assumes nothing.
-- What is said by this of our reply stands in crate demands, specs/Calendar.
-- Wrong answers ruled out: rows read as 7 + P wide where they are 3 + P, so that the second starts elsewhere; zeros whatever Table 54 holds.
use Rattle.std.specs.Prelude.{ℕ, ◌+◌, ◌*◌, ◌<◌, ◌≤◌, ◌≡◌, ◌⊎◌, List, [], length, get_or}
use Rattle.meaning.specs.declared.Controls.{Controls}
use Rattle.meaning.specs.Calendar.{matrix_at, row_width}

abbrev pub cell : (matrix : List (List ℕ)) → (row column : ℕ) → ℕ
cell m row column = get_or (get_or m row []) column 0

pub record Fifteen (m : List (List ℕ)) : Type 0 where
  pub rows : length m ≡ 15
  pub columns : (row : ℕ) → row < 15 → length (get_or m row []) ≡ 22

-- a calendar that is found: Table 54's own octets, all of which lie in it and in the matrix
pub record Shown (c : Controls) (t : List ℕ) (m : List (List ℕ)) : Type 0 where
  pub rows : c.seasons ≤ 15
  pub columns : row_width c ≤ 22
  pub inside : (row column : ℕ) → row < c.seasons → column < row_width c → matrix_at c + row * row_width c + column < length t
  pub used : (row column : ℕ) → row < c.seasons → column < row_width c → cell m row column ≡ get_or t (matrix_at c + row * row_width c + column) 0
  pub unused : (row column : ℕ) → (c.seasons ≤ row) ⊎ (row_width c ≤ column) → cell m row column ≡ 0
