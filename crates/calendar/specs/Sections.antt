-- TABLE 54 AND ITS PARTS, as the functions below the public calls go by them. Assumes nothing.
use Rattle.std.specs.Prelude.{ℕ, ◌≤◌, ◌≡◌, List, length}
use Rattle.meaning.specs.Calendar.{dates_at, switches_at, matrix_at, row_width, table54_size}
use Rattle.meaning.specs.declared.Controls.{Controls}
use Rattle.calendar.specs.declared.Sections.{Sections}

-- counts as small as Table 51's fields make them
pub record Small (c : Controls) : Type 0 where
  pub few_seasons : c.seasons ≤ 15
  pub few_specials : c.specials ≤ 15
  pub few_dates : c.dates ≤ 255
  pub few_recurring : c.recurring ≤ 255
  pub few_switches : c.switches ≤ 65535

-- where the parts of Table 54 stand
unfoldable pub sections_of : Controls → Sections
sections_of c = record { dates = dates_at c; switches = switches_at c; matrix = matrix_at c; width = row_width c; size = table54_size c }

-- Table 54 is of the size that Table 51 says
pub record Sized (c : Controls) (t : List ℕ) : Type 0 where
  pub small : Small c
  pub long : length t ≡ table54_size c
