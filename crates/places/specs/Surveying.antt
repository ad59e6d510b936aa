-- THE WHOLE IMAGE: what laying the tables one after another promises, by what laying out comes to. Assumes nothing.
use Rattle.std.specs.Prelude.{ℕ, ◌+◌, ◌-◌, ◌<◌, ◌≤◌, ◌≡◌, Bool, false, ◌&&◌, Some, None, Result, Ok, Err, List, ◌++◌, length, if◌then◌else◌}
use Rattle.std.proofs.Math.Option.{Option, some, none}
use Rattle.meaning.specs.Basics.{◌=?◌, ◌≤?◌}
use Rattle.meaning.specs.declared.Fields.{Fields}
use Rattle.meaning.specs.declared.Refusal.{Refusal}
use Rattle.meaning.specs.Description.{item_count}
use Rattle.meaning.specs.Passed.{Passes}
use Rattle.meaning.specs.Layout.{Placed, Seat, Slots, Layout, laid_out, stopped_at, lay_tables, lay_out, tables_of, table_named, slot_numbers}
use Rattle.meaning.specs.Refusals.{Opened, opened, refused, open_laid, any_dimension}
use Rattle.laying.specs.Every.{Every}
use Rattle.laying.specs.Rows.{no_row, first_row, onward, walk_tables, row_of}
use Rattle.laying.specs.Rows as def
use Rattle.laying.specs.Slots.{Matches}
use Rattle.laying.specs.Sound.{Known, SoundTables}
use Rattle.places.specs.declared.survey.Answer.{Answer}
use Rattle.places.specs.declared.survey.Asked.{Asked}
use Rattle.places.specs.declared.survey.Standing.{Standing}
use Rattle.places.specs.declared.survey.Survey.{Survey}
use Rattle.meaning.specs.declared.TableName.{TableName}
use Rattle.places.specs.declared.survey.TableSpot.{TableSpot}
use Rattle.places.specs.Found.{FoundTable, FoundRow}
use Rattle.places.specs.Measuring.{numbers_in}
use Rattle.places.specs.Rows.{RowAs}

-- WHAT IS FOUND
-- a table found: its item, where it starts, how long it is
unfoldable pub table_found : Option Seat → FoundTable
table_found none = None
table_found (some t) = Some (record { item = t.item; start = record { 0 = t.start }; length = t.size })

-- a table is the one of that name, and none was found before
unfoldable pub is_first : FoundTable → Fields → TableName → Bool
is_first None h n = h.manufacturer =? n.manufacturer && h.number =? n.number
is_first (Some t) h n = false

unfoldable pub seat_in : (before : FoundTable) → (this : Bool) → TableSpot → FoundTable
seat_in before this t = if this then Some t else before

-- n octets from offset o on of a table lie in it, and hold an octet of a dimension
unfoldable pub held_in : (o n : ℕ) → Option Seat → List Placed → Bool
held_in o n none es = false
held_in o n (some t) es = o + n ≤? t.size && any_dimension es (t.start + o) n

unfoldable pub held_after : (before this fits held : Bool) → Bool
held_after before this fits held = if this then fits && held else before

-- a row of the image, in the table where it stands
pub record StandsIn (e : Standing) (r : def.Row) : Type 0 where
  pub in_table : def.Row
  pub is : r ≡ onward e.start.0 in_table
  pub row_as : RowAs 4 (Some e.row) in_table
  pub early : e.start.0 ≤ 65535

-- or none
abbrev pub StandsAs : FoundRow → def.Row → Type 0
StandsAs None r = r ≡ no_row
StandsAs (Some e) r = StandsIn e r

-- THE TABLES BEFORE item s.next ARE LAID
-- what was laid before, then the rest
unfoldable pub before_all : List Seat → List Placed → Layout → Layout
before_all ts ps (laid_out us qs s n) = laid_out (ts ++ us) (ps ++ qs) s n
before_all ts ps (stopped_at qs x) = stopped_at (ps ++ qs) x

pub record SurveyReady (d img : List ℕ) : Type 0 where
  pub passes : Passes d
  pub small : length img ≤ 65535

pub record Surveyed (d img : List ℕ) (q : Asked) (s : Survey) : Type 0 where
  pub seats : List Seat
  pub elements : List Placed
  pub slots : Slots
  pub known : Known
  pub row : def.Row
  pub numbers : slot_numbers slots ≡ numbers_in s.numbers
  pub room : length s.numbers ≡ 64
  pub matches : Matches slots known
  pub whole : lay_out d img ≡ before_all seats elements (lay_tables (tables_of d (item_count d - s.next.at) 0 s.next.at) img slots s.start.0)
  pub rows : row_of d img q.item ≡ first_row row (walk_tables (tables_of d (item_count d - s.next.at) 0 s.next.at) img slots s.start.0 q.item)
  pub sound : SoundTables known (tables_of d (item_count d - s.next.at) 0 s.next.at)
  pub ordered : s.next.at ≤ item_count d
  pub inside : s.start.0 ≤ length img
  pub seats_end : Every (λ t. t.start + t.size ≤ s.start.0) seats
  pub elements_end : Every (λ e. e.start + e.size ≤ s.start.0) elements
  pub first : s.first ≡ table_found (table_named q.first.manufacturer q.first.number seats)
  pub second : s.second ≡ table_found (table_named q.second.manufacturer q.second.number seats)
  pub element : StandsAs s.element row
  pub held : s.held ≡ held_in q.from.0 q.octets (table_named q.first.manufacturer q.first.number seats) elements

pub record TableReady (d img : List ℕ) (q : Asked) (s : Survey) : Type 0 where
  pub ready : SurveyReady d img
  pub surveyed : Surveyed d img q s
  pub more : s.next.at < item_count d

-- one table more, or the refusal that laying out comes to
abbrev pub TableAs : (description image : List ℕ) → Asked → Survey → Result Survey Refusal → Type 0
TableAs d img q s (Ok r) = Surveyed d img q r × (s.next.at < r.next.at)
TableAs d img q s (Err x) = open_laid (lay_out d img) ≡ refused x

-- THE ANSWER
pub record Answers (d img : List ℕ) (q : Asked) (a : Answer) (ts : List Seat) (es : List Placed) (s : Slots) (n : ℕ) : Type 0 where
  pub total : a.total ≡ n
  pub numbers : slot_numbers s ≡ numbers_in a.numbers
  pub first : a.first ≡ table_found (table_named q.first.manufacturer q.first.number ts)
  pub second : a.second ≡ table_found (table_named q.second.manufacturer q.second.number ts)
  pub element : StandsAs a.element (row_of d img q.item)
  pub held : a.held ≡ held_in q.from.0 q.octets (table_named q.first.manufacturer q.first.number ts) es

-- of an image opened, or refused
abbrev pub AnswerAs : (description image : List ℕ) → Asked → Result Answer Refusal → Opened → Type 0
AnswerAs d img q (Ok a) (opened ts es s n) = Answers d img q a ts es s n
AnswerAs d img q (Ok a) (refused r) = ⊥
AnswerAs d img q (Err x) o = o ≡ refused x
