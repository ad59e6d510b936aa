-- A FAMILY OF REPLIES: what some program answers to each question of documents 01 and 02 and leaves in the memory lent to it, whatever the program. The three demands are stated of any family;
-- `ours` is the one that the public calls are proved to give (crate meaning, specs/Questions; docs/STATEMENTS.md has each call with its reply). Assumes nothing.
use Rattle.std.specs.Prelude.{ℕ}
use mathlib.Core.List.{List, [], ◌∷◌, flatten}
use Rattle.offsets.specs.declared.TableOffset.{TableOffset}
use Rattle.meaning.specs.declared.Date.{Date}
use Rattle.meaning.specs.declared.ElementName.{ElementName}
use Rattle.meaning.specs.declared.Moment.{Moment}
use Rattle.meaning.specs.declared.Quantity.{Quantity}
use Rattle.meaning.specs.Description.{check_reply}
use Rattle.meaning.specs.Refusals.{verdict_reply, place_reply, layout_reply, table_place_reply, element_place_reply, table_part_reply, element_part_reply, read_range_reply, read_range_part, element_number_reply}
use Rattle.meaning.specs.Refusals.{write_range_reply, write_range_image, write_octets_reply, write_octets_image, write_number_reply, write_number_image}
use Rattle.meaning.specs.Calendar.{tier_reply, seasoned_reply, weekday_reply, matrix_reply, matrix_verdict, cells_after}
use Rattle.meaning.specs.Questions as ask
use Rattle.meaning.specs.Questions.{Question, Outcome, outcome}
use Rattle.meaning.specs.Values.{Verdict, Place, Reply, at}

-- each reply, and of the writes and the matrix what is in the image and in the cells lent, afterwards
pub record Replies : Type 0 where
  pub check : (description : List ℕ) → Verdict
  pub layout : (description image : List ℕ) → Reply
  pub table_place : (description image : List ℕ) → (manufacturer number : ℕ) → Place
  pub table_part : (description image : List ℕ) → (manufacturer number : ℕ) → List ℕ
  pub element_place : (description image : List ℕ) → ElementName → Place
  pub element_part : (description image : List ℕ) → ElementName → List ℕ
  pub element_number : (description image : List ℕ) → ElementName → Reply
  pub write_range : (description image : List ℕ) → (manufacturer number : ℕ) → TableOffset → (new : List ℕ) → Verdict
  pub range_image : (description image : List ℕ) → (manufacturer number : ℕ) → TableOffset → (new : List ℕ) → List ℕ
  pub write_octets : (description image : List ℕ) → ElementName → (new : List ℕ) → Verdict
  pub octets_image : (description image : List ℕ) → ElementName → (new : List ℕ) → List ℕ
  pub write_number : (description image : List ℕ) → ElementName → (x : ℕ) → Verdict
  pub number_image : (description image : List ℕ) → ElementName → (x : ℕ) → List ℕ
  pub tier : (description image : List ℕ) → Moment → Quantity → Reply
  pub matrix : (description image : List ℕ) → List (List ℕ)
  pub matrix_verdict : (description image : List ℕ) → Verdict
  pub matrix_cells : (description image : List ℕ) → (lent : List (List ℕ)) → List (List ℕ)
  pub seasoned : (description image : List ℕ) → Date → Reply
  pub read_range : (description image : List ℕ) → (manufacturer number : ℕ) → TableOffset → (length : ℕ) → Place
  pub range_part : (description image : List ℕ) → (manufacturer number : ℕ) → TableOffset → (length : ℕ) → List ℕ
  pub weekday : Date → Reply

abbrev pub ours : Replies
ours =
    record {
      check = check_reply;
      layout = layout_reply;
      table_place = table_place_reply;
      table_part = table_part_reply;
      element_place = element_place_reply;
      element_part = element_part_reply;
      element_number = element_number_reply;
      write_range = write_range_reply;
      range_image = write_range_image;
      write_octets = write_octets_reply;
      octets_image = write_octets_image;
      write_number = write_number_reply;
      number_image = write_number_image;
      tier = tier_reply;
      matrix = matrix_reply;
      matrix_verdict = matrix_verdict;
      matrix_cells = λ d img lent. cells_after (matrix_verdict d img) (matrix_reply d img) lent;
      seasoned = seasoned_reply;
      read_range = read_range_reply;
      range_part = read_range_part;
      weekday = weekday_reply;
    }

-- WHAT A QUESTION COMES TO in a family: its reply, the octets that it tells, the image afterwards
unfoldable pub outcome_by : Replies → Question → (description image : List ℕ) → Outcome
outcome_by R ask.check d img = outcome (verdict_reply (R.check d)) [] img
outcome_by R ask.layout d img = outcome (R.layout d img) [] img
outcome_by R (ask.table_place m k) d img = outcome (place_reply (R.table_place d img m k)) [] img
outcome_by R (ask.table_part m k) d img = outcome (place_reply (R.table_place d img m k)) (R.table_part d img m k) img
outcome_by R (ask.element_place q) d img = outcome (place_reply (R.element_place d img q)) [] img
outcome_by R (ask.element_part q) d img = outcome (place_reply (R.element_place d img q)) (R.element_part d img q) img
outcome_by R (ask.element_number q) d img = outcome (R.element_number d img q) [] img
outcome_by R (ask.write_range m k o new) d img = outcome (verdict_reply (R.write_range d img m k o new)) [] (R.range_image d img m k o new)
outcome_by R (ask.write_octets q new) d img = outcome (verdict_reply (R.write_octets d img q new)) [] (R.octets_image d img q new)
outcome_by R (ask.write_number q x) d img = outcome (verdict_reply (R.write_number d img q x)) [] (R.number_image d img q x)
outcome_by R (ask.tier w q) d img = outcome (R.tier d img w q) [] img
outcome_by R ask.matrix d img = outcome (verdict_reply (R.matrix_verdict d img)) (flatten (R.matrix d img)) img
outcome_by R (ask.seasoned t) d img = outcome (R.seasoned d img t) [] img
outcome_by R (ask.read_range m k o n) d img = outcome (place_reply (R.read_range d img m k o n)) (R.range_part d img m k o n) img
outcome_by R (ask.weekday t) d img = outcome (R.weekday t) [] img

-- A PLACE: n octets from octet p on
abbrev pub octets_at : (p n : ℕ) → Place
octets_at p n = at (record { 0 = p }) n

-- the element of an item with no ARRAY round it
abbrev pub alone : (item : ℕ) → ElementName
alone i = record { item = i; count = 0; subscripts = 0 ∷ 0 ∷ 0 ∷ 0 ∷ [] }
