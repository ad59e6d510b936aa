-- THE QUESTIONS: the list of "What the tool holds" in document 01 and those that document 02 adds, a case each, with all that is asked and lent beside description and image; and what each
-- comes to: its reply, the octets that it tells, and the image afterwards. The callers that know numbers and octets alone, C and lines of text, state their replies by
-- these. Assumes nothing.
use Rattle.std.specs.Prelude.{ℕ, Ok, Err}
use mathlib.Core.List.{List, [], flatten}
use Rattle.std.proofs.Math.Option.{Option, some, none}
use Rattle.offsets.specs.declared.TableOffset.{TableOffset}
use Rattle.meaning.specs.declared.ElementName.{ElementName}
use Rattle.meaning.specs.declared.Date.{Date}
use Rattle.meaning.specs.declared.Moment.{Moment}
use Rattle.meaning.specs.declared.Quantity.{Quantity}
use Rattle.meaning.specs.declared.Refusal.{Refusal}
use Rattle.meaning.specs.declared.Told.{Told}
use Rattle.meaning.specs.Description.{check_reply}
use Rattle.meaning.specs.Refusals.{told_by, verdict_reply, place_reply, layout_reply, table_place_reply, element_place_reply, table_part_reply, element_part_reply, read_range_reply, read_range_part, element_number_reply}
use Rattle.meaning.specs.Refusals.{write_range_reply, write_range_image, write_octets_reply, write_octets_image, write_number_reply, write_number_image}
use Rattle.meaning.specs.Calendar.{tier_reply, seasoned_reply, weekday_reply, matrix_reply, matrix_verdict}
use Rattle.meaning.specs.Values.{Reply}
use Rattle.meaning.specs.declared.Answer.{Answer}

pub data Question : Type 0 where
  -- is this description sound
  check : Question
  -- lay the image out: the total of octets used
  layout : Question
  -- where a table starts and how long it is; the table itself as a part of the image
  table_place : (manufacturer number : ℕ) → Question
  table_part : (manufacturer number : ℕ) → Question
  -- where an element is; its octets; its number, for an integer
  element_place : ElementName → Question
  element_part : ElementName → Question
  element_number : ElementName → Question
  -- write a range of a table, an element's octets, an element's number
  write_range : (manufacturer number : ℕ) → TableOffset → (new : List ℕ) → Question
  write_octets : ElementName → (new : List ℕ) → Question
  write_number : ElementName → (x : ℕ) → Question
  -- the tier of the calendar; its matrix
  tier : Moment → Quantity → Question
  matrix : Question
  -- document 02, E1: does any season record with a real date stand at or before this date
  seasoned : Date → Question
  -- document 02, E2: a range of a table, and where it is
  read_range : (manufacturer number : ℕ) → TableOffset → (length : ℕ) → Question
  -- document 02, E3: the weekday of a date, whatever description and image are
  weekday : Date → Question

-- WHAT A QUESTION COMES TO: the reply; the octets that it tells, row by row where they are cells, none where it tells none; the image afterwards
pub record Outcome : Type 0 where
  pub reply : Reply
  pub octets : List ℕ
  pub image : List ℕ

abbrev pub outcome : Reply → (octets image : List ℕ) → Outcome
outcome r xs img = record { reply = r; octets = xs; image = img }

-- of parts, "where" gives the refusal number; of the matrix, a separate question
unfoldable pub outcome_of : Question → (description image : List ℕ) → Outcome
outcome_of check d img = outcome (verdict_reply (check_reply d)) [] img
outcome_of layout d img = outcome (layout_reply d img) [] img
outcome_of (table_place m k) d img = outcome (place_reply (table_place_reply d img m k)) [] img
outcome_of (table_part m k) d img = outcome (place_reply (table_place_reply d img m k)) (table_part_reply d img m k) img
outcome_of (element_place q) d img = outcome (place_reply (element_place_reply d img q)) [] img
outcome_of (element_part q) d img = outcome (place_reply (element_place_reply d img q)) (element_part_reply d img q) img
outcome_of (element_number q) d img = outcome (element_number_reply d img q) [] img
outcome_of (write_range m k o new) d img = outcome (verdict_reply (write_range_reply d img m k o new)) [] (write_range_image d img m k o new)
outcome_of (write_octets q new) d img = outcome (verdict_reply (write_octets_reply d img q new)) [] (write_octets_image d img q new)
outcome_of (write_number q x) d img = outcome (verdict_reply (write_number_reply d img q x)) [] (write_number_image d img q x)
outcome_of (tier w q) d img = outcome (tier_reply d img w q) [] img
outcome_of matrix d img = outcome (verdict_reply (matrix_verdict d img)) (flatten (matrix_reply d img)) img
outcome_of (seasoned t) d img = outcome (seasoned_reply d img t) [] img
outcome_of (read_range m k o n) d img = outcome (place_reply (read_range_reply d img m k o n)) (read_range_part d img m k o n) img
outcome_of (weekday t) d img = outcome (weekday_reply t) [] img

unfoldable pub reply_to : Question → (description image : List ℕ) → Reply
reply_to q d img = (outcome_of q d img).reply

unfoldable pub told_to : Question → (description image : List ℕ) → Told
told_to q d img = told_by (reply_to q d img)

unfoldable pub octets_to : Question → (description image : List ℕ) → List ℕ
octets_to q d img = (outcome_of q d img).octets

unfoldable pub image_after : Question → (description image : List ℕ) → List ℕ
image_after q d img = (outcome_of q d img).image

-- THE REFUSAL IN A REPLY, none where the question is answered
unfoldable pub refusal_in : Reply → Option Refusal
refusal_in (Err r) = some r
refusal_in (Ok a) = none

unfoldable pub refusal_to : Question → (description image : List ℕ) → Option Refusal
refusal_to q d img = refusal_in (reply_to q d img)
