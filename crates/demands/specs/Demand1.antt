-- DEMAND 1: "Any description, any image, any question gets an answer or one of document 01's numbered refusals, at the place stated there. A refused call changes
-- no octet lent."
-- A question's refusals are a list here, in the order that documents 01 and 02 state, each with the test by which it is given. The tests are made apart from one another, so the
-- list alone says which is given first. They look at the description (specs/Rules, specs/Walk), and at what the same family of replies R answers to simpler questions: every
-- question about an image gets 1 to 9 where the layout does. proofs/Demand1.antt proves `Demand1` of our replies, for every description and image.
use Rattle.std.specs.Prelude.{ℕ, zero, suc, ◌+◌, ◌^◌, min, max, ◌≡◌, Bool, true, false, not, ◌&&◌, ◌||◌, List, [], ◌∷◌, ◌++◌, length, replicate, if◌then◌else◌, Ok, Err}
use Rattle.std.proofs.Math.Option.{Option, some, none}
use Rattle.offsets.specs.declared.TableOffset.{TableOffset}
use Rattle.meaning.specs.Basics.{◌=?◌, ◌<?◌, ◌≤?◌}
use Rattle.meaning.specs.declared.Controls.{Controls}
use Rattle.meaning.specs.declared.Date.{Date}
use Rattle.meaning.specs.declared.ElementName.{ElementName}
use Rattle.meaning.specs.declared.Moment.{Moment}
use Rattle.meaning.specs.declared.Refusal.{Refusal}
use Rattle.meaning.specs.declared.Told.{Told}
use Rattle.meaning.specs.Description.{item_count, fields_at, is_dimension, is_table_named, table_given}
use Rattle.meaning.specs.Layout.{data_order}
use Rattle.meaning.specs.Refusals.{refused_with, told_by, verdict_reply, table_around, writable, place_start, place_length}
use Rattle.meaning.specs.Calendar.{real_date, real_time, day_number, controls_of, table54_size, dates_of, season_on, in_season, special_on, missing_special}
use Rattle.meaning.specs.Questions as ask
use Rattle.meaning.specs.Questions.{Question, refusal_in}
use Rattle.meaning.specs.Numbers.{reports_item, reports_octet, reports_depth, is_given, nothing_refused, image_too_long, image_short, no_table, outside_table}
use Rattle.meaning.specs.Numbers.{not_writable, holds_dimension, wrong_size, not_a_date, season_change_armed, no_row_or_column, not_a_calendar}
use Rattle.demands.specs.Causes.{causes_of}
use Rattle.demands.specs.Given.{given, first_of}
use Rattle.demands.specs.Replies.{Replies, outcome_by, alone}
use Rattle.demands.specs.Rules.{CheckSays}
use Rattle.demands.specs.Walk.{octet_before, runs_past, numbers_in}
use Rattle.meaning.specs.Values.{Place, Chosen}

-- 1 TO 9
-- 8: image over 65,535 octets
unfoldable pub eight : (image : List ℕ) → Option Refusal
eight img = given (65535 <? length img) image_too_long

-- 9: the first piece that doesn't end inside the image, among n items from i on, and its starting octet
unfoldable pub nine_from : (description image : List ℕ) → (n i : ℕ) → Option Refusal
nine_from d img zero i = none
nine_from d img (suc n) i = if runs_past d img i then some (image_short i (octet_before d img i)) else nine_from d img n (i + 1)

-- 10, 22 TO 26, 12 TO 15
-- 10: no such table
unfoldable pub ten : (description : List ℕ) → (manufacturer number : ℕ) → Option Refusal
ten d m k = given (not (table_given d (item_count d) m k)) no_table

-- 22 to 26: why there is no such element, or no such number (specs/Causes)
abbrev pub causes_in : (number : Bool) → (description image : List ℕ) → ElementName → List (Option Refusal)
causes_in number d img q = causes_of number d (numbers_in d img) q

-- 12: offset + length over the table's size
unfoldable pub twelve : (size offset length : ℕ) → Option Refusal
twelve size o n = given (size <? o + n) outside_table

-- 13: the table at that item not marked writable
unfoldable pub thirteen : (description image : List ℕ) → (table : ℕ) → Option Refusal
thirteen d img t = given (not (writable d img t)) not_writable

-- the TABLE of that name, among the items before n
unfoldable pub table_item : (description : List ℕ) → (n manufacturer number : ℕ) → ℕ
table_item d zero m k = 0
table_item d (suc j) m k = if is_table_named (fields_at d j) m k then j else table_item d j m k

-- 14: the n octets at p hold one of a dimension: the later start lies before the earlier end
unfoldable pub meets : (p n : ℕ) → Place → Bool
meets p n (Ok e) = max p e.start.0 <? min (p + n) (e.start.0 + e.length)
meets p n (Err r) = false

unfoldable pub some_before : (n : ℕ) → (ℕ → Bool) → Bool
some_before zero test = false
some_before (suc i) test = test i || some_before i test

unfoldable pub touches_dimension : Replies → (description image : List ℕ) → (p n : ℕ) → Bool
touches_dimension R d img p n = some_before (item_count d) (λ i. is_dimension (fields_at d i) && meets p n (R.element_place d img (alone i)))

unfoldable pub fourteen : Replies → (description image : List ℕ) → (start length : ℕ) → Option Refusal
fourteen R d img p n = given (touches_dimension R d img p n) holds_dimension

-- 15: the lent data's length isn't the element's, or the number needs more octets
unfoldable pub fifteen : (fits : Bool) → Option Refusal
fifteen fits = given (not fits) wrong_size

-- THE CALENDAR
-- 10: tables 00, 51, 54; 20: Table 51 isn't 9 octets, or Table 54 isn't of the size that Table 51 says
unfoldable pub twenty : (order : ℕ) → (table51 table54 : List ℕ) → Option Refusal
twenty o a b = given (not (length a =? 9 && length b =? table54_size (controls_of o a))) not_a_calendar

unfoldable pub of_calendar : Replies → (description image : List ℕ) → List (Option Refusal)
of_calendar R d img = ten d 0 0 ∷ ten d 0 51 ∷ ten d 0 54 ∷ twenty (data_order img) (R.table_part d img 0 51) (R.table_part d img 0 54) ∷ []

-- 19: season or special schedule without a row or column
unfoldable pub nineteen : Controls → (special : Chosen) → (season : ℕ) → Option Refusal
nineteen c x s = given (c.seasons ≤? s || missing_special c x) no_row_or_column

-- 16: not a real date or not a time; 18: SEASON_CHNG_ARMED_FLAG set; then that
unfoldable pub sixteen_to_nineteen : (order : ℕ) → Controls → (table54 : List ℕ) → Moment → List (Option Refusal)
sixteen_to_nineteen o c t w =
    given (not (real_date w.year w.month w.day && real_time w.hour w.minute)) not_a_date
    ∷ given c.armed season_change_armed
    ∷ nineteen c (special_on (day_number w.year w.month w.day) (dates_of o c t)) (in_season (season_on (day_number w.year w.month w.day) (dates_of o c t)))
    ∷ []

-- by the octets of the two tables
unfoldable pub of_moment : Replies → (description image : List ℕ) → Moment → List (Option Refusal)
of_moment R d img w = sixteen_to_nineteen (data_order img) (controls_of (data_order img) (R.table_part d img 0 51)) (R.table_part d img 0 54) w

-- of a date without a time, 16 alone
unfoldable pub sixteen : Date → List (Option Refusal)
sixteen t = given (not (real_date t.year t.month t.day)) not_a_date ∷ []

-- ORDER: EACH QUESTION'S REFUSALS
unfoldable pub refusals_of : Replies → Question → (description image : List ℕ) → List (Option Refusal)
refusals_of R ask.check d img = refusal_in (verdict_reply (R.check d)) ∷ []
refusals_of R ask.layout d img = refusal_in (verdict_reply (R.check d)) ∷ eight img ∷ nine_from d img (item_count d) 0 ∷ []
refusals_of R (ask.table_place m k) d img = refusal_in (R.layout d img) ∷ ten d m k ∷ []
refusals_of R (ask.table_part m k) d img = refusal_in (R.layout d img) ∷ ten d m k ∷ []
refusals_of R (ask.element_place q) d img = refusal_in (R.layout d img) ∷ causes_in false d img q
refusals_of R (ask.element_part q) d img = refusal_in (R.layout d img) ∷ causes_in false d img q
refusals_of R (ask.element_number q) d img = refusal_in (R.layout d img) ∷ causes_in true d img q
refusals_of R (ask.write_range m k o new) d img =
    refusal_in (R.layout d img)
    ∷ ten d m k
    ∷ twelve (place_length (R.table_place d img m k)) o.0 (length new)
    ∷ thirteen d img (table_item d (item_count d) m k)
    ∷ fourteen R d img (place_start (R.table_place d img m k) + o.0) (length new)
    ∷ []
refusals_of R (ask.write_octets q new) d img =
    refusal_in (R.layout d img)
    ∷ causes_in false d img q
    ++ thirteen d img (table_around d q.item)
    ∷ fourteen R d img (place_start (R.element_place d img q)) (place_length (R.element_place d img q))
    ∷ fifteen (length new =? place_length (R.element_place d img q))
    ∷ []
refusals_of R (ask.write_number q x) d img =
    refusal_in (R.layout d img)
    ∷ causes_in true d img q
    ++ thirteen d img (table_around d q.item)
    ∷ fourteen R d img (place_start (R.element_place d img q)) (place_length (R.element_place d img q))
    ∷ fifteen (x <? 256 ^ place_length (R.element_place d img q))
    ∷ []
refusals_of R (ask.tier w q) d img = refusal_in (R.layout d img) ∷ of_calendar R d img ++ of_moment R d img w
refusals_of R ask.matrix d img = refusal_in (R.layout d img) ∷ of_calendar R d img
refusals_of R (ask.seasoned t) d img = refusal_in (R.layout d img) ∷ of_calendar R d img ++ sixteen t
refusals_of R (ask.read_range m k o n) d img = refusal_in (R.layout d img) ∷ ten d m k ∷ twelve (place_length (R.table_place d img m k)) o.0 n ∷ []
refusals_of R (ask.weekday t) d img = sixteen t

-- AN ANSWER OR ONE OF THE NUMBERED REFUSALS: number, item, octet and depth; then the answer's own values, 0 on refusal
-- the numbers of the table; 2 to 7 report the item, 9 the item and octet, 25 the depth, others nothing more
pub record OnPaper (r : Refusal) : Type 0 where
  pub listed : is_given r.number ≡ true
  pub at_item : reports_item r.number ≡ false → r.item ≡ 0
  pub at_octet : reports_octet r.number ≡ false → r.octet ≡ 0
  pub at_depth : reports_depth r.number ≡ false → r.depth ≡ 0

pub record Refused (r : Refusal) (t : Told) : Type 0 where
  pub are : t ≡ refused_with r
  pub on_paper : OnPaper r

abbrev pub Numbered : Option Refusal → Told → Type 0
Numbered none t = t.refusal ≡ nothing_refused
Numbered (some r) t = Refused r t

-- A QUESTION: refused by the first of its refusals that is given, answered where none is; by its numbers; and no octet changes where it is refused
pub record Asked (R : Replies) (d img : List ℕ) (q : Question) : Type 0 where
  pub first : refusal_in (outcome_by R q d img).reply ≡ first_of (refusals_of R q d img)
  pub numbered : Numbered (refusal_in (outcome_by R q d img).reply) (told_by (outcome_by R q d img).reply)
  pub unchanged : (r : Refusal) → refusal_in (outcome_by R q d img).reply ≡ some r → (outcome_by R q d img).image ≡ img

-- THE REPLIES THAT ARE OCTETS, where they are refused: a part of the image is empty, all cells of the matrix are 0, and of cells lent to be written none changes
pub record NoOctets (R : Replies) (d img : List ℕ) : Type 0 where
  pub table_part : (m k : ℕ) (r : Refusal) → R.table_place d img m k ≡ Err r → R.table_part d img m k ≡ []
  pub element_part : (q : ElementName) (r : Refusal) → R.element_place d img q ≡ Err r → R.element_part d img q ≡ []
  pub range_part : (m k : ℕ) (o : TableOffset) (n : ℕ) (r : Refusal) → R.read_range d img m k o n ≡ Err r → R.range_part d img m k o n ≡ []
  pub matrix : (r : Refusal) → R.matrix_verdict d img ≡ Err r → R.matrix d img ≡ replicate 15 (replicate 22 0)
  pub matrix_cells : (r : Refusal) → R.matrix_verdict d img ≡ Err r → (lent : List (List ℕ)) → R.matrix_cells d img lent ≡ lent

-- ALL OF IT
pub record Demand1 (R : Replies) (d img : List ℕ) : Type 0 where
  pub asked : (q : Question) → Asked R d img q
  pub rules : CheckSays d (R.check d)
  pub octets : NoOctets R d img
