-- DEMAND 2: "Reads, writes and the calendar follow C12.19-1997 as condensed in document 01. Over a passed description and an image that lays out, a write is accepted
-- exactly when its table or element exists, its range, length or number fits, the table is writable and no dimension octet is touched. Afterwards reading that
-- place gives what was written, and every other octet is the same."
-- Each clause is one named statement over any family of replies R. A table or an element exists only over a passed description and an image that lays out, so the statements
-- need not assume them. proofs/Demand2.antt proves every statement here of our replies, for every description and image.
use Rattle.std.specs.Prelude.{ℕ, ◌+◌, ◌^◌, ◌<◌, ◌≤◌, ◌≡◌, ◌⊎◌, true, false, List, length, get_or, Ok, Err}
use Rattle.offsets.specs.declared.TableOffset.{TableOffset}
use Rattle.meaning.specs.Basics.{part}
use Rattle.meaning.specs.declared.Date.{Date}
use Rattle.meaning.specs.declared.ElementName.{ElementName}
use Rattle.meaning.specs.declared.Moment.{Moment}
use Rattle.meaning.specs.declared.Quantity.{Quantity}
use Rattle.meaning.specs.declared.Refusal.{Refusal}
use Rattle.meaning.specs.declared.Triple.{Triple}
use Rattle.meaning.specs.Description.{item_count, fields_at, is_table, is_uint, is_dimension, is_table_named}
use Rattle.meaning.specs.Passed.{Exactly}
use Rattle.meaning.specs.Layout.{data_order, number_at}
use Rattle.meaning.specs.Refusals.{writable}
use Rattle.almanac.specs.Choices.{SeasonSays, SpecialSays}
use Rattle.almanac.specs.Days.{Days}
use Rattle.demands.specs.Calendar.{TierSays, SeasonedSays, MatrixSays, WeekdaysSay}
use Rattle.demands.specs.Demand3.{Holds, InBody}
use Rattle.demands.specs.Replies.{Replies, octets_at}
use Rattle.meaning.specs.Values.{Verdict, passed}
use Rattle.meaning.specs.declared.Answer.{Answer}

-- NO DIMENSION OCTET IS TOUCHED by the n octets from p on: an element that holds one of them sets no slot
abbrev pub NoDimension : Replies → (description image : List ℕ) → (p n : ℕ) → Type 0
NoDimension R d img p n = (x : ℕ) → p ≤ x → x < p + n → (q : ElementName) → Holds R d img q x → is_dimension (fields_at d q.item) ≡ false

-- THE TABLE IS WRITABLE: the one of that manufacturer bit and number
pub record TableWritable (d img : List ℕ) (m k : ℕ) : Type 0 where
  pub item : ℕ
  pub there : item < item_count d
  pub is : is_table_named (fields_at d item) m k ≡ true
  pub marked : writable d img item ≡ true

-- and the one that item j stands in
pub record RoundWritable (d img : List ℕ) (j : ℕ) : Type 0 where
  pub item : ℕ
  pub is : is_table (fields_at d item) ≡ true
  pub round : InBody d item j
  pub marked : writable d img item ≡ true

-- WHAT MAY BE WRITTEN
-- n octets from offset o on of a table that exists: the range lies in the table
pub record RangeGood (R : Replies) (d img : List ℕ) (m k o n : ℕ) : Type 0 where
  pub start : ℕ
  pub size : ℕ
  pub exists : R.table_place d img m k ≡ octets_at start size
  pub fits : o + n ≤ size
  pub allowed : TableWritable d img m k
  pub free : NoDimension R d img (start + o) n

-- an element that exists, where what is to be written fits its length
pub record ElementGood (R : Replies) (d img : List ℕ) (q : ElementName) (Fits : ℕ → Type 0) : Type 0 where
  pub start : ℕ
  pub size : ℕ
  pub exists : R.element_place d img q ≡ octets_at start size
  pub fits : Fits size
  pub allowed : RoundWritable d img q.item
  pub free : NoDimension R d img start size

-- its octets: as many as the element has
abbrev pub OctetsGood : Replies → (description image : List ℕ) → ElementName → (n : ℕ) → Type 0
OctetsGood R d img q n = ElementGood R d img q (λ size. n ≡ size)

-- its number: of an integer, and of no more octets than that has
abbrev pub NumberGood : Replies → (description image : List ℕ) → ElementName → (x : ℕ) → Type 0
NumberGood R d img q x = (is_uint (fields_at d q.item) ≡ true) × ElementGood R d img q (λ size. x < 256 ^ size)

-- EVERY OTHER OCTET IS THE SAME: all but the n from p on
pub record OthersSame (img later : List ℕ) (p n : ℕ) : Type 0 where
  pub long : length later ≡ length img
  pub same : (x : ℕ) → (x < p) ⊎ (p + n ≤ x) → get_or later x 0 ≡ get_or img x 0

-- A REFUSED CALL CHANGES NO OCTET
abbrev pub Unchanged : Verdict → (image later : List ℕ) → Type 0
Unchanged v img later = (r : Refusal) → v ≡ Err r → later ≡ img

-- WRITE A RANGE OF A TABLE
pub record RangeWrites (R : Replies) (d img : List ℕ) (m k : ℕ) (o : TableOffset) (new : List ℕ) : Type 0 where
  pub accepted : Exactly (R.write_range d img m k o new ≡ passed) (RangeGood R d img m k o.0 (length new))
  pub read_back : R.write_range d img m k o new ≡ passed → part (R.table_part d (R.range_image d img m k o new) m k) o.0 (length new) ≡ new
  pub others : (p n : ℕ) → R.write_range d img m k o new ≡ passed → R.table_place d img m k ≡ octets_at p n
      → OthersSame img (R.range_image d img m k o new) (p + o.0) (length new)
  pub unchanged : Unchanged (R.write_range d img m k o new) img (R.range_image d img m k o new)

-- WRITE AN ELEMENT'S OCTETS
pub record OctetsWrites (R : Replies) (d img : List ℕ) (q : ElementName) (new : List ℕ) : Type 0 where
  pub accepted : Exactly (R.write_octets d img q new ≡ passed) (OctetsGood R d img q (length new))
  pub read_back : R.write_octets d img q new ≡ passed → R.element_part d (R.octets_image d img q new) q ≡ new
  pub others : (p n : ℕ) → R.write_octets d img q new ≡ passed → R.element_place d img q ≡ octets_at p n → OthersSame img (R.octets_image d img q new) p n
  pub unchanged : Unchanged (R.write_octets d img q new) img (R.octets_image d img q new)

-- WRITE AN ELEMENT'S NUMBER. What is written are octets: lists of numbers stand for memory, so that has to be said
pub record NumberWrites (R : Replies) (d img : List ℕ) (q : ElementName) (x : ℕ) : Type 0 where
  pub accepted : Exactly (R.write_number d img q x ≡ passed) (NumberGood R d img q x)
  pub read_back : R.write_number d img q x ≡ passed → R.element_number d (R.number_image d img q x) q ≡ Ok (Answer.Number x)
  pub octets : (p n : ℕ) → R.write_number d img q x ≡ passed → R.element_place d img q ≡ octets_at p n
      → (y : ℕ) → p ≤ y → y < p + n → get_or (R.number_image d img q x) y 0 < 256
  pub others : (p n : ℕ) → R.write_number d img q x ≡ passed → R.element_place d img q ≡ octets_at p n → OthersSame img (R.number_image d img q x) p n
  pub unchanged : Unchanged (R.write_number d img q x) img (R.number_image d img q x)

-- READS: the octets of the place that is told, of a range that lies in its table from the offset on, and of an integer the number that they make in the image's DATA_ORDER. On refusal see specs/Demand1
pub record Reads (R : Replies) (d img : List ℕ) : Type 0 where
  pub table : (m k p n : ℕ) → R.table_place d img m k ≡ octets_at p n → R.table_part d img m k ≡ part img p n
  pub element : (q : ElementName) (p n : ℕ) → R.element_place d img q ≡ octets_at p n → R.element_part d img q ≡ part img p n
  pub number : (q : ElementName) (p n : ℕ) → R.element_place d img q ≡ octets_at p n → is_uint (fields_at d q.item) ≡ true
      → R.element_number d img q ≡ Ok (Answer.Number (number_at img p n))
  pub range : (m k p size : ℕ) (o : TableOffset) (n : ℕ) → R.table_place d img m k ≡ octets_at p size → o.0 + n ≤ size
      → R.read_range d img m k o n ≡ octets_at (p + o.0) n
  pub range_part : (m k : ℕ) (o : TableOffset) (n p l : ℕ) → R.read_range d img m k o n ≡ octets_at p l → R.range_part d img m k o n ≡ part img p l

-- THE CALENDAR: the tier, by the octets of tables 51 and 54 as the tables' parts give them, and whether a season record stands and the matrix by the same; the weekday of every date, whatever
-- description and image are; days and weekdays as they are numbered, and which record chooses season and special schedule, by which refusal 19 goes (crate almanac, specs/)
pub record Calendar (R : Replies) (d img : List ℕ) : Type 0 where
  pub tier : (w : Moment) (q : Quantity)
      → TierSays (data_order img) (R.table_part d img 0 51) (R.table_part d img 0 54) (R.matrix_verdict d img) w q (R.tier d img w q)
  pub matrix : MatrixSays (data_order img) (R.table_part d img 0 51) (R.table_part d img 0 54) (R.matrix_verdict d img) (R.matrix d img) (R.matrix_cells d img)
  pub seasoned : (t : Date)
      → SeasonedSays (data_order img) (R.table_part d img 0 51) (R.table_part d img 0 54) (R.matrix_verdict d img) t (R.seasoned d img t)
  pub weekdays : WeekdaysSay R.weekday
  pub days : Days
  pub season : (day : ℕ) (dates : List Triple) → SeasonSays day dates
  pub special : (day : ℕ) (dates : List Triple) → SpecialSays day dates

-- ALL OF IT
pub record Demand2 (R : Replies) (d img : List ℕ) : Type 0 where
  pub reads : Reads R d img
  pub calendar : Calendar R d img
  pub range : (m k : ℕ) (o : TableOffset) (new : List ℕ) → RangeWrites R d img m k o new
  pub octets : (q : ElementName) (new : List ℕ) → OctetsWrites R d img q new
  pub number : (q : ElementName) (x : ℕ) → NumberWrites R d img q x
