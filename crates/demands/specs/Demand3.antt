-- DEMAND 3: "A description is passed exactly when it meets document 01's rules. A passed one, over any image of at most 65,535 octets, never meets a dimension not yet
-- read, a bit outside its element or an array of unequal elements: it lays out, or is refused as short exactly where the walk first runs past the end. Laid
-- out, every octet below the total lies in exactly one element; after an accepted write every element stands where it stood."
-- Each clause is one named statement over any family of replies R, by the rules in words (specs/Rules) and the walk in words (specs/Walk). proofs/Demand3.antt proves every
-- statement here of our replies, for every description and image.
use Rattle.std.specs.Prelude.{ℕ, zero, suc, ◌+◌, ◌<◌, ◌≤◌, ◌≡◌, ◌⊎◌, true, false, List, [], ◌∷◌, length, if◌then◌else◌, Ok, Err}
use Rattle.offsets.specs.declared.TableOffset.{TableOffset}
use Rattle.meaning.specs.declared.ElementName.{ElementName}
use Rattle.meaning.specs.Causes.{subscripts_of}
use Rattle.meaning.specs.Description.{item_count, fields_at, is_table, is_table_named}
use Rattle.meaning.specs.Passed.{Exactly, end_of}
use Rattle.meaning.specs.Layout.{Placed, Seat, unread_dimension, bit_outside, unequal_elements, no_item, stopped_at, lay_out, leaf_octets, Numbers, value}
use Rattle.meaning.specs.Numbers.{image_short}
use Rattle.meaning.specs.Questions.{refusal_in}
use Rattle.meaning.specs.Refusals.{place_reply}
use Rattle.laying.specs.Cover.{Follow}
use Rattle.laying.specs.Every.{Every}
use Rattle.demands.specs.Causes.{CausesSay}
use Rattle.demands.specs.Replies.{Replies, octets_at, alone}
use Rattle.demands.specs.Rules.{MeetsRules}
use Rattle.demands.specs.Walk.{octet_before, octets_in, numbers_in, runs_past, FirstPast, exists, way_to, Earlier}
use Rattle.meaning.specs.Values.{passed}
use Rattle.meaning.specs.declared.Answer.{Answer}

-- A DESCRIPTION IS PASSED EXACTLY WHEN IT MEETS THE RULES
abbrev pub PassedExactly : Replies → (description : List ℕ) → Type 0
PassedExactly R d = Exactly (R.check d ≡ passed) (MeetsRules d)

-- a passed description, and an image of at most 65,535 octets
pub record Passed (R : Replies) (d img : List ℕ) : Type 0 where
  pub passes : R.check d ≡ passed
  pub allowed : length img ≤ 65535

-- IT NEVER MEETS A DIMENSION NOT YET READ, A BIT OUTSIDE ITS ELEMENT OR AN ARRAY OF UNEQUAL ELEMENTS, nor an item that has no place
pub record NoneMet (d img : List ℕ) : Type 0 where
  pub unread : (es : List Placed) (i : ℕ) → lay_out d img ≡ stopped_at es (unread_dimension i) → ⊥
  pub outside : (es : List Placed) (i : ℕ) → lay_out d img ≡ stopped_at es (bit_outside i) → ⊥
  pub unequal : (es : List Placed) (i : ℕ) → lay_out d img ≡ stopped_at es (unequal_elements i) → ⊥
  pub stray : (es : List Placed) (i : ℕ) → lay_out d img ≡ stopped_at es (no_item i) → ⊥

-- IT LAYS OUT, OR IS REFUSED AS SHORT
pub record LaysOut (R : Replies) (d img : List ℕ) : Type 0 where
  pub total : ℕ
  pub reply : R.layout d img ≡ Ok (Answer.Total total)

pub record IsShort (R : Replies) (d img : List ℕ) : Type 0 where
  pub item : ℕ
  pub octet : ℕ
  pub reply : R.layout d img ≡ Err (image_short item octet)

abbrev pub LaysOrShort : Replies → (description image : List ℕ) → Type 0
LaysOrShort R d img = LaysOut R d img ⊎ IsShort R d img

-- SHORT EXACTLY WHERE THE WALK FIRST RUNS PAST THE END: at the first piece whose end is past the image
abbrev pub ShortExactly : Replies → (description image : List ℕ) → Type 0
ShortExactly R d img = (i p : ℕ) → Exactly (R.layout d img ≡ Err (image_short i p)) (FirstPast d img i p)

-- LAID OUT EXACTLY WHERE EVERY PIECE ENDS INSIDE THE IMAGE; the total is the end of the last, and so inside it
pub record AllInside (d img : List ℕ) (total : ℕ) : Type 0 where
  pub pieces : (i : ℕ) → i < item_count d → runs_past d img i ≡ false
  pub ends : octets_in d img ≡ total
  pub inside : total ≤ length img

abbrev pub TotalExactly : Replies → (description image : List ℕ) → Type 0
TotalExactly R d img = (total : ℕ) → Exactly (R.layout d img ≡ Ok (Answer.Total total)) (AllInside d img total)

-- WHERE A TABLE IS: from the end of the pieces before it to the end of its own
pub record Seated (d img : List ℕ) (m k p n : ℕ) : Type 0 where
  pub item : ℕ
  pub there : item < item_count d
  pub is : is_table_named (fields_at d item) m k ≡ true
  pub starts : octet_before d img item ≡ p
  pub ends : octet_before d img (end_of d item) ≡ p + n

abbrev pub TablesStand : Replies → (description image : List ℕ) → Type 0
TablesStand R d img = (m k p n : ℕ) → Exactly (R.table_place d img m k ≡ octets_at p n) (Seated d img m k p n)

-- WHICH ELEMENTS THERE ARE, AND HOW LONG, where slots have the numbers v
-- as long as its item says: a UINT or BLOCK by its octets, a SET by the number of its dimension
abbrev pub length_in : (description : List ℕ) → Numbers → (i : ℕ) → ℕ
length_in d v i = leaf_octets (fields_at d i) (value v (fields_at d i))

-- the element of that name holds octet x
pub record Holds (R : Replies) (d img : List ℕ) (q : ElementName) (x : ℕ) : Type 0 where
  pub start : ℕ
  pub size : ℕ
  pub reply : R.element_place d img q ≡ octets_at start size
  pub from : start ≤ x
  pub to : x < start + size

-- two names of one element: places past the count aren't read
pub record SameName (q r : ElementName) : Type 0 where
  pub item : q.item ≡ r.item
  pub subscripts : subscripts_of q ≡ subscripts_of r

pub record OneElement (R : Replies) (d img : List ℕ) (x : ℕ) : Type 0 where
  pub name : ElementName
  pub places : length name.subscripts ≡ 4
  pub holds : Holds R d img name x
  pub only : (r : ElementName) → Holds R d img r x → SameName name r

pub record ElementsStand (R : Replies) (d img : List ℕ) (total : ℕ) : Type 0 where
  -- EVERY OCTET BELOW THE TOTAL LIES IN EXACTLY ONE ELEMENT, AND NONE AT OR PAST IT IN ANY
  pub one : (x : ℕ) → x < total → OneElement R d img x
  pub ends : (q : ElementName) (p n : ℕ) → R.element_place d img q ≡ octets_at p n → p + n ≤ total
  -- THE DIMENSIONS have the numbers that the number question answers
  pub dimensions : (i : ℕ) → i < item_count d → 0 < (fields_at d i).sets → R.element_number d img (alone i) ≡ Ok (Answer.Number (numbers_in d img (fields_at d i).sets))
  -- each name that there is has an element, of its length
  pub there : (q : ElementName) → exists d (numbers_in d img) q ≡ true → (p : ℕ) × (R.element_place d img q ≡ octets_at p (length_in d (numbers_in d img) q.item))
  -- no other has, and the first cause is told; of a number too
  pub no_element : (q : ElementName) → CausesSay false d (numbers_in d img) q (refusal_in (place_reply (R.element_place d img q)))
  pub no_number : (q : ElementName) → CausesSay true d (numbers_in d img) q (refusal_in (R.element_number d img q))
  -- THE DESCRIPTION'S ORDER: items of a body one after another, an array's elements one after another
  pub order : (q r : ElementName) (p n x m : ℕ) → R.element_place d img q ≡ octets_at p n → R.element_place d img r ≡ octets_at x m → Earlier (way_to d q) (way_to d r) → p + n ≤ x

-- THE TOTAL IS THE END OF THE LAST TABLE, AND TABLES FOLLOW ONE ANOTHER from octet 0 without gaps: all TABLEs of the description, in its order, each where
-- the reply says
-- the TABLEs among the n items from i on
unfoldable pub tables_from : (description : List ℕ) → (n i : ℕ) → List ℕ
tables_from d zero i = []
tables_from d (suc n) i = if is_table (fields_at d i) then i ∷ tables_from d n (i + 1) else tables_from d n (i + 1)

unfoldable pub items_of : List Seat → List ℕ
items_of [] = []
items_of (t ∷ ts) = t.item ∷ items_of ts

pub record Told (R : Replies) (d img : List ℕ) (t : Seat) : Type 0 where
  pub reply : R.table_place d img (fields_at d t.item).manufacturer (fields_at d t.item).number ≡ octets_at t.start t.size

pub record TablesFollow (R : Replies) (d img : List ℕ) (total : ℕ) : Type 0 where
  pub seats : List Seat
  pub all : items_of seats ≡ tables_from d (item_count d) 0
  pub told : Every (Told R d img) seats
  pub follow : Follow 0 seats total

-- EACH TABLE'S ELEMENTS MAKE UP THE TABLE: of the elements that hold octets, those that stand in the table, by their item, are those whose octets lie in it.
-- With the clause before, every octet of the table lies in exactly one of them
abbrev pub InBody : (description : List ℕ) → (table item : ℕ) → Type 0
InBody d i j = (i < j) × (j < i + 1 + (fields_at d i).first)

abbrev pub TableMadeUp : Replies → (description image : List ℕ) → Type 0
TableMadeUp R d img = (i p n : ℕ) → i < item_count d → is_table (fields_at d i) ≡ true
    → R.table_place d img (fields_at d i).manufacturer (fields_at d i).number ≡ octets_at p n
    → (q : ElementName) (x : ℕ) → Holds R d img q x → Exactly (InBody d i q.item) ((p ≤ x) × (x < p + n))

-- AFTER A WRITE EVERY TABLE AND ELEMENT STANDS WHERE IT STOOD: the replies of layout, table and where are the same for every question. That an accepted write
-- writes at all is demand 2's (specs/Demand2)
pub record StaysPut (R : Replies) (d img later : List ℕ) : Type 0 where
  pub total : R.layout d later ≡ R.layout d img
  pub tables : (m k : ℕ) → R.table_place d later m k ≡ R.table_place d img m k
  pub elements : (q : ElementName) → R.element_place d later q ≡ R.element_place d img q

pub record WritesStayPut (R : Replies) (d img : List ℕ) : Type 0 where
  pub range : (m k : ℕ) (o : TableOffset) (new : List ℕ) → StaysPut R d img (R.range_image d img m k o new)
  pub octets : (q : ElementName) (new : List ℕ) → StaysPut R d img (R.octets_image d img q new)
  pub number : (q : ElementName) (x : ℕ) → StaysPut R d img (R.number_image d img q x)

-- ALL OF IT
pub record Demand3 (R : Replies) (d img : List ℕ) : Type 0 where
  pub passed_exactly : PassedExactly R d
  pub none_met : Passed R d img → NoneMet d img
  pub lays_or_short : Passed R d img → LaysOrShort R d img
  pub short_exactly : Passed R d img → ShortExactly R d img
  pub total_exactly : Passed R d img → TotalExactly R d img
  pub tables_stand : (total : ℕ) → R.layout d img ≡ Ok (Answer.Total total) → TablesStand R d img
  pub elements_stand : (total : ℕ) → R.layout d img ≡ Ok (Answer.Total total) → ElementsStand R d img total
  pub tables_follow : (total : ℕ) → R.layout d img ≡ Ok (Answer.Total total) → TablesFollow R d img total
  pub table_made_up : TableMadeUp R d img
  pub writes_stay_put : WritesStayPut R d img
