-- THE WALK OVER A TABLE: what its functions promise, by what laying out comes to. Assumes nothing.
use Rattle.std.specs.Prelude.{ℕ, ◌+◌, ◌-◌, ◌<◌, ◌≤◌, min, max, ◌≡◌, Bool, false, ◌&&◌, ◌||◌, List, Option, Result, Ok, Err, IfOk, length, set, if◌then◌else◌}
use Rattle.std.specs.Option.{option_map, option_or}
use Rattle.meaning.specs.Basics.{◌=?◌, ◌≤?◌, ◌<?◌}
use Rattle.meaning.specs.Description.{item_count, fields_at, nested}
use Rattle.meaning.specs.Layout.{Slots, Placed, fault, short, Laid, laid, stopped, lay_body, lay_node, number_at, body_at, slot_numbers}
use Rattle.meaning.specs.Numbers.{image_short}
use Rattle.meaning.specs.Refusals.{any_dimension}
use Rattle.meaning.specs.declared.Refusal.{Refusal}
use Rattle.items.specs.declared.Cursor.{Cursor}
use Rattle.laying.specs.Rows.{first_row, onward, walk_body, walk_node}
use Rattle.laying.specs.Rows as def
use Rattle.laying.specs.Slots.{Matches}
use Rattle.laying.specs.Sound.{Known, FitBody, FitNode, SoundBody, SoundNode}
use Rattle.places.specs.declared.measure.Span.{Span}
use Rattle.places.specs.declared.rows.Row.{Row}
use Rattle.places.specs.declared.walk.Aim.{Aim}
use Rattle.places.specs.declared.walk.Walk.{Walk}
use Rattle.places.specs.Measuring.{numbers_in, node_in}
use Rattle.places.specs.Rows.{RowAs, onward_by}

-- READING A DIMENSION
-- at most 4 octets, inside the image
pub record Readable (img : List ℕ) (p n : ℕ) : Type 0 where
  pub few : n ≤ 4
  pub inside : p + n ≤ length img

-- the numbers of the slots with the one that a dimension sets; slot 0 is none
unfoldable pub noted : (image numbers : List ℕ) → (slot p n : ℕ) → List ℕ
noted img numbers k p n = if k =? 0 then numbers else set numbers k (number_at img p n)

-- n octets at p hold an octet of what stands at q, m octets long
abbrev pub meets : (q m p n : ℕ) → Bool
meets q m p n = max p q <? min (p + n) (q + m)

-- and that sets slot k; slot 0 is none
unfoldable pub dimension_at : (k q m p n : ℕ) → Bool
dimension_at k q m p n = 0 <? k && meets q m p n

-- A PIECE
-- the octet of the image at which a walk stands
abbrev pub place : Aim → Walk → ℕ
place a w = a.start.0 + w.octets.0

pub record StepReady (img : List ℕ) (a : Aim) (w : Walk) (piece : Span) (slot : ℕ) : Type 0 where
  pub small : length img ≤ 65535
  pub inside : place a w ≤ length img
  pub size : piece.size ≤ 65536
  pub slots : slot < 64
  pub dimension : 0 < slot → (0 < piece.size) × (piece.size ≤ 4)

-- past the piece, or 9 at it where the image is short
abbrev pub past_piece : (image : List ℕ) → Aim → Walk → Span → (slot : ℕ) → Cursor → Walk
past_piece img a w piece k next = record {
  numbers = noted img w.numbers k (place a w) piece.size;
  octets = record { 0 = w.octets.0 + piece.size };
  row = option_or w.row (option_map (onward_by w.octets.0) piece.row);
  held = w.held || dimension_at k w.octets.0 piece.size a.from.0 a.octets;
  next = next;
}

abbrev pub short_here : Aim → Walk → Refusal
short_here a w = image_short w.next.at (place a w)

unfoldable pub step_of : (image : List ℕ) → Aim → Walk → Span → (slot : ℕ) → Cursor → Result Walk Refusal
step_of img a w piece k next = if place a w + piece.size ≤? length img then Ok (past_piece img a w piece k next) else Err (short_here a w)

-- the same walk at another item
abbrev pub elsewhere : Walk → Cursor → Walk
elsewhere w next = record { numbers = w.numbers; octets = w.octets; row = w.row; held = w.held; next = next }

-- WHAT A WALK COMES TO
-- a row of the table that starts at p: r counts its octets from the image's first, c from the table's, after what was found before
pub record RowFrom (p : ℕ) (before : def.Row) (c : Option Row) (r : def.Row) : Type 0 where
  pub in_table : def.Row
  pub is : r ≡ onward p in_table
  pub row_as : RowAs 4 c (first_row before in_table)

-- elements ps laid, up to slots s and octet q
pub record WalkEnds (a : Aim) (before : def.Row) (held : Bool) (r : Walk) (row : def.Row) (ps : List Placed) (s : Slots) (q : ℕ) : Type 0 where
  pub here : place a r ≡ q
  pub numbers : slot_numbers s ≡ numbers_in r.numbers
  pub holds : r.held ≡ (held || any_dimension ps (a.start.0 + a.from.0) a.octets)
  pub row_is : RowFrom a.start.0 before r.row row

-- from a walk that had found `before` and `held`, r stands where laying out ends, with its slots, and has found what is asked for in its elements, of which
-- `row` is the row; or refuses by 9 at the item and octet that are short. Of what a passed description never meets it says nothing
abbrev pub Ends : Aim → (before : def.Row) → (held : Bool) → Result Walk Refusal → (row : def.Row) → Laid → Type 0
Ends a before held (Ok r) x (laid ps s q) = WalkEnds a before held r x ps s q
Ends a before held (Ok r) x (stopped ps (fault y i)) = Unit {0}
Ends a before held (Ok r) x (stopped ps (short i p)) = ⊥
Ends a before held (Err e) x (laid ps s q) = ⊥
Ends a before held (Err e) x (stopped ps (fault y i)) = Unit {0}
Ends a before held (Err e) x (stopped ps (short i p)) = e ≡ image_short i p

-- before a walk: the slots have their numbers, of dimensions of κ octets, and what was found is the row `before`
pub record From (s : Slots) (κ : Known) (w : Walk) (before : def.Row) : Type 0 where
  pub numbers : slot_numbers s ≡ numbers_in w.numbers
  pub matches : Matches s κ
  pub row_as : RowAs 4 w.row before

pub record WalkReady (d img : List ℕ) (a : Aim) (w : Walk) (depth : ℕ) : Type 0 where
  pub few : item_count d ≤ 512
  pub deep : depth ≤ 4
  pub small : length img ≤ 65535
  pub inside : place a w ≤ length img
  pub slots : length w.numbers ≡ 64

-- over n items, as a body at most `depth` deep
pub record WalkBodyReady (d img : List ℕ) (a : Aim) (w : Walk) (n depth : ℕ) : Type 0 where
  pub ready : WalkReady d img a w depth
  pub there : w.next.at + n ≤ item_count d
  pub fit : FitBody (body_at depth d w.next.at n)

pub record WalkItemReady (d img : List ℕ) (a : Aim) (w : Walk) (depth : ℕ) : Type 0 where
  pub ready : WalkReady d img a w depth
  pub there : w.next.at + 1 + nested (fields_at d w.next.at) ≤ item_count d
  pub fit : FitNode (node_in depth d w.next.at)

-- a walk on its way: still inside the image
pub record Walked (img : List ℕ) (a : Aim) (r : Walk) : Type 0 where
  pub inside : place a r ≤ length img
  pub slots : length r.numbers ≡ 64

pub record WalksItem (d img : List ℕ) (a : Aim) (w : Walk) (depth : ℕ) (r : Result Walk Refusal) : Type 0 where
  pub walked : IfOk r (Walked img a)
  pub moved : IfOk r (λ x. x.next.at ≡ w.next.at + 1 + nested (fields_at d w.next.at))
  pub ends : (s : Slots) (κ : Known) (free : Bool) (before : def.Row) → From s κ w before → SoundNode free κ (node_in depth d w.next.at)
      → Ends a before w.held r (walk_node (node_in depth d w.next.at) img s (place a w) a.wanted) (lay_node (node_in depth d w.next.at) img false s (place a w))

pub record WalksBody (d img : List ℕ) (a : Aim) (w : Walk) (n depth : ℕ) (r : Result Walk Refusal) : Type 0 where
  pub walked : IfOk r (Walked img a)
  pub ends : (s : Slots) (κ : Known) (free : Bool) (before : def.Row) → From s κ w before → SoundBody free κ (body_at depth d w.next.at n)
      → Ends a before w.held r (walk_body (body_at depth d w.next.at n) img s (place a w) a.wanted) (lay_body (body_at depth d w.next.at n) img false s (place a w))

-- A WALK ON ITS WAY through the n items of a body, from w on up to item `end`, now at x: what is left of the body leads where the whole does
pub record Leads (d img : List ℕ) (a : Aim) (w : Walk) (n depth : ℕ) (x : Walk) (s : Slots) (free : Bool) (before : def.Row) : Type 0 where
  pub slots : Slots
  pub known : Known
  pub row : def.Row
  pub from : From slots known x row
  pub sound : SoundBody free known (body_at depth d x.next.at (w.next.at + n - x.next.at))
  pub so : (r : Result Walk Refusal)
      → Ends a row x.held r (walk_body (body_at depth d x.next.at (w.next.at + n - x.next.at)) img slots (place a x) a.wanted)
      (lay_body (body_at depth d x.next.at (w.next.at + n - x.next.at)) img false slots (place a x))
      → Ends a before w.held r (walk_body (body_at depth d w.next.at n) img s (place a w) a.wanted) (lay_body (body_at depth d w.next.at n) img false s (place a w))

pub record OnItsWay (d img : List ℕ) (a : Aim) (w : Walk) (n depth : ℕ) (x : Walk) : Type 0 where
  pub rest : WalkBodyReady d img a x (w.next.at + n - x.next.at) depth
  pub ordered : x.next.at ≤ w.next.at + n
  pub leads : (s : Slots) (κ : Known) (free : Bool) (before : def.Row) → From s κ w before → SoundBody free κ (body_at depth d w.next.at n)
      → Leads d img a w n depth x s free before
