-- ROWS: what laying out finds for an element's item; of other items a row says nothing. Where the element of some subscripts stands is then arithmetic.
-- Assumes nothing.
use Rattle.std.specs.Prelude.{ℕ, ◌+◌, ◌*◌, false, List, [], ◌∷◌, if◌then◌else◌}
use Rattle.std.proofs.Math.Option.{Option, some, none}
use Rattle.meaning.specs.Basics.{◌=?◌, ◌<?◌}
use Rattle.meaning.specs.Layout.{Node, Body, Arms, Tables, leaf, array, choice, stray, done, more, last_arm, arm, no_more, table, stray_table, tree_of, leaf_octets}
use Rattle.meaning.specs.Layout.{Slots, unread, Placed, Laid, laid, stopped, lay_node, lay_body, element_named, Numbers, value, slot_numbers}
use Rattle.laying.specs.Sizes.{body_size, item_size}

-- an ARRAY round an element: its count, and how many octets its elements stand apart
pub record Array : Type 0 where
  pub count : ℕ
  pub stride : ℕ

-- the first octet and the length of an item's element, with the ARRAYs round it, outside in; or the item isn't one of an element that stands here
pub data Row : Type 0 where
  row : (first length : ℕ) → List Array → Row
  no_row : Row

-- WHERE AN ELEMENT IS
-- a place in an image, or none
pub data Spot : Type 0 where
  spot : (octet length : ℕ) → Spot
  absent : Spot

-- one subscript for each ARRAY, each below its count
unfoldable pub spot_in : (first length : ℕ) → List Array → (subscripts : List ℕ) → Spot
spot_in p n [] [] = spot p n
spot_in p n [] (x ∷ xs) = absent
spot_in p n (a ∷ rest) [] = absent
spot_in p n (a ∷ rest) (x ∷ xs) = if x <? a.count then spot_in (p + x * a.stride) n rest xs else absent

unfoldable pub row_spot : Row → (subscripts : List ℕ) → Spot
row_spot (row p n rest) xs = spot_in p n rest xs
row_spot no_row xs = absent

-- THE ROW OF AN ITEM
-- the one of the two that is a row
unfoldable pub first_row : Row → Row → Row
first_row (row p n rest) r = row p n rest
first_row no_row r = r

-- so many octets further on
unfoldable pub onward : (octets : ℕ) → Row → Row
onward k (row p n rest) = row (k + p) n rest
onward k no_row = no_row

-- inside an ARRAY
unfoldable pub in_array : (count stride : ℕ) → Row → Row
in_array c w (row p n rest) = row p n (record { count = c; stride = w } ∷ rest)
in_array c w no_row = no_row

-- the row of item i, counted from the first octet of a body or an item, where slots have these numbers
unfoldable mutual
  pub body_row : Body → Numbers → (i : ℕ) → Row
  body_row done v i = no_row
  body_row (more n b) v i = first_row (item_row n v i) (onward (item_size n v) (body_row b v i))

  pub item_row : Node → Numbers → (i : ℕ) → Row
  item_row (leaf j f) v i = if j =? i then row 0 (leaf_octets f (value v f)) [] else no_row
  item_row (array j f b) v i = in_array (value v f) (body_size b v) (body_row b v i)
  item_row (choice j f arms) v i = arms_row arms (value v f) v i
  item_row (stray j) v i = no_row

  pub arms_row : Arms → (value : ℕ) → Numbers → (i : ℕ) → Row
  arms_row (last_arm b) x v i = body_row b v i
  arms_row (arm t b arms) x v i = if t x then body_row b v i else arms_row arms x v i

-- OUTSIDE ARRAYS a dimension may stand before an item, so the row goes by the slots that laying out comes to
unfoldable pub row_after : Laid → (Slots → ℕ → Row) → Row
row_after (laid ps s p) f = f s p
row_after (stopped ps x) f = no_row

unfoldable mutual
  pub walk_body : Body → (image : List ℕ) → Slots → (p i : ℕ) → Row
  walk_body done img s p i = no_row
  walk_body (more n b) img s p i = first_row (walk_node n img s p i) (row_after (lay_node n img false s p) (λ t q. walk_body b img t q i))

  pub walk_node : Node → (image : List ℕ) → Slots → (p i : ℕ) → Row
  walk_node (leaf j f) img s p i = onward p (item_row (leaf j f) (slot_numbers s) i)
  walk_node (array j f b) img s p i = onward p (item_row (array j f b) (slot_numbers s) i)
  walk_node (choice j f arms) img s p i = walk_arms arms (value (slot_numbers s) f) img s p i
  walk_node (stray j) img s p i = no_row

  pub walk_arms : Arms → (value : ℕ) → (image : List ℕ) → Slots → (p i : ℕ) → Row
  walk_arms (last_arm b) x img s p i = walk_body b img s p i
  walk_arms (arm t b arms) x img s p i = if t x then walk_body b img s p i else walk_arms arms x img s p i

-- in one table after another
unfoldable pub walk_tables : Tables → (image : List ℕ) → Slots → (p i : ℕ) → Row
walk_tables no_more img s p i = no_row
walk_tables (table j f body rest) img s p i = first_row (walk_body body img s p i) (row_after (lay_body body img false s p) (λ t q. walk_tables rest img t q i))
walk_tables (stray_table j) img s p i = no_row

-- of a whole image: the first octet is counted from the image's
unfoldable pub row_of : (description image : List ℕ) → (i : ℕ) → Row
row_of d img i = walk_tables (tree_of d) img (λ k. unread) 0 i

-- THE SAME IN A LIST OF ELEMENTS
unfoldable pub spot_of : Option Placed → Spot
spot_of none = absent
spot_of (some e) = spot e.start e.size

-- where the first element of that name stands
abbrev pub seen : (i : ℕ) → (subscripts : List ℕ) → List Placed → Spot
seen i xs es = spot_of (element_named i xs es)
