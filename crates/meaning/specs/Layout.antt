-- LAYING OUT: the section of that name in document 01.
-- A description is read into a tree, each item with the bodies inside it. Laying the tree over an image gives the list of the elements that the image holds,
-- each with its name and its place. What a passed description never meets (a dimension not read yet, a bit outside its element, an array of unequal
-- elements) is an outcome of its own here, as is the short image, so that nothing is assumed of the description.
use Rattle.std.specs.Prelude.{ℕ, zero, suc, ◌+◌, ◌-◌, ◌*◌, ◌/◌, ◌%◌, ◌^◌, Bool, true, false, ◌&&◌, List, [], ◌∷◌, ◌++◌, length, get_or, if◌then◌else◌}
use Rattle.std.proofs.Math.Option.{Option, some, none}
use Rattle.meaning.specs.Basics.{◌=?◌, ◌≤?◌, ◌<?◌, bits, part, number_in}
use Rattle.meaning.specs.declared.Fields.{Fields}
use Rattle.meaning.specs.declared.Inner.{Inner}
use Rattle.meaning.specs.Description.{item_count, fields_at, is_table, is_element, is_array, is_choice, nested, refers}

-- THE TREE OF A DESCRIPTION
mutual
  -- an item with its number and fields, and the bodies inside it
  pub data Node : Type 0 where
    -- a UINT, BLOCK or SET
    leaf : (item : ℕ) → Fields → Node
    array : (item : ℕ) → Fields → Body → Node
    choice : (item : ℕ) → Fields → Arms → Node
    -- no item of a body, or one whose body runs past what encloses it
    stray : (item : ℕ) → Node

  pub data Body : Type 0 where
    done : Body
    more : Node → Body → Body

  -- the arms of a choice: the body of the first whose test on the value holds is taken, or else that of the last
  pub data Arms : Type 0 where
    last_arm : Body → Arms
    arm : (test : ℕ → Bool) → Body → Arms → Arms

-- the tables, one after another, each with its item and fields
pub data Tables : Type 0 where
  no_more : Tables
  table : (item : ℕ) → Fields → Body → Tables → Tables
  -- no TABLE where one should stand, or one whose body runs past the description
  stray_table : (item : ℕ) → Tables

-- THE BRANCHES OF A CHOICE: the arms by their items, each with its test on the value, and the last, taken where no test holds
pub data Branches : Type 0 where
  otherwise : Inner → Branches
  branch : (test : ℕ → Bool) → Inner → Branches → Branches

-- IF: nonzero is true, and its false items follow its true items
unfoldable pub if_branches : Fields → Branches
if_branches f = branch (λ x. 0 <? x) (record { skip = 0; items = f.first }) (otherwise (record { skip = f.first; items = f.second }))

-- of a choice that is f, with its items from item `first` on: an IF tells them by its fields alone
unfoldable pub branches_in : (description : List ℕ) → Fields → (first : ℕ) → Branches
branches_in d f first = if_branches f

-- of the choice at item `at`
abbrev pub branches_of : (description : List ℕ) → (at : ℕ) → Branches
branches_of d at = branches_in d (fields_at d at) (at + 1)

-- the branch taken for a value
unfoldable pub taken : Branches → (value : ℕ) → Inner
taken (otherwise c) x = c
taken (branch t c rest) x = if t x then c else taken rest x

-- a body inside item `at`; `inner at n` is the body of n items from `at` on, one level down
abbrev pub body_in : (inner : ℕ → ℕ → Body) → (at : ℕ) → Inner → Body
body_in inner at c = inner (at + 1 + c.skip) c.items

unfoldable pub arms_of : (inner : ℕ → ℕ → Body) → (at : ℕ) → Branches → Arms
arms_of inner at (otherwise c) = last_arm (body_in inner at c)
arms_of inner at (branch t c rest) = arm t (body_in inner at c) (arms_of inner at rest)

-- the one body of an ARRAY
abbrev pub only_body : Fields → Inner
only_body f = record { skip = 0; items = f.first }

-- the item `at`, which is f, with n items after it in its body; b are its branches if it is a choice
unfoldable pub node_of : (inner : ℕ → ℕ → Body) → Fields → Branches → (at n : ℕ) → Node
node_of inner f b at n =
    if n <? nested f then stray at
    else if is_element f then leaf at f
    else if is_array f then array at f (body_in inner at (only_body f))
    else if is_choice f then choice at f (arms_of inner at b)
    else stray at

-- the n items from `at` on, of which the first `skip` stand inside an item before them
unfoldable pub body_of : (inner : ℕ → ℕ → Body) → (description : List ℕ) → (n skip at : ℕ) → Body
body_of inner d zero skip at = done
body_of inner d (suc n) (suc skip) at = body_of inner d n skip (at + 1)
body_of inner d (suc n) zero at = more (node_of inner (fields_at d at) (branches_of d at) at n) (body_of inner d n (nested (fields_at d at)) (at + 1))

-- bodies stand inside bodies, at most `depth` deep; a deeper one is none
unfoldable pub body_at : (depth : ℕ) → (description : List ℕ) → (at n : ℕ) → Body
body_at zero d at n = body_of (λ a m. more (stray a) done) d n zero at
body_at (suc k) d at n = body_of (body_at k d) d n zero at

-- the table at item `at`, with n items after it and the tables that follow
unfoldable pub table_at : (description : List ℕ) → Fields → (at n : ℕ) → Tables → Tables
table_at d f at n rest = if is_table f && f.first ≤? n then table at f (body_at 4 d (at + 1) f.first) rest else stray_table at

-- the tables among the n items from `at` on, of which the first `skip` stand inside a table before them
unfoldable pub tables_of : (description : List ℕ) → (n skip at : ℕ) → Tables
tables_of d zero skip at = no_more
tables_of d (suc n) (suc skip) at = tables_of d n skip (at + 1)
tables_of d (suc n) zero at = table_at d (fields_at d at) at n (tables_of d n (nested (fields_at d at)) (at + 1))

unfoldable pub tree_of : (description : List ℕ) → Tables
tree_of d = tables_of d (item_count d) 0 0

-- SLOTS AND REFERENCES
-- a slot: its dimension not read yet, or read as a number of so many octets
pub data Slot : Type 0 where
  unread : Slot
  holds : (octets number : ℕ) → Slot

abbrev pub Slots : Type 0
Slots = ℕ → Slot

-- slot k set; slot 0 is none
unfoldable pub set_slot : (k : ℕ) → Slot → Slots → Slots
set_slot zero x s = s
set_slot (suc k) x s = λ j. if j =? suc k then x else s j

-- a reference's value is that bit range of the slot's number, bit 0 being least significant
unfoldable pub bit_range : (number : ℕ) → Fields → ℕ
bit_range x f = x / 2 ^ f.low % 2 ^ f.width

-- the number of each slot
abbrev pub Numbers : Type 0
Numbers = ℕ → ℕ

-- a reference's value, where slots have these numbers; 0 for an item without one
unfoldable pub value : Numbers → Fields → ℕ
value v f = if refers f then bit_range (v f.slot) f else 0

-- the numbers that slots hold; 0 where none is read yet
unfoldable pub number_of : Slot → ℕ
number_of unread = 0
number_of (holds o x) = x

abbrev pub slot_numbers : Slots → Numbers
slot_numbers s = λ k. number_of (s k)

-- the octets of a SET: the value, or of flags as many as that many flags fill
unfoldable pub set_octets : (flags : Bool) → (value : ℕ) → ℕ
set_octets flags x = if flags then (x + 7) / 8 else x

-- a SET is as long as its reference's value says, a UINT or BLOCK as its octets say
unfoldable pub leaf_octets : Fields → (value : ℕ) → ℕ
leaf_octets f x = if refers f then set_octets f.flags x else f.octets

-- DATA_ORDER: bit 0 of item 1, the image's first octet. It governs every UINT of the image
unfoldable pub data_order : (image : List ℕ) → ℕ
data_order img = bits 0 0 (get_or img 0 0)

-- the number of n octets at p
unfoldable pub number_at : (image : List ℕ) → (p n : ℕ) → ℕ
number_at img p n = number_in (data_order img) (part img p n)

-- WHAT LAYING OUT COMES TO
-- an element: its item, the slot that it sets (0: none), its subscripts (outermost first), its first octet in the image and its length
pub record Placed : Type 0 where
  pub item : ℕ
  pub slot : ℕ
  pub subscripts : List ℕ
  pub start : ℕ
  pub size : ℕ

-- what a passed description never meets: a reference to a dimension not read yet, a bit outside its element, an array whose elements differ in size, no item
-- of a body
pub data Fault : Type 0 where
  not_read : Fault
  outside : Fault
  unequal : Fault
  no_place : Fault

-- what stops it: a fault, with its item; or the image is short, with the item and its starting octet
pub data Stop : Type 0 where
  fault : Fault → (item : ℕ) → Stop
  short : (item octet : ℕ) → Stop

abbrev pub unread_dimension : (item : ℕ) → Stop
unread_dimension i = fault not_read i

abbrev pub bit_outside : (item : ℕ) → Stop
bit_outside i = fault outside i

abbrev pub unequal_elements : (item : ℕ) → Stop
unequal_elements i = fault unequal i

abbrev pub no_item : (item : ℕ) → Stop
no_item i = fault no_place i

-- the elements placed, the slots and the next octet; or the elements placed before it stopped
pub data Laid : Type 0 where
  laid : List Placed → Slots → (next : ℕ) → Laid
  stopped : List Placed → Stop → Laid

-- the same, with elements before
abbrev pub also : List Placed → Laid → Laid
also ps (laid qs s p) = laid (ps ++ qs) s p
also ps (stopped qs x) = stopped (ps ++ qs) x

-- first o, then what f makes of the slots and the octet where o ends
unfoldable pub and_then : Laid → (Slots → ℕ → Laid) → Laid
and_then (laid ps s p) f = also ps (f s p)
and_then (stopped ps x) f = stopped ps x

-- what item i makes of its reference's value
unfoldable pub reading : Slot → Fields → (i : ℕ) → (ℕ → Laid) → Laid
reading unread f i g = stopped [] (unread_dimension i)
reading (holds o x) f i g = if f.low + f.width ≤? 8 * o then g (bit_range x f) else stopped [] (bit_outside i)

-- the same, where an item without a reference has the value 0
unfoldable pub valued : Slots → Fields → (i : ℕ) → (ℕ → Laid) → Laid
valued s f i g = if refers f then reading (s f.slot) f i g else g 0

-- the walk stops as short at the first UINT, BLOCK or SET outside arrays, or outermost ARRAY, that doesn't end inside the image
unfoldable pub in_image : (in_array : Bool) → (length i p : ℕ) → Laid → Laid
in_image true l i p o = o
in_image false l i p (laid ps s q) = if q ≤? l then laid ps s q else stopped [] (short i p)
in_image false l i p (stopped ps x) = stopped ps x

-- an element of n octets at p, and the slot that it sets
unfoldable pub placed : (item : ℕ) → Fields → (image : List ℕ) → Slots → (p n : ℕ) → Laid
placed i f img s p n =
    laid (record { item = i; slot = f.sets; subscripts = []; start = p; size = n } ∷ []) (set_slot f.sets (holds n (number_at img p n)) s) (p + n)

-- how many octets o takes from p on
unfoldable pub size_from : (p : ℕ) → Laid → ℕ
size_from p (laid ps s q) = q - p
size_from p (stopped ps x) = 0

-- elements of an array's element j: subscripts are outermost first
unfoldable pub under : (j : ℕ) → List Placed → List Placed
under j [] = []
under j (e ∷ es) = record { item = e.item; slot = e.slot; subscripts = j ∷ e.subscripts; start = e.start; size = e.size } ∷ under j es

-- o as element j of item i, if it takes w octets from p on: elements are of one size
unfoldable pub as_element : (i w j p : ℕ) → Laid → Laid
as_element i w j p (laid ps s q) = if q - p =? w then laid (under j ps) s q else stopped [] (unequal_elements i)
as_element i w j p (stopped ps x) = stopped (under j ps) x

-- c elements from subscript j on, each w octets long; `element` lays one
unfoldable pub repeated : (element : Slots → ℕ → Laid) → (i w c j : ℕ) → Slots → ℕ → Laid
repeated element i w zero j s p = laid [] s p
repeated element i w (suc c) j s p = and_then (as_element i w j p (element s p)) (repeated element i w c (j + 1))

-- s are the slots, p the next octet
unfoldable mutual
  -- items follow one another without gaps
  pub lay_body : Body → (image : List ℕ) → (in_array : Bool) → Slots → ℕ → Laid
  lay_body done img a s p = laid [] s p
  lay_body (more n b) img a s p = and_then (lay_node n img a s p) (λ t q. lay_body b img a t q)

  -- an array takes count times its element's size; a choice takes only the chosen body
  pub lay_node : Node → (image : List ℕ) → (in_array : Bool) → Slots → ℕ → Laid
  lay_node (leaf i f) img a s p = valued s f i (λ x. in_image a (length img) i p (placed i f img s p (leaf_octets f x)))
  lay_node (array i f b) img a s p =
      valued s f i (λ c. in_image a (length img) i p (repeated (λ t q. lay_body b img true t q) i (size_from p (lay_body b img true s p)) c 0 s p))
  lay_node (choice i f arms) img a s p = valued s f i (λ x. lay_arms arms x img a s p)
  lay_node (stray i) img a s p = stopped [] (no_item i)

  pub lay_arms : Arms → (value : ℕ) → (image : List ℕ) → (in_array : Bool) → Slots → ℕ → Laid
  lay_arms (last_arm b) x img a s p = lay_body b img a s p
  lay_arms (arm t b arms) x img a s p = if t x then lay_body b img a s p else lay_arms arms x img a s p

-- THE WHOLE IMAGE
-- a table: its item, manufacturer bit and number, its first octet in the image and its length
pub record Seat : Type 0 where
  pub item : ℕ
  pub manufacturer : ℕ
  pub number : ℕ
  pub start : ℕ
  pub size : ℕ

-- the tables and the elements, the slots, and the total; or what was placed before it stopped
pub data Layout : Type 0 where
  laid_out : List Seat → List Placed → Slots → (total : ℕ) → Layout
  stopped_at : List Placed → Stop → Layout

-- a table with its elements, before what follows it
abbrev pub before : Seat → List Placed → Layout → Layout
before t ps (laid_out ts qs s n) = laid_out (t ∷ ts) (ps ++ qs) s n
before t ps (stopped_at qs x) = stopped_at (ps ++ qs) x

-- the table of item i at p, as long as its items; then what g makes of the slots and the octet where it ends
unfoldable pub seated : (i : ℕ) → Fields → (p : ℕ) → Laid → (Slots → ℕ → Layout) → Layout
seated i f p (laid ps s q) g = before (record { item = i; manufacturer = f.manufacturer; number = f.number; start = p; size = q - p }) ps (g s q)
seated i f p (stopped ps x) g = stopped_at ps x

-- tables follow one another; the total is where the last ends
unfoldable pub lay_tables : Tables → (image : List ℕ) → Slots → ℕ → Layout
lay_tables no_more img s p = laid_out [] [] s p
lay_tables (table i f body rest) img s p = seated i f p (lay_body body img false s p) (λ t q. lay_tables rest img t q)
lay_tables (stray_table i) img s p = stopped_at [] (no_item i)

-- from octet 0, no dimension read
unfoldable pub lay_out : (description image : List ℕ) → Layout
lay_out d img = lay_tables (tree_of d) img (λ k. unread) 0

-- ELEMENTS AND TABLES BY NAME
unfoldable pub same_list : List ℕ → List ℕ → Bool
same_list [] [] = true
same_list [] (y ∷ ys) = false
same_list (x ∷ xs) [] = false
same_list (x ∷ xs) (y ∷ ys) = x =? y && same_list xs ys

-- the element of item i with those subscripts
unfoldable pub element_named : (i : ℕ) → (subscripts : List ℕ) → List Placed → Option Placed
element_named i subs [] = none
element_named i subs (e ∷ es) = if e.item =? i && same_list e.subscripts subs then some e else element_named i subs es

-- the table of that manufacturer bit and number
unfoldable pub table_named : (manufacturer number : ℕ) → List Seat → Option Seat
table_named m k [] = none
table_named m k (t ∷ ts) = if t.manufacturer =? m && t.number =? k then some t else table_named m k ts
