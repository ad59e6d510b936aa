-- DESCRIPTION ITEMS: the section of that name in document 01, and its refusals 1 to 7.
-- A description is a list of octets. The rules are said flat: item i breaks rule n, by what stands before it and what encloses it. Counts include nested
-- items, so a body is an interval of item numbers, and whatever a rule asks of an item is a search over the items before it. Assumes nothing.
use Rattle.std.specs.Prelude.{ℕ, zero, suc, ◌+◌, ◌*◌, ◌/◌, ◌%◌, Bool, false, not, ◌&&◌, ◌||◌, List, length, if◌then◌else◌, Err}
use Rattle.meaning.specs.Basics.{◌=?◌, ◌≤?◌, ◌<?◌, bits, flag, part, most_first}
use Rattle.meaning.specs.declared.Fields.{Fields}
use Rattle.meaning.specs.declared.Kind.{Kind}
use Rattle.meaning.specs.declared.Round.{Round}
use Rattle.meaning.specs.Numbers.{description_length, breaks_rule}
use Rattle.meaning.specs.Values.{Verdict, passed}

-- ITEMS
-- items of 4 octets
abbrev pub item_count : (description : List ℕ) → ℕ
item_count d = length d / 4

-- numbered from 0, first octet most significant
unfoldable pub word_at : (description : List ℕ) → (item : ℕ) → ℕ
word_at d i = most_first (part d (i * 4) 4)

-- AN ITEM'S FIELDS, each 0 where its kind has none, and no mark where it has no mark: kind; a TABLE's manufacturer bit, number and writable mark; items in its body, of an IF
-- those if true, then those if false; the slot that a UINT sets; a UINT's or BLOCK's octets; the reference's slot, low bit and width; of a SET whether its value counts flags
-- octets of its own, and the slot that they set
abbrev pub own_octets : Kind → (sets octets : ℕ) → Fields
own_octets k s o = record { kind = k; manufacturer = 0; number = 0; writable = false; first = 0; second = 0; sets = s; octets = o; slot = 0; low = 0; width = 0; flags = false }

-- a reference: 27..22 slot, 21..17 low bit, 16..12 width less 1
abbrev pub referring : Kind → (flags : Bool) → (first second word : ℕ) → Fields
referring k flags a b w = record {
  kind = k;
  manufacturer = 0;
  number = 0;
  writable = false;
  first = a;
  second = b;
  sets = 0;
  octets = 0;
  slot = bits 27 22 w;
  low = bits 21 17 w;
  width = bits 16 12 w + 1;
  flags = flags;
}

abbrev pub malformed : Fields
malformed = own_octets Kind.Malformed 0 0

-- a reference names a slot of 1 to 63
abbrev pub names_slot : (word : ℕ) → Bool
names_slot w = 0 <? bits 27 22 w

-- width code 0, 1, 2 = 1, 2, 4 octets
unfoldable pub octets_of_code : ℕ → ℕ
octets_of_code c = if c =? 0 then 1 else if c =? 1 then 2 else 4

-- 1 TABLE: 27 manufacturer, 26..16 number, 15 writable, 14..0 items in body
unfoldable pub table_of : (word : ℕ) → Fields
table_of w = record {
  kind = Kind.Table;
  manufacturer = bits 27 27 w;
  number = bits 26 16 w;
  writable = flag 15 w;
  first = bits 14 0 w;
  second = 0;
  sets = 0;
  octets = 0;
  slot = 0;
  low = 0;
  width = 0;
  flags = false;
}

-- 2 UINT: 27..26 width code (not 3), 25..20 slot set (0 = none), 19..0 spare
unfoldable pub uint_of : (word : ℕ) → Fields
uint_of w = if bits 27 26 w <? 3 && bits 19 0 w =? 0 then own_octets Kind.Uint (bits 25 20 w) (octets_of_code (bits 27 26 w)) else malformed

-- 3 BLOCK: 27..16 octets, 1 to 4,095; 15..0 spare
unfoldable pub block_of : (word : ℕ) → Fields
block_of w = if 0 <? bits 27 16 w && bits 15 0 w =? 0 then own_octets Kind.Block 0 (bits 27 16 w) else malformed

-- 4 SET: reference, 11 unit (0 octets, 1 flags), 10..0 spare
unfoldable pub set_of : (word : ℕ) → Fields
set_of w = if names_slot w && bits 10 0 w =? 0 then referring Kind.Set (flag 11 w) 0 0 w else malformed

-- 5 ARRAY: reference (the count), 11..0 items in body, at least 1
unfoldable pub array_of : (word : ℕ) → Fields
array_of w = if names_slot w && 0 <? bits 11 0 w then referring Kind.Array false (bits 11 0 w) 0 w else malformed

-- 6 IF: reference (nonzero is true), 11..6 items if true, at least 1, 5..0 items if false
unfoldable pub if_of : (word : ℕ) → Fields
if_of w = if names_slot w && 0 <? bits 11 6 w then referring Kind.If false (bits 11 6 w) (bits 5 0 w) w else malformed

-- bits 31..28 are the kind. Malformed: kind unknown, width code 3, spare bit set, a count or slot below its least
unfoldable pub fields_of : (word : ℕ) → Fields
fields_of w =
    if bits 31 28 w =? 1 then table_of w
    else if bits 31 28 w =? 2 then uint_of w
    else if bits 31 28 w =? 3 then block_of w
    else if bits 31 28 w =? 4 then set_of w
    else if bits 31 28 w =? 5 then array_of w
    else if bits 31 28 w =? 6 then if_of w
    else malformed

abbrev pub fields_at : (description : List ℕ) → (item : ℕ) → Fields
fields_at d i = fields_of (word_at d i)

-- a kind's number; 0 is malformed
abbrev pub kind_number : Kind → ℕ
kind_number Kind.Malformed = 0
kind_number Kind.Table = 1
kind_number Kind.Uint = 2
kind_number Kind.Block = 3
kind_number Kind.Set = 4
kind_number Kind.Array = 5
kind_number Kind.If = 6

abbrev pub kind_of : Fields → ℕ
kind_of f = kind_number f.kind

abbrev pub is_table : Fields → Bool
is_table f = kind_of f =? 1

abbrev pub is_uint : Fields → Bool
is_uint f = kind_of f =? 2

-- an element is a UINT, BLOCK or SET
abbrev pub is_element : Fields → Bool
is_element f = 2 ≤? kind_of f && kind_of f ≤? 4

abbrev pub is_array : Fields → Bool
is_array f = kind_of f =? 5

-- an IF is a choice of two bodies
abbrev pub is_choice : Fields → Bool
is_choice f = kind_of f =? 6

-- an ARRAY or IF, which count in the depth
abbrev pub nests : Fields → Bool
nests f = is_array f || is_choice f

-- how many items stand inside an item
abbrev pub nested : Fields → ℕ
nested f = f.first + f.second

-- a UINT that sets a slot is a dimension
abbrev pub is_dimension : Fields → Bool
is_dimension f = 0 <? f.sets

-- an item with a reference
abbrev pub refers : Fields → Bool
refers f = 0 <? f.slot

-- WHAT ENCLOSES AN ITEM
-- 1 where it holds
abbrev pub count : Bool → ℕ
count b = if b then 1 else 0

-- inside item f too, in its body that ends before item e
unfoldable pub inside : Fields → (e : ℕ) → Round → Round
inside f e r = record { limit = e; tables = count (is_table f) + r.tables; nests = count (nests f) + r.nests }

-- item j, which is f, encloses a later item i that comes before the end of its first body, or of its second: an IF's false items follow its true items
unfoldable pub around : Fields → (j i : ℕ) → Round → Round
around f j i r =
    if i <? j + 1 + f.first then inside f (j + 1 + f.first) r
    else if i <? j + 1 + f.first + f.second then inside f (j + 1 + f.first + f.second) r
    else r

-- what the items before item k put round item i; at the top level the end is the description's
unfoldable pub round : (description : List ℕ) → (k i : ℕ) → Round
round d zero i = record { limit = item_count d; tables = 0; nests = 0 }
round d (suc j) i = around (fields_at d j) j i (round d j i)

-- WHAT EARLIER ITEMS GAVE
-- the octets of slot s as set by an item before k; 0 where none sets it
unfoldable pub slot_octets : (description : List ℕ) → (k s : ℕ) → ℕ
slot_octets d zero s = 0
slot_octets d (suc j) s = if (fields_at d j).sets =? s then (fields_at d j).octets else slot_octets d j s

-- f is the TABLE of that manufacturer bit and number
abbrev pub is_table_named : Fields → (manufacturer number : ℕ) → Bool
is_table_named f m n = is_table f && f.manufacturer =? m && f.number =? n

-- whether an item before k is that TABLE
unfoldable pub table_given : (description : List ℕ) → (k manufacturer number : ℕ) → Bool
table_given d zero m n = false
table_given d (suc j) m n = is_table_named (fields_at d j) m n || table_given d j m n

-- THE RULES, each: item i, which is f with r round it, breaks it
-- 2: kind unknown, width code 3, spare bit set, a count or slot below its least
unfoldable pub breaks2 : Fields → Bool
breaks2 f = kind_of f =? 0

-- item 0 is standard table 00 with at least one body item
unfoldable pub is_table00 : Fields → Bool
is_table00 f = is_table_named f 0 0 && 0 <? f.first

-- item 1 is a one-octet UINT that sets a slot
unfoldable pub is_data_order : Fields → Bool
is_data_order f = is_dimension f && f.octets =? 1

-- the top level holds only TABLE items, and bodies hold none; a dimension stands directly in a TABLE body
unfoldable pub misplaced : Fields → Round → Bool
misplaced f r =
    r.tables =? 0 && not (is_table f)
    || 0 <? r.tables && is_table f
    || is_dimension f && 0 <? r.nests

-- 3: an item at a level or place it may not have, the rules on items 0 and 1 included
unfoldable pub breaks3 : Fields → (i : ℕ) → Round → Bool
breaks3 f i r = i =? 0 && not (is_table00 f) || i =? 1 && not (is_data_order f) || misplaced f r

-- 4: body runs past what encloses it
unfoldable pub breaks4 : Fields → (i : ℕ) → Round → Bool
breaks4 f i r = r.limit <? i + 1 + f.first + f.second

-- 5: fifth level: an ARRAY or IF inside four others
unfoldable pub breaks5 : Fields → Round → Bool
breaks5 f r = nests f && 3 <? r.nests

-- 6: slot or table given twice
unfoldable pub breaks6 : (description : List ℕ) → Fields → (i : ℕ) → Bool
breaks6 d f i = is_table f && table_given d i f.manufacturer f.number || is_dimension f && 0 <? slot_octets d i f.sets

-- 7: reference to a slot not set earlier (it has no octets), or bits outside it
unfoldable pub breaks7 : (description : List ℕ) → Fields → (i : ℕ) → Bool
breaks7 d f i = refers f && 8 * slot_octets d i f.slot <? f.low + f.width

-- of the rules that an item breaks, the lowest refusal number; 0 for none
unfoldable pub lowest_broken : (description : List ℕ) → Fields → (i : ℕ) → Round → ℕ
lowest_broken d f i r =
    if breaks2 f then 2
    else if breaks3 f i r then 3
    else if breaks4 f i r then 4
    else if breaks5 f r then 5
    else if breaks6 d f i then 6
    else if breaks7 d f i then 7
    else 0

unfoldable pub rule_broken : (description : List ℕ) → (item : ℕ) → ℕ
rule_broken d i = lowest_broken d (fields_at d i) i (round d i i)

-- IS THIS DESCRIPTION SOUND
-- 1: description length is 0, over 2,048 or not a multiple of 4
unfoldable pub breaks1 : (description : List ℕ) → Bool
breaks1 d = length d =? 0 || 2048 <? length d || 0 <? length d % 4

-- of n items from item i on, the first that breaks a rule is reported
unfoldable pub first_broken : (description : List ℕ) → (n i : ℕ) → Verdict
first_broken d zero i = passed
first_broken d (suc n) i =
    if rule_broken d i =? 0 then first_broken d n (i + 1) else Err (breaks_rule (rule_broken d i) i)

unfoldable pub check_reply : (description : List ℕ) → Verdict
check_reply d = if breaks1 d then Err description_length else first_broken d (item_count d) 0
