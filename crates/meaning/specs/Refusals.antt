-- REFUSAL NUMBERS: the section of that name in document 01, and with it every question's reply and every write's later image.
-- Each reply is a function of the description, the image and what is asked, so no second reply fits. Nothing is assumed of any of them.
use Rattle.std.specs.Prelude.{ℕ, zero, suc, ◌+◌, ◌^◌, min, max, Bool, true, false, not, ◌&&◌, ◌||◌, List, [], ◌∷◌, ◌++◌, length, take, if◌then◌else◌, Ok, Err}
use Rattle.std.proofs.Math.Option.{Option, some, none}
use Rattle.meaning.specs.Basics.{◌=?◌, ◌<?◌, ◌≤?◌, part, splice, octets_in}
use Rattle.offsets.specs.declared.TableOffset.{TableOffset}
use Rattle.meaning.specs.declared.ElementName.{ElementName}
use Rattle.meaning.specs.declared.Refusal.{Refusal}
use Rattle.meaning.specs.declared.Told.{Told}
use Rattle.meaning.specs.Description.{fields_at, is_table, check_reply}
use Rattle.meaning.specs.Layout.{Placed, Seat, Slots, Stop, Fault, not_read, outside, unequal, no_place, fault, short, Layout, laid_out, stopped_at, lay_out, element_named, table_named, data_order, number_at, slot_numbers}
use Rattle.meaning.specs.Causes.{subscripts_of, suits, why_none}
use Rattle.meaning.specs.Numbers.{nothing_refused, breaks_rule, image_too_long, image_short, no_table, outside_table, not_writable, holds_dimension, wrong_size}
use Rattle.meaning.specs.Values.{Verdict, Place, Reply, passed, at}
use Rattle.meaning.specs.declared.Answer.{Answer}

-- WHAT A REPLY TELLS, IN NUMBERS: the refusal, all 0 where there is none; then the answer's own two, 0 on refusal
abbrev pub refused_with : Refusal → Told
refused_with r = record { refusal = r; first = 0; second = 0 }

abbrev pub answered : (first second : ℕ) → Told
answered a b = record { refusal = nothing_refused; first = a; second = b }

unfoldable pub told_by : Reply → Told
told_by (Err r) = refused_with r
told_by (Ok Answer.Passed) = answered 0 0
-- the total
told_by (Ok (Answer.Total n)) = answered n 0
-- the first octet in the image, and the length
told_by (Ok (Answer.At e)) = answered e.start.0 e.length
-- the number
told_by (Ok (Answer.Number x)) = answered x 0
-- 1 for "none yet today", and the tier
told_by (Ok (Answer.Tier t)) = answered 0 t
told_by (Ok Answer.NoneYet) = answered 1 0
-- 1 for yes, 0 for no
told_by (Ok Answer.Yes) = answered 1 0
told_by (Ok Answer.No) = answered 0 0
-- the weekday, 0 for Sunday
told_by (Ok (Answer.Weekday w)) = answered w 0

-- one after another: a refusal's, then the answer's own
abbrev pub refusal_numbers : Refusal → List ℕ
refusal_numbers r = r.number ∷ r.item ∷ r.octet ∷ r.depth ∷ []

abbrev pub told_numbers : Told → List ℕ
told_numbers t = refusal_numbers t.refusal ++ t.first ∷ t.second ∷ []

-- the first so many of a reply's
unfoldable pub numbers_of : (count : ℕ) → Reply → List ℕ
numbers_of n r = take n (told_numbers (told_by r))

-- a verdict and a place as replies
unfoldable pub verdict_reply : Verdict → Reply
verdict_reply passed = Ok Answer.Passed
verdict_reply (Err r) = Err r

unfoldable pub place_reply : Place → Reply
place_reply (Ok e) = Ok (Answer.At e)
place_reply (Err r) = Err r

-- a place's first octet, and its length; 0 on refusal
abbrev pub place_start : Place → ℕ
place_start (Ok e) = e.start.0
place_start (Err r) = 0

abbrev pub place_length : Place → ℕ
place_length (Ok e) = e.length
place_length (Err r) = 0

-- ORDER: 1 TO 9 COME BEFORE ANY ANSWER
-- 9 is the short image. A fault never comes for a passed description; were one to come, it would be the rule that it breaks
unfoldable pub fault_rule : Fault → ℕ
fault_rule not_read = 7
fault_rule outside = 7
fault_rule unequal = 3
fault_rule no_place = 3

unfoldable pub stop_refusal : Stop → Refusal
stop_refusal (fault x i) = breaks_rule (fault_rule x) i
stop_refusal (short i p) = image_short i p

-- the image opened: its tables, elements, slots and total; or the refusal
pub data Opened : Type 0 where
  opened : List Seat → List Placed → Slots → (total : ℕ) → Opened
  refused : Refusal → Opened

unfoldable pub open_laid : Layout → Opened
open_laid (laid_out ts es s n) = opened ts es s n
open_laid (stopped_at es x) = refused (stop_refusal x)

-- 8: image over 65,535 octets
unfoldable pub open_sound : Verdict → (description image : List ℕ) → Opened
open_sound passed d img = if 65535 <? length img then refused image_too_long else open_laid (lay_out d img)
open_sound (Err r) d img = refused r

unfoldable pub open_image : (description image : List ℕ) → Opened
open_image d img = open_sound (check_reply d) d img

-- LAY THE IMAGE OUT
unfoldable pub layout_in : Opened → Reply
layout_in (opened ts es s n) = Ok (Answer.Total n)
layout_in (refused r) = Err r

unfoldable pub layout_reply : (description image : List ℕ) → Reply
layout_reply d img = layout_in (open_image d img)

-- WHERE A TABLE IS
-- 10: no such table
unfoldable pub seat_place : Option Seat → Place
seat_place none = Err no_table
seat_place (some t) = at (record { 0 = t.start }) t.size

unfoldable pub table_place_in : (manufacturer number : ℕ) → Opened → Place
table_place_in m k (opened ts es s n) = seat_place (table_named m k ts)
table_place_in m k (refused r) = Err r

unfoldable pub table_place_reply : (description image : List ℕ) → (manufacturer number : ℕ) → Place
table_place_reply d img m k = table_place_in m k (open_image d img)

-- WHERE AN ELEMENT IS
-- named by its item number and its subscripts: four places and a count; places past the count aren't read
unfoldable pub element_in : ElementName → List Placed → Option Placed
element_in q es = if q.count ≤? 4 then element_named q.item (subscripts_of q) es else none

-- where its number is asked, the element of a UINT alone
unfoldable pub element_for : (number : Bool) → (description : List ℕ) → ElementName → List Placed → Option Placed
element_for number d q es = if suits number d q then element_in q es else none

-- 22 to 26: why there is none (specs/Causes)
unfoldable pub placed_place : (why : Refusal) → Option Placed → Place
placed_place why none = Err why
placed_place why (some e) = at (record { 0 = e.start }) e.size

unfoldable pub element_place_in : (number : Bool) → (description : List ℕ) → ElementName → Opened → Place
element_place_in number d q (opened ts es s n) = placed_place (why_none number d (slot_numbers s) q) (element_for number d q es)
element_place_in number d q (refused r) = Err r

unfoldable pub element_place_reply : (description image : List ℕ) → ElementName → Place
element_place_reply d img q = element_place_in false d q (open_image d img)

-- of one whose number is asked
unfoldable pub integer_place_reply : (description image : List ℕ) → ElementName → Place
integer_place_reply d img q = element_place_in true d q (open_image d img)

-- THE PARTS OF THE IMAGE: the table itself, an element's octets; empty on refusal
unfoldable pub place_part : (image : List ℕ) → Place → List ℕ
place_part img (Ok e) = part img e.start.0 e.length
place_part img (Err r) = []

unfoldable pub table_part_reply : (description image : List ℕ) → (manufacturer number : ℕ) → List ℕ
table_part_reply d img m k = place_part img (table_place_reply d img m k)

unfoldable pub element_part_reply : (description image : List ℕ) → ElementName → List ℕ
element_part_reply d img q = place_part img (element_place_reply d img q)

-- A RANGE OF A TABLE: 10, then 12 (offset + length over the table's size). Empty on refusal
unfoldable pub range_at : TableOffset → (length : ℕ) → Place → Place
range_at o n (Ok e) = if e.length <? o.0 + n then Err outside_table else at (record { 0 = e.start.0 + o.0 }) n
range_at o n (Err r) = Err r

unfoldable pub read_range_reply : (description image : List ℕ) → (manufacturer number : ℕ) → TableOffset → (length : ℕ) → Place
read_range_reply d img m k o n = range_at o n (table_place_reply d img m k)

unfoldable pub read_range_part : (description image : List ℕ) → (manufacturer number : ℕ) → TableOffset → (length : ℕ) → List ℕ
read_range_part d img m k o n = place_part img (read_range_reply d img m k o n)

-- AN ELEMENT'S NUMBER
unfoldable pub place_number : (image : List ℕ) → Place → Reply
place_number img (Ok e) = Ok (Answer.Number (number_at img e.start.0 e.length))
place_number img (Err r) = Err r

unfoldable pub element_number_reply : (description image : List ℕ) → ElementName → Reply
element_number_reply d img q = place_number img (integer_place_reply d img q)

-- WRITES. A write comes to the place where its data go, or to its refusal; from that, its verdict and the later image
unfoldable pub place_verdict : Place → Verdict
place_verdict (Ok e) = passed
place_verdict (Err r) = Err r

-- a refused call changes no octet
unfoldable pub image_with : (image data' : List ℕ) → Place → List ℕ
image_with img new (Ok e) = splice img e.start.0 new
image_with img new (Err r) = img

-- the table that an item stands in: the latest TABLE before it
unfoldable pub table_around : (description : List ℕ) → (item : ℕ) → ℕ
table_around d zero = 0
table_around d (suc j) = if is_table (fields_at d j) then j else table_around d j

-- writable: the mark of the table at that item
unfoldable pub writable : (description image : List ℕ) → (table : ℕ) → Bool
writable d img t = (fields_at d t).writable

-- n octets at p hold an octet of a dimension, an element that sets a slot: the later start lies before the earlier end
unfoldable pub any_dimension : List Placed → (p n : ℕ) → Bool
any_dimension [] p n = false
any_dimension (e ∷ es) p n = 0 <? e.slot && max p e.start <? min (p + n) (e.start + e.size) || any_dimension es p n

-- 13, then 14: n octets at p, in the table at item t
unfoldable pub allowed : (description image : List ℕ) → List Placed → (t p n : ℕ) → Place
allowed d img es t p n =
    if not (writable d img t) then Err not_writable
    else if any_dimension es p n then Err holds_dimension
    else at (record { 0 = p }) n

-- WRITE A RANGE OF A TABLE: 10, 12 (offset + length over the table's size), 13, 14. The table's start turns the offset in it into one in the image
unfoldable pub range_of : (description image : List ℕ) → List Placed → TableOffset → (length : ℕ) → Option Seat → Place
range_of d img es o n none = Err no_table
range_of d img es o n (some t) = if t.size <? o.0 + n then Err outside_table else allowed d img es t.item (t.start + o.0) n

unfoldable pub range_in : (description image : List ℕ) → (manufacturer number : ℕ) → TableOffset → (length : ℕ) → Opened → Place
range_in d img m k o n (opened ts es s total) = range_of d img es o n (table_named m k ts)
range_in d img m k o n (refused r) = Err r

unfoldable pub range_place : (description image : List ℕ) → (manufacturer number : ℕ) → TableOffset → (length : ℕ) → Place
range_place d img m k o n = range_in d img m k o n (open_image d img)

unfoldable pub write_range_reply : (description image : List ℕ) → (manufacturer number : ℕ) → TableOffset → (new : List ℕ) → Verdict
write_range_reply d img m k o new = place_verdict (range_place d img m k o (length new))

unfoldable pub write_range_image : (description image : List ℕ) → (manufacturer number : ℕ) → TableOffset → (new : List ℕ) → List ℕ
write_range_image d img m k o new = image_with img new (range_place d img m k o (length new))

-- WRITE AN ELEMENT: 22 to 26, 13, 14, then 15 where what is to be written doesn't fit the element's length
unfoldable pub fitting : (fits : ℕ → Bool) → Place → Place
fitting fits (Ok e) = if fits e.length then at e.start e.length else Err wrong_size
fitting fits (Err r) = Err r

unfoldable pub allowed_at : (description image : List ℕ) → ElementName → List Placed → Place → Place
allowed_at d img q es (Ok e) = allowed d img es (table_around d q.item) e.start.0 e.length
allowed_at d img q es (Err r) = Err r

unfoldable pub written_in : (number : Bool) → (fits : ℕ → Bool) → (description image : List ℕ) → ElementName → Opened → Place
written_in number fits d img q (opened ts es s total) = fitting fits (allowed_at d img q es (element_place_in number d q (opened ts es s total)))
written_in number fits d img q (refused r) = Err r

-- its octets: the data's length is the element's
abbrev pub octets_place_in : (description image : List ℕ) → ElementName → (length : ℕ) → Opened → Place
octets_place_in d img q n o = written_in false (λ l. n =? l) d img q o

unfoldable pub write_octets_reply : (description image : List ℕ) → ElementName → (new : List ℕ) → Verdict
write_octets_reply d img q new = place_verdict (octets_place_in d img q (length new) (open_image d img))

unfoldable pub write_octets_image : (description image : List ℕ) → ElementName → (new : List ℕ) → List ℕ
write_octets_image d img q new = image_with img new (octets_place_in d img q (length new) (open_image d img))

-- its number: the number needs no more octets than the element has
abbrev pub number_place_in : (description image : List ℕ) → ElementName → (x : ℕ) → Opened → Place
number_place_in d img q x o = written_in true (λ l. x <? 256 ^ l) d img q o

-- the octets of a number as long as the place, in the image's DATA_ORDER
unfoldable pub image_with_number : (image : List ℕ) → (x : ℕ) → Place → List ℕ
image_with_number img x (Ok e) = splice img e.start.0 (octets_in (data_order img) e.length x)
image_with_number img x (Err r) = img

unfoldable pub write_number_reply : (description image : List ℕ) → ElementName → (x : ℕ) → Verdict
write_number_reply d img q x = place_verdict (number_place_in d img q x (open_image d img))

unfoldable pub write_number_image : (description image : List ℕ) → ElementName → (x : ℕ) → List ℕ
write_number_image d img q x = image_with_number img x (number_place_in d img q x (open_image d img))
