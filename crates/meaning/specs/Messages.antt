-- THE C12.18 REQUESTS: document 02's E2. Requests and replies as values, their octets, octets read back, what a meter answers, and the room that a message is put into.
-- All numbers stand most significant octet first. What a table holds and whether it may be written is not said anew: a request asks one of the tables' questions
-- (specs/Questions). Assumes nothing. Wrong answers that this rules out: a check octet over the count too, or not negated; an id taken modulo 2,048; a write made
-- whose reply doesn't fit; 13 told where a full write's count is wrong.
use Rattle.std.specs.Prelude.{ℕ, ◌+◌, ◌-◌, ◌/◌, ◌%◌, Bool, true, false, not, ◌&&◌, List, [], ◌∷◌, ◌++◌, length, get_or, if◌then◌else◌, Ok, Err, Result}
use Rattle.std.proofs.Math.Option.{Option, some, none}
use Rattle.meaning.specs.Basics.{◌=?◌, ◌≤?◌, part, splice, most_first, octets_in}
use Rattle.meaning.specs.declared.Heard.{Heard}
use Rattle.meaning.specs.declared.Refusal.{Refusal}
use Rattle.meaning.specs.declared.ReplyTold.{ReplyTold}
use Rattle.meaning.specs.declared.Requested.{Requested}
use Rattle.meaning.specs.declared.RequestTold.{RequestTold}
use Rattle.meaning.specs.Refusals.{verdict_reply, table_place_reply, write_range_reply, write_range_image}
use Rattle.meaning.specs.Questions as ask
use Rattle.meaning.specs.Questions.{Outcome, outcome, outcome_of, refusal_in}
use Rattle.meaning.specs.Numbers.{nothing_refused, outside_table, no_room, not_a_reply}
use Rattle.meaning.specs.Values.{Verdict, Place, Reply, at}
use Rattle.meaning.specs.declared.Answer.{Answer}

-- FIELDS
-- a number in n octets
abbrev pub in_octets : (n : ℕ) → ℕ → List ℕ
in_octets n x = octets_in 1 n x

-- the number of the n octets from `at` on
unfoldable pub number_from : List ℕ → (at n : ℕ) → ℕ
number_from xs at n = most_first (part xs at n)

-- "the sum of the data octets wraps at 256, and the check octet is its two's complement"
unfoldable pub sum_of : List ℕ → ℕ
sum_of [] = 0
sum_of (x ∷ xs) = x + sum_of xs

unfoldable pub check_octet : List ℕ → ℕ
check_octet xs = (256 - sum_of xs % 256) % 256

-- DATA in a message: count, data, check octet
unfoldable pub counted : List ℕ → List ℕ
counted xs = in_octets 2 (length xs) ++ (xs ++ check_octet xs ∷ [])

-- the data that stand so from `at` on
unfoldable pub data_from : List ℕ → (at : ℕ) → List ℕ
data_from xs at = part xs (at + 2) (number_from xs at 2)

-- whether they do, up to the message's end: as many as the count says, and the right check octet
unfoldable pub is_counted : List ℕ → (at : ℕ) → Bool
is_counted xs at = (length xs =? at + 3 + number_from xs at 2) && (get_or xs (at + 2 + number_from xs at 2) 0 =? check_octet (data_from xs at))

-- REQUESTS
pub data Request : Type 0 where
  full_read : (id : ℕ) → Request
  offset_read : (id offset count : ℕ) → Request
  full_write : (id : ℕ) → (new : List ℕ) → Request
  offset_write : (id offset : ℕ) → (new : List ℕ) → Request

unfoldable pub request_octets : Request → List ℕ
request_octets (full_read id) = 0x30 ∷ in_octets 2 id
request_octets (offset_read id o n) = 0x3F ∷ in_octets 2 id ++ (in_octets 3 o ++ in_octets 2 n)
request_octets (full_write id new) = 0x40 ∷ in_octets 2 id ++ counted new
request_octets (offset_write id o new) = 0x4F ∷ in_octets 2 id ++ (in_octets 3 o ++ counted new)

-- each number fits its field
unfoldable pub request_fits : Request → Bool
request_fits (full_read id) = id ≤? 65535
request_fits (offset_read id o n) = id ≤? 65535 && (o ≤? 16777215 && n ≤? 65535)
request_fits (full_write id new) = id ≤? 65535 && length new ≤? 65535
request_fits (offset_write id o new) = id ≤? 65535 && (o ≤? 16777215 && length new ≤? 65535)

-- READING ONE: a request; or the octet that refuses it, 01 for an empty one, then 02 where the first octet is none of the four, then 01 for a wrong length or check octet
pub data RequestRead : Type 0 where
  is_request : Request → RequestRead
  not_request : (code : ℕ) → RequestRead

unfoldable pub as_request : (good : Bool) → Request → RequestRead
as_request good q = if good then is_request q else not_request 1

unfoldable pub request_by : (first : ℕ) → List ℕ → RequestRead
request_by first xs =
    if first =? 0x30 then as_request (length xs =? 3) (full_read (number_from xs 1 2))
    else if first =? 0x3F then as_request (length xs =? 8) (offset_read (number_from xs 1 2) (number_from xs 3 3) (number_from xs 6 2))
    else if first =? 0x40 then as_request (is_counted xs 3) (full_write (number_from xs 1 2) (data_from xs 3))
    else if first =? 0x4F then as_request (is_counted xs 6) (offset_write (number_from xs 1 2) (number_from xs 3 3) (data_from xs 6))
    else not_request 2

unfoldable pub request_in : List ℕ → RequestRead
request_in xs = if length xs =? 0 then not_request 1 else request_by (get_or xs 0 0) xs

-- as the code has it: of data, how many
unfoldable pub requested_by : RequestRead → Result Requested ℕ
requested_by (not_request c) = Err c
requested_by (is_request (full_read id)) = Ok (Requested.FullRead id)
requested_by (is_request (offset_read id o n)) = Ok (Requested.OffsetRead id o n)
requested_by (is_request (full_write id new)) = Ok (Requested.FullWrite id (length new))
requested_by (is_request (offset_write id o new)) = Ok (Requested.OffsetWrite id o (length new))

-- its data; none but in a write
unfoldable pub request_data : RequestRead → List ℕ
request_data (not_request c) = []
request_data (is_request (full_read id)) = []
request_data (is_request (offset_read id o n)) = []
request_data (is_request (full_write id new)) = new
request_data (is_request (offset_write id o new)) = new

-- REPLIES: what a good read holds; a write that is done; a refusal
pub data MeterReply : Type 0 where
  holds : (xs : List ℕ) → MeterReply
  done : MeterReply
  refuses : (code : ℕ) → MeterReply

unfoldable pub reply_octets : MeterReply → List ℕ
reply_octets (holds xs) = 0x00 ∷ counted xs
reply_octets done = 0x00 ∷ []
reply_octets (refuses c) = c ∷ []

unfoldable pub reply_fits : MeterReply → Bool
reply_fits (holds xs) = length xs ≤? 65535
reply_fits done = true
reply_fits (refuses c) = 1 ≤? c && c ≤? 4

-- READING ONE: none where it has none of these forms
unfoldable pub short_reply : (only : ℕ) → Option MeterReply
short_reply x = if x =? 0 then some done else if x ≤? 4 then some (refuses x) else none

unfoldable pub reply_in : List ℕ → Option MeterReply
reply_in xs =
    if length xs =? 1 then short_reply (get_or xs 0 0)
    else if (get_or xs 0 1 =? 0) && is_counted xs 1 then some (holds (data_from xs 1))
    else none

-- as the code has it: of data, how many
unfoldable pub heard_by : Option MeterReply → Result Heard Refusal
heard_by none = Err not_a_reply
heard_by (some (holds xs)) = Ok (Heard.Data (length xs))
heard_by (some done) = Ok Heard.Done
heard_by (some (refuses c)) = Ok (Heard.Refused c)

-- its data; none but in the reply to a read
unfoldable pub reply_data : Option MeterReply → List ℕ
reply_data none = []
reply_data (some (holds xs)) = xs
reply_data (some done) = []
reply_data (some (refuses c)) = []

-- INTO THE ROOM LENT, from its first octet on: how many octets; or 21 where they don't fit the room, or a number doesn't fit its field, and then no octet changes
unfoldable pub sent : (fits : Bool) → (octets room : List ℕ) → Bool
sent fits xs room = fits && length xs ≤? length room

unfoldable pub sent_reply : (fits : Bool) → (octets room : List ℕ) → Reply
sent_reply fits xs room = if sent fits xs room then Ok (Answer.Total (length xs)) else Err no_room

unfoldable pub sent_room : (fits : Bool) → (octets room : List ℕ) → List ℕ
sent_room fits xs room = if sent fits xs room then splice room 0 xs else room

-- a request, and a reply
abbrev pub write_request_reply : Request → (room : List ℕ) → Reply
write_request_reply q room = sent_reply (request_fits q) (request_octets q) room

abbrev pub write_request_room : Request → (room : List ℕ) → List ℕ
write_request_room q room = sent_room (request_fits q) (request_octets q) room

abbrev pub write_reply_reply : MeterReply → (room : List ℕ) → Reply
write_reply_reply a room = sent_reply (reply_fits a) (reply_octets a) room

abbrev pub write_reply_room : MeterReply → (room : List ℕ) → List ℕ
write_reply_room a room = sent_room (reply_fits a) (reply_octets a) room

-- WHAT A METER ANSWERS
-- the table of an id: "a manufacturer table's id is its number plus 2,048". An id over 4,095 has a manufacturer over 1, which no table has
abbrev pub maker_of : (id : ℕ) → ℕ
maker_of id = id / 2048

abbrev pub number_of : (id : ℕ) → ℕ
number_of id = id % 2048

-- "a full write's count other than the table's size is the tables' 12"; else it is a write of the range from offset 0 on
unfoldable pub other_size : (n : ℕ) → Place → Bool
other_size n (Ok e) = not (n =? e.length)
other_size n (Err r) = false

unfoldable pub write_table_reply : (description image : List ℕ) → (manufacturer number : ℕ) → (new : List ℕ) → Verdict
write_table_reply d img m k new =
    if other_size (length new) (table_place_reply d img m k) then Err outside_table else write_range_reply d img m k (record { 0 = 0 }) new

unfoldable pub write_table_image : (description image : List ℕ) → (manufacturer number : ℕ) → (new : List ℕ) → List ℕ
write_table_image d img m k new = if other_size (length new) (table_place_reply d img m k) then img else write_range_image d img m k (record { 0 = 0 }) new

-- what a request comes to, by the tables' questions
unfoldable pub request_outcome : (description image : List ℕ) → Request → Outcome
request_outcome d img (full_read id) = outcome_of (ask.table_part (maker_of id) (number_of id)) d img
request_outcome d img (offset_read id o n) = outcome_of (ask.read_range (maker_of id) (number_of id) (record { 0 = o }) n) d img
request_outcome d img (full_write id new) =
    outcome (verdict_reply (write_table_reply d img (maker_of id) (number_of id) new)) [] (write_table_image d img (maker_of id) (number_of id) new)
request_outcome d img (offset_write id o new) = outcome_of (ask.write_range (maker_of id) (number_of id) (record { 0 = o }) new) d img

-- a good read replies what it reads, a good write that it is done
unfoldable pub good_reply : Request → (octets : List ℕ) → MeterReply
good_reply (full_read id) xs = holds xs
good_reply (offset_read id o n) xs = holds xs
good_reply (full_write id new) xs = done
good_reply (offset_write id o new) xs = done

-- "the tables' 13 replies 03, any other of theirs 04"
unfoldable pub code_of : Refusal → ℕ
code_of r = if r.number =? 13 then 3 else 4

unfoldable pub unless_refused : Option Refusal → MeterReply → MeterReply
unless_refused none a = a
unless_refused (some r) a = refuses (code_of r)

unfoldable pub answer_to : (description image : List ℕ) → RequestRead → MeterReply
answer_to d img (not_request c) = refuses c
answer_to d img (is_request q) = unless_refused (refusal_in (request_outcome d img q).reply) (good_reply q (request_outcome d img q).octets)

unfoldable pub image_answered : (description image : List ℕ) → RequestRead → List ℕ
image_answered d img (not_request c) = img
image_answered d img (is_request q) = (request_outcome d img q).image

-- SERVING: the reply into the room. 21 is known before any write is done
unfoldable pub serve_reply : (description image request room : List ℕ) → Reply
serve_reply d img xs room = write_reply_reply (answer_to d img (request_in xs)) room

unfoldable pub serve_room : (description image request room : List ℕ) → List ℕ
serve_room d img xs room = write_reply_room (answer_to d img (request_in xs)) room

unfoldable pub serve_image : (description image request room : List ℕ) → List ℕ
serve_image d img xs room =
    if sent (reply_fits (answer_to d img (request_in xs))) (reply_octets (answer_to d img (request_in xs))) room then image_answered d img (request_in xs) else img

-- BY NUMBERS, as C and lines of text have them
-- what was read: 0 for what a form lacks, and for all but the octet that refuses where it is none
unfoldable pub request_told : Result Requested ℕ → RequestTold
request_told (Err c) = record { code = c; kind = 0; id = 0; offset = 0; count = 0; start = 0 }
request_told (Ok (Requested.FullRead id)) = record { code = 0; kind = 0x30; id = id; offset = 0; count = 0; start = 0 }
request_told (Ok (Requested.OffsetRead id o n)) = record { code = 0; kind = 0x3F; id = id; offset = o; count = n; start = 0 }
request_told (Ok (Requested.FullWrite id n)) = record { code = 0; kind = 0x40; id = id; offset = 0; count = n; start = 5 }
request_told (Ok (Requested.OffsetWrite id o n)) = record { code = 0; kind = 0x4F; id = id; offset = o; count = n; start = 8 }

unfoldable pub reply_told : Result Heard Refusal → ReplyTold
reply_told (Ok (Heard.Data n)) = record { refusal = nothing_refused; kind = 1; code = 0; count = n; start = 3 }
reply_told (Ok Heard.Done) = record { refusal = nothing_refused; kind = 2; code = 0; count = 0; start = 0 }
reply_told (Ok (Heard.Refused c)) = record { refusal = nothing_refused; kind = 3; code = c; count = 0; start = 0 }
reply_told (Err r) = record { refusal = r; kind = 0; code = 0; count = 0; start = 0 }

-- what is to be written. A request's kind is its first octet; none where there is no such kind. What a form lacks isn't judged
unfoldable pub request_of : (kind id offset count : ℕ) → (new : List ℕ) → Option Request
request_of kind id o n new =
    if kind =? 0x30 then some (full_read id)
    else if kind =? 0x3F then some (offset_read id o n)
    else if kind =? 0x40 then some (full_write id new)
    else if kind =? 0x4F then some (offset_write id o new)
    else none

-- a reply's kind is 1 for data, 2 for done, 3 for refused
unfoldable pub reply_of : (kind code : ℕ) → (new : List ℕ) → Option MeterReply
reply_of kind code new =
    if kind =? 1 then some (holds new)
    else if kind =? 2 then some done
    else if kind =? 3 then some (refuses code)
    else none

-- what they come to in the room; where there is no such kind, 21 as for any number that doesn't fit its field
unfoldable pub request_sent : Option Request → (room : List ℕ) → Reply
request_sent (some q) room = write_request_reply q room
request_sent none room = Err no_room

unfoldable pub request_room : Option Request → (room : List ℕ) → List ℕ
request_room (some q) room = write_request_room q room
request_room none room = room

unfoldable pub reply_sent : Option MeterReply → (room : List ℕ) → Reply
reply_sent (some a) room = write_reply_reply a room
reply_sent none room = Err no_room

unfoldable pub reply_room : Option MeterReply → (room : List ℕ) → List ℕ
reply_room (some a) room = write_reply_room a room
reply_room none room = room
