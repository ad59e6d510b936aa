-- THE MESSAGES OF THE TEST BENCH: document 02's E2. "Full read (30 hex, 2-octet table id), offset read (3F, id, 3-octet offset, 2-octet count), full write (40, id, count, data, check
-- octet) and offset write (4F, id, offset, count, data, check octet), all most significant octet first; a manufacturer table's id is its number plus 2,048, and an id over 4,095 names no
-- table. The sum of the data octets wraps at 256, and the check octet is its two's complement. A good read replies 00, count, data, check octet; a good write 00. Read and write requests
-- and replies, each undoing the other. A full write's count other than the table's size is the tables' 12. Refusals, first that applies: empty request replies 01; unknown request 02;
-- wrong length or check octet 01; the tables' 13 replies 03, any other of theirs 04. A reply or request that doesn't fit the lent room, or a number that doesn't fit its field, is refused
-- as 21, before any write is done; a reply read that has none of these forms is 43."
-- Said of any family of messages M, over any family R of the tables' replies: octet by octet what a form is, then what is read, written and served by these forms. No message is made or
-- taken apart here. proofs/Messages.antt proves it of ours, over our tables' replies, and proofs/OnlyMessages.antt that no other family meets it. Assumes nothing.
use Rattle.std.specs.Prelude.{ℕ, ◌+◌, ◌-◌, ◌*◌, ◌%◌, ◌<◌, ◌≤◌, ◌≡◌, ◌⊎◌, Bool, true, not, ◌&&◌, ◌||◌, List, [], ◌∷◌, ◌++◌, map, length, get_or, take, if◌then◌else◌, Ok, Err}
use Rattle.std.proofs.Math.Option.{Option, some, none}
use Rattle.offsets.specs.declared.TableOffset.{TableOffset}
use Rattle.meaning.specs.Basics.{◌=?◌, ◌<?◌, part}
use Rattle.meaning.specs.declared.Refusal.{Refusal}
use Rattle.meaning.specs.Messages.{Request, full_read, offset_read, full_write, offset_write, RequestRead, is_request, not_request, MeterReply, holds, done, refuses, sum_of}
use Rattle.meaning.specs.Numbers.{no_table, outside_table, no_room}
use Rattle.meaning.specs.Passed.{Exactly}
use Rattle.meaning.specs.Questions.{refusal_in}
use Rattle.meaning.specs.Refusals.{verdict_reply, place_reply, place_length}
use Rattle.laying.specs.Every.{Every}
use Rattle.demands.specs.Bench.{Messages}
use Rattle.demands.specs.Given.{given, first_of}
use Rattle.demands.specs.Demand2.{OthersSame}
use Rattle.demands.specs.Replies.{Replies}
use Rattle.meaning.specs.Values.{Reply}
use Rattle.meaning.specs.declared.Answer.{Answer}

-- OCTETS: lists of numbers stand for memory, so that it has to be said where they are octets
abbrev pub Octets : List ℕ → Type 0
Octets = Every (λ x. x < 256)

-- FIELDS: the number in the two octets from `at` on, and in the three, most significant octet first
abbrev pub two : List ℕ → (at : ℕ) → ℕ
two xs at = 256 * get_or xs at 0 + get_or xs (at + 1) 0

abbrev pub three : List ℕ → (at : ℕ) → ℕ
three xs at = 65536 * get_or xs at 0 + 256 * get_or xs (at + 1) 0 + get_or xs (at + 2) 0

-- DATA from `at` on, up to the message's end: their count; the data; and the check octet, which makes their sum a multiple of 256
pub record Data (xs : List ℕ) (at : ℕ) (new : List ℕ) : Type 0 where
  pub count : two xs at ≡ length new
  pub same : (i : ℕ) → i < length new → get_or xs (at + 2 + i) 0 ≡ get_or new i 0
  pub check : (sum_of new + get_or xs (at + 2 + length new) 0) % 256 ≡ 0
  pub octet : get_or xs (at + 2 + length new) 0 < 256
  pub ends : length xs ≡ at + 3 + length new

-- REQUESTS: the octets xs are that request
abbrev pub RequestForm : List ℕ → Request → Type 0
RequestForm xs (full_read id) = (get_or xs 0 0 ≡ 0x30) × (two xs 1 ≡ id) × (length xs ≡ 3)
RequestForm xs (offset_read id o n) = (get_or xs 0 0 ≡ 0x3F) × (two xs 1 ≡ id) × (three xs 3 ≡ o) × (two xs 6 ≡ n) × (length xs ≡ 8)
RequestForm xs (full_write id new) = (get_or xs 0 0 ≡ 0x40) × (two xs 1 ≡ id) × Data xs 3 new
RequestForm xs (offset_write id o new) = (get_or xs 0 0 ≡ 0x4F) × (two xs 1 ≡ id) × (three xs 3 ≡ o) × Data xs 6 new

-- each number fits its field
abbrev pub RequestFits : Request → Type 0
RequestFits (full_read id) = id ≤ 65535
RequestFits (offset_read id o n) = (id ≤ 65535) × (o ≤ 16777215) × (n ≤ 65535)
RequestFits (full_write id new) = (id ≤ 65535) × (length new ≤ 65535)
RequestFits (offset_write id o new) = (id ≤ 65535) × (o ≤ 16777215) × (length new ≤ 65535)

-- how long it is, and the data in it
abbrev pub request_long : Request → ℕ
request_long (full_read id) = 3
request_long (offset_read id o n) = 8
request_long (full_write id new) = 6 + length new
request_long (offset_write id o new) = 9 + length new

abbrev pub request_data : Request → List ℕ
request_data (full_read id) = []
request_data (offset_read id o n) = []
request_data (full_write id new) = new
request_data (offset_write id o new) = new

-- REPLIES: the same of these
abbrev pub ReplyForm : List ℕ → MeterReply → Type 0
ReplyForm xs (holds new) = (get_or xs 0 0 ≡ 0x00) × Data xs 1 new
ReplyForm xs done = (get_or xs 0 0 ≡ 0x00) × (length xs ≡ 1)
ReplyForm xs (refuses c) = (get_or xs 0 0 ≡ c) × (1 ≤ c) × (c ≤ 4) × (length xs ≡ 1)

abbrev pub ReplyFits : MeterReply → Type 0
ReplyFits (holds new) = length new ≤ 65535
ReplyFits done = Unit {0}
ReplyFits (refuses c) = (1 ≤ c) × (c ≤ 4)

abbrev pub reply_long : MeterReply → ℕ
reply_long (holds new) = 4 + length new
reply_long done = 1
reply_long (refuses c) = 1

abbrev pub reply_data : MeterReply → List ℕ
reply_data (holds new) = new
reply_data done = []
reply_data (refuses c) = []

-- READING A REQUEST. What is wrong with octets as a request, by the code that refuses them; the tests are made apart from one another
-- "empty request replies 01"
unfoldable pub empty : List ℕ → Option ℕ
empty xs = given (length xs =? 0) 1

-- "unknown request 02": the first octet is none of the four
unfoldable pub is_known : (first : ℕ) → Bool
is_known f = f =? 0x30 || f =? 0x3F || f =? 0x40 || f =? 0x4F

unfoldable pub unknown : List ℕ → Option ℕ
unknown xs = given (not (is_known (get_or xs 0 0))) 2

-- "wrong length": other than that of a request with that first octet
unfoldable pub length_by : (first : ℕ) → List ℕ → ℕ
length_by f xs = if f =? 0x30 then 3 else if f =? 0x3F then 8 else if f =? 0x40 then 6 + two xs 3 else 9 + two xs 6

unfoldable pub wrong_length : List ℕ → Option ℕ
wrong_length xs = given (not (length xs =? length_by (get_or xs 0 0) xs)) 1

-- "or check octet 01": of a write, the data from `at` on and the octet behind them don't make a multiple of 256
unfoldable pub checks : List ℕ → (at : ℕ) → Bool
checks xs at = (sum_of (part xs (at + 2) (two xs at)) + get_or xs (at + 2 + two xs at) 0) % 256 =? 0 && get_or xs (at + 2 + two xs at) 0 <? 256

unfoldable pub checks_by : (first : ℕ) → List ℕ → Bool
checks_by f xs = if f =? 0x40 then checks xs 3 else if f =? 0x4F then checks xs 6 else true

unfoldable pub wrong_check : List ℕ → Option ℕ
wrong_check xs = given (not (checks_by (get_or xs 0 0) xs)) 1

-- in document 02's order: the first that applies is told
unfoldable pub request_faults : List ℕ → List (Option ℕ)
request_faults xs = empty xs ∷ unknown xs ∷ wrong_length xs ∷ wrong_check xs ∷ []

-- the code that a request read is refused by
unfoldable pub code_in : RequestRead → Option ℕ
code_in (is_request q) = none
code_in (not_request c) = some c

pub record ReadsRequest (M : Messages) (xs : List ℕ) : Type 0 where
  pub good : (q : Request) → Exactly (M.read_request xs ≡ is_request q) (RequestForm xs q)
  pub refused : code_in (M.read_request xs) ≡ first_of (request_faults xs)

-- READING A REPLY: none where no form fits
pub record ReadsReply (M : Messages) (xs : List ℕ) : Type 0 where
  pub good : (a : MeterReply) → Exactly (M.read_reply xs ≡ some a) (ReplyForm xs a)
  pub none : Exactly (M.read_reply xs ≡ none) ((a : MeterReply) → ReplyForm xs a → ⊥)

-- WRITING INTO THE ROOM LENT. The message stands there: its length is replied, its octets come first, and every other octet of the room is the same
pub record Stands (Form : List ℕ → Type 0) (long : ℕ) (new room : List ℕ) (reply : Reply) (later : List ℕ) : Type 0 where
  pub total : reply ≡ Ok (Answer.Total long)
  pub form : Form (take long later)
  pub octets : Octets new → Octets (take long later)
  pub others : OthersSame room later 0 long

-- or it is refused as 21, and no octet changes
pub record NoRoom (room : List ℕ) (reply : Reply) (later : List ℕ) : Type 0 where
  pub refused : reply ≡ Err no_room
  pub unchanged : later ≡ room

-- which of them: each number fits its field, and the message the room; or not
pub data Written (Fits : Type 0) (Form : List ℕ → Type 0) (long : ℕ) (new room : List ℕ) (reply : Reply) (later : List ℕ) : Type 0 where
  fits : Fits → long ≤ length room → Stands Form long new room reply later → Written Fits Form long new room reply later
  does_not : (Fits → ⊥) ⊎ (length room < long) → NoRoom room reply later → Written Fits Form long new room reply later

abbrev pub WritesRequest : Messages → Request → (room : List ℕ) → Type 0
WritesRequest M q room = Written (RequestFits q) (λ xs. RequestForm xs q) (request_long q) (request_data q) room (M.write_request q room) (M.request_room q room)

-- of a reply, written for itself or as an answer
abbrev pub WrittenReply : (Fits : Type 0) → MeterReply → (room : List ℕ) → Reply → (later : List ℕ) → Type 0
WrittenReply Fits a room reply later = Written Fits (λ xs. ReplyForm xs a) (reply_long a) (reply_data a) room reply later

abbrev pub WritesReply : Messages → MeterReply → (room : List ℕ) → Type 0
WritesReply M a room = WrittenReply (ReplyFits a) a room (M.write_reply a room) (M.reply_room a room)

-- EACH UNDOES THE OTHER: what was written reads as what it was, whatever was in the room; what was read is written again octet for octet; and octets are one message only
pub record EachUndoes {A : Type 0} (Form : List ℕ → A → Type 0) (Reads : List ℕ → A → Type 0) (write : A → List ℕ → Reply) (after : A → List ℕ → List ℕ) : Type 0 where
  pub back : (a : A) (room : List ℕ) (n : ℕ) → write a room ≡ Ok (Answer.Total n) → Reads (take n (after a room)) a
  pub again : (xs : List ℕ) (a : A) (room : List ℕ) → Octets xs → Reads xs a → length xs ≤ length room
      → (write a room ≡ Ok (Answer.Total (length xs))) × (take (length xs) (after a room) ≡ xs)
  pub one : (xs : List ℕ) (a b : A) → Form xs a → Form xs b → a ≡ b

-- SERVING
-- "a manufacturer table's id is its number plus 2,048": below 2,048 a standard table's number, from there on a manufacturer table's and 2,048
abbrev pub maker_of : (id : ℕ) → ℕ
maker_of id = if id <? 2048 then 0 else 1

abbrev pub number_of : (id : ℕ) → ℕ
number_of id = if id <? 2048 then id else id - 2048

-- "an id over 4,095 names no table"
unfoldable pub over_last : (id : ℕ) → Option Refusal
over_last id = given (4095 <? id) no_table

-- "a full write's count other than the table's size is the tables' 12"
unfoldable pub other_count : (n size : ℕ) → Option Refusal
other_count n size = given (not (n =? size)) outside_table

abbrev pub offset : ℕ → TableOffset
offset o = record { 0 = o }

-- the tables' refusals, by the questions that a request asks of them
unfoldable pub tables_refuse : Replies → (description image : List ℕ) → Request → List (Option Refusal)
tables_refuse R d img (full_read id) = over_last id ∷ refusal_in (place_reply (R.table_place d img (maker_of id) (number_of id))) ∷ []
tables_refuse R d img (offset_read id o n) = over_last id ∷ refusal_in (place_reply (R.read_range d img (maker_of id) (number_of id) (offset o) n)) ∷ []
tables_refuse R d img (full_write id new) =
    over_last id
    ∷ refusal_in (place_reply (R.table_place d img (maker_of id) (number_of id)))
    ∷ other_count (length new) (place_length (R.table_place d img (maker_of id) (number_of id)))
    ∷ refusal_in (verdict_reply (R.write_range d img (maker_of id) (number_of id) (offset 0) new))
    ∷ []
tables_refuse R d img (offset_write id o new) = over_last id ∷ refusal_in (verdict_reply (R.write_range d img (maker_of id) (number_of id) (offset o) new)) ∷ []

-- "the tables' 13 replies 03, any other of theirs 04"
unfoldable pub as_code : Option Refusal → Option ℕ
as_code none = none
as_code (some r) = some (if r.number =? 13 then 3 else 4)

unfoldable pub tables_faults : Replies → (description image : List ℕ) → RequestRead → List (Option ℕ)
tables_faults R d img (is_request q) = map as_code (tables_refuse R d img q)
tables_faults R d img (not_request c) = []

-- all that can be wrong, in document 02's order
unfoldable pub faults : Messages → Replies → (description image octets : List ℕ) → List (Option ℕ)
faults M R d img xs = request_faults xs ++ tables_faults R d img (M.read_request xs)

-- a good read replies what the tables hold, a good write 00; and what is in the image afterwards
abbrev pub Good : Replies → (description image : List ℕ) → Request → MeterReply → (later : List ℕ) → Type 0
Good R d img (full_read id) a later = (a ≡ holds (R.table_part d img (maker_of id) (number_of id))) × (later ≡ img)
Good R d img (offset_read id o n) a later = (a ≡ holds (R.range_part d img (maker_of id) (number_of id) (offset o) n)) × (later ≡ img)
Good R d img (full_write id new) a later = (a ≡ done) × (later ≡ R.range_image d img (maker_of id) (number_of id) (offset 0) new)
Good R d img (offset_write id o new) a later = (a ≡ done) × (later ≡ R.range_image d img (maker_of id) (number_of id) (offset o) new)

-- the answer, with the image that belongs to it: refused by the first fault, and the image as it was; or good
pub record Answers (M : Messages) (R : Replies) (d img xs : List ℕ) (a : MeterReply) (later : List ℕ) : Type 0 where
  pub refused : (c : ℕ) → first_of (faults M R d img xs) ≡ some c → (a ≡ refuses c) × (later ≡ img)
  pub good : (q : Request) → M.read_request xs ≡ is_request q → first_of (faults M R d img xs) ≡ none → Good R d img q a later

-- it goes into the room, where its numbers always fit; if it is longer than the room, 21, before any write is done
pub record Serves (M : Messages) (R : Replies) (d img xs room : List ℕ) : Type 0 where
  pub answer : MeterReply
  pub image : List ℕ
  pub answers : Answers M R d img xs answer image
  pub written : WrittenReply (Unit {0}) answer room (M.serve d img xs room) (M.served_room d img xs room)
  pub after : (n : ℕ) → M.serve d img xs room ≡ Ok (Answer.Total n) → M.served_image d img xs room ≡ image
  pub unchanged : M.serve d img xs room ≡ Err no_room → M.served_image d img xs room ≡ img

-- ALL OF IT
pub record MessagesSay (M : Messages) (R : Replies) : Type 0 where
  pub read_request : (xs : List ℕ) → ReadsRequest M xs
  pub read_reply : (xs : List ℕ) → ReadsReply M xs
  pub write_request : (q : Request) (room : List ℕ) → WritesRequest M q room
  pub write_reply : (a : MeterReply) (room : List ℕ) → WritesReply M a room
  pub requests : EachUndoes RequestForm (λ xs q. M.read_request xs ≡ is_request q) M.write_request M.request_room
  pub replies : EachUndoes ReplyForm (λ xs a. M.read_reply xs ≡ some a) M.write_reply M.reply_room
  pub serve : (description image octets room : List ℕ) → Serves M R description image octets room
