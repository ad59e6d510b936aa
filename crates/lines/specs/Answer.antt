-- The reply to a line: docs/LINES.md. A question is a row of one table: its name, the form of its lines, what it comes to, and how much of that its reply tells.
-- What a question comes to is said in one place (crate meaning, specs/Questions), and of messages in another (specs/Messages there). Octets are ASCII: a space is 32, a line feed 10, `?` 63. Assumes nothing.
use Rattle.std.specs.Prelude.{ℕ, ◌+◌, ◌-◌, ◌*◌, ◌≤◌, Bool, true, false, ◌&&◌, ◌||◌, List, [], ◌∷◌, ◌++◌, map, length, get_or, take, replicate, if◌then◌else◌}
use Prim.Native.Char.{code}
use Prim.Native.String.{String, [] as end, ◌∷◌ as ◌then◌}
use Rattle.meaning.specs.Basics.{◌=?◌, ◌<?◌}
use Rattle.meaning.specs.declared.Date.{Date}
use Rattle.meaning.specs.declared.ElementName.{ElementName}
use Rattle.meaning.specs.declared.Moment.{Moment}
use Rattle.meaning.specs.declared.ReplyTold.{ReplyTold}
use Rattle.meaning.specs.declared.RequestTold.{RequestTold}
use Rattle.meaning.specs.declared.Told.{Told}
use Rattle.meaning.specs.Refusals.{told_numbers, told_by}
use Rattle.meaning.specs.Messages.{request_in, requested_by, request_data, request_told, reply_in, heard_by, reply_data, reply_told, request_of, request_sent, request_room, reply_of, reply_sent, reply_room, serve_reply, serve_image, serve_room}
use Rattle.meaning.specs.Questions as ask
use Rattle.meaning.specs.Questions.{Question, told_to, octets_to, image_after}
use Rattle.replies.specs.Asked.{quantity_of}
use Rattle.words.specs.Number.{is_number, value_of, decimal_text}
use Rattle.words.specs.Hex.{are_octets, octets_of, hex_text}
use Rattle.words.specs.Line.{line_words, word_index}
use Rattle.words.specs.Put.{IsPut}
use Rattle.lines.specs.declared.rows.Form.{Form}
use Rattle.meaning.specs.Values.{Reply}

-- TEXTS
-- the octets of a quoted text
abbrev pub ascii : String → List ℕ
ascii end = []
ascii (◌then◌ c text) = code c ∷ ascii text

-- a word that starts at a place: behind a space, unless nothing stands before it
unfoldable pub space_at : (at : ℕ) → List ℕ
space_at at = if at =? 0 then [] else 32 ∷ []

unfoldable pub behind : (at : ℕ) → (word : List ℕ) → List ℕ
behind at word = space_at at ++ word

-- words at the end of a text
unfoldable pub add_words : (text : List ℕ) → (words : List (List ℕ)) → List ℕ
add_words text [] = text
add_words text (word ∷ words) = add_words (text ++ behind (length text) word) words

-- words with one space between, and the line feed
unfoldable pub line_of : List (List ℕ) → List ℕ
line_of words = add_words [] words ++ 10 ∷ []

-- the reply to a line of no form: `?`
unfoldable pub no_form : List ℕ
no_form = 63 ∷ 10 ∷ []

-- WORDS
-- word k, counted from 0
unfoldable pub nth : List (List ℕ) → ℕ → List ℕ
nth words k = get_or words k []

-- the words from `from` on are numbers, each at most what stands for it in `most`
unfoldable pub are_numbers : List (List ℕ) → (from : ℕ) → (most : List ℕ) → Bool
are_numbers words from [] = true
are_numbers words from (m ∷ most) = is_number (nth words from) m && are_numbers words (from + 1) most

-- what they come to
unfoldable pub numbers_in : List (List ℕ) → (from : ℕ) → (most : List ℕ) → List ℕ
numbers_in words from [] = []
numbers_in words from (m ∷ most) = value_of (nth words from) ∷ numbers_in words (from + 1) most

-- numbers filled up with zeros to seven, as many as a line has at most
abbrev pub seven : List ℕ → List ℕ
seven numbers = numbers ++ replicate (7 - length numbers) 0

-- `mfr num`
abbrev pub table_limits : List ℕ
table_limits = 1 ∷ 65535 ∷ []

-- `mfr num offset`
abbrev pub range_limits : List ℕ
range_limits = 1 ∷ 65535 ∷ 18446744073709551615 ∷ []

-- `mfr num offset length`
abbrev pub length_limits : List ℕ
length_limits = range_limits ++ 18446744073709551615 ∷ []

-- `S`, which is `item n s0 s1 s2 s3`
abbrev pub element_limits : List ℕ
element_limits = replicate 6 18446744073709551615

-- `S value`
abbrev pub value_limits : List ℕ
value_limits = replicate 7 18446744073709551615

-- `year month day hour minute what`; `what` is 0 for summations, 1 for demands
abbrev pub tier_limits : List ℕ
tier_limits = replicate 5 4294967295 ++ 1 ∷ []

-- `year month day`
abbrev pub date_limits : List ℕ
date_limits = replicate 3 4294967295

-- `room`: as long as the longest request
abbrev pub room_most : ℕ
room_most = 65544

-- `kind id offset count room`
abbrev pub request_limits : List ℕ
request_limits = replicate 4 18446744073709551615 ++ room_most ∷ []

-- `kind code room`
abbrev pub reply_limits : List ℕ
reply_limits = replicate 2 18446744073709551615 ++ room_most ∷ []

unfoldable pub element_of : List ℕ → ElementName
element_of n = record { item = get_or n 0 0; count = get_or n 1 0; subscripts = get_or n 2 0 ∷ get_or n 3 0 ∷ get_or n 4 0 ∷ get_or n 5 0 ∷ [] }

unfoldable pub moment_of : List ℕ → Moment
moment_of n = record { year = get_or n 0 0; month = get_or n 1 0; day = get_or n 2 0; hour = get_or n 3 0; minute = get_or n 4 0 }

unfoldable pub date_of : List ℕ → Date
date_of n = record { year = get_or n 0 0; month = get_or n 1 0; day = get_or n 2 0 }

-- WHAT A ROW COMES TO: numbers, as many as it may tell; octets; the image afterwards
pub record Said : Type 0 where
  pub numbers : List ℕ
  pub octets : List ℕ
  pub image : List ℕ

-- a question about tables
abbrev pub of_tables : ((numbers new : List ℕ) → Question) → (d m numbers new : List ℕ) → Said
of_tables asks d m n new = record { numbers = told_numbers (told_to (asks n new) d m); octets = octets_to (asks n new) d m; image = image_after (asks n new) d m }

-- a message put into a room: what is told of it, its octets, and the image afterwards
abbrev pub in_room : Reply → (room image : List ℕ) → Said
in_room r room img = record { numbers = told_numbers (told_by r); octets = take (told_by r).first room; image = img }

-- so many octets of room
abbrev pub room_of : ℕ → List ℕ
room_of n = replicate n 0

-- a request answered: `room`, and REQUEST in DATA's place
abbrev pub of_serve : (d m numbers new : List ℕ) → Said
of_serve d m n new =
    in_room (serve_reply d m new (room_of (get_or n 0 0))) (serve_room d m new (room_of (get_or n 0 0))) (serve_image d m new (room_of (get_or n 0 0)))

-- a request and a reply read: R stands in D's place
abbrev pub of_request : (d m numbers new : List ℕ) → Said
of_request d m n new = record { numbers = request_numbers (request_told (requested_by (request_in d))); octets = request_data (request_in d); image = m }
  where
    request_numbers : RequestTold → List ℕ
    request_numbers t = t.code ∷ t.kind ∷ t.id ∷ t.offset ∷ t.count ∷ 0 ∷ []

abbrev pub of_reply : (d m numbers new : List ℕ) → Said
of_reply d m n new = record { numbers = reply_numbers (reply_told (heard_by (reply_in d))); octets = reply_data (reply_in d); image = m }
  where
    reply_numbers : ReplyTold → List ℕ
    reply_numbers t = t.refusal.number ∷ t.kind ∷ t.code ∷ 0 ∷ 0 ∷ 0 ∷ []

-- a request and a reply written: `kind id offset count room`, `kind code room`
abbrev pub of_written_request : (d m numbers new : List ℕ) → Said
of_written_request d m n new =
    in_room (request_sent (request_of (get_or n 0 0) (get_or n 1 0) (get_or n 2 0) (get_or n 3 0) new) (room_of (get_or n 4 0)))
    (request_room (request_of (get_or n 0 0) (get_or n 1 0) (get_or n 2 0) (get_or n 3 0) new) (room_of (get_or n 4 0))) m

abbrev pub of_written_reply : (d m numbers new : List ℕ) → Said
of_written_reply d m n new =
    in_room (reply_sent (reply_of (get_or n 0 0) (get_or n 1 0) new) (room_of (get_or n 2 0))) (reply_room (reply_of (get_or n 0 0) (get_or n 1 0) new) (room_of (get_or n 2 0))) m

-- a date's weekday: the refusal's number, and the answer's own
abbrev pub of_weekday : (d m numbers new : List ℕ) → Said
of_weekday d m n new = record { numbers = weekday_numbers (told_to (ask.weekday (date_of n)) d m); octets = []; image = m }
  where
    weekday_numbers : Told → List ℕ
    weekday_numbers t = t.refusal.number ∷ t.first ∷ 0 ∷ 0 ∷ 0 ∷ 0 ∷ []

-- THE TABLE. A row: the question's name; the form of its lines and of its reply; what it comes to, by the octets of D and M, its numbers and the octets of DATA
pub record Row : Type 0 where
  pub name : List ℕ
  pub form : Form
  pub says : (d m numbers new : List ℕ) → Said
  -- what the first number may be: one of these, or any where there are none
  pub kinds : List ℕ

-- a line: how many words of octets stand behind the name, none, D, or D and M; what the numbers behind them may come to; whether DATA stands last. Its reply: how many
-- of the numbers, whether the octets, whether the image afterwards
abbrev pub form : (lent : ℕ) → (limits : List ℕ) → (given : Bool) → (told : ℕ) → (part after : Bool) → Form
form lent limits given told part after =
    record {
      words = 1 + lent + length limits + one given;
      lent = lent;
      numbers = length limits;
      most = seven limits;
      given = given;
      told = told;
      part = part;
      after = after;
    }
  where
    one : Bool → ℕ
    one b = if b then 1 else 0

-- how many numbers a refusal tells; the answer's own stand behind them
abbrev pub refusal : ℕ
refusal = 4

abbrev row : String → Form → ((d m numbers new : List ℕ) → Said) → Row
row name f says = record { name = ascii name; form = f; says = says; kinds = [] }

-- of a message, a row where the first number is the message's kind
abbrev kind_row : String → (kinds : List ℕ) → Form → ((d m numbers new : List ℕ) → Said) → Row
kind_row name kinds f says = record { name = ascii name; form = f; says = says; kinds = kinds }

-- the questions about tables
unfoldable pub table_rows : List Row
table_rows =
    row "check" (form 1 [] false refusal false false) (of_tables (λ n new. ask.check))
    ∷ row "layout" (form 2 [] false (refusal + 1) false false) (of_tables (λ n new. ask.layout))
    ∷ row "table" (form 2 table_limits false (refusal + 2) false false) (of_tables (λ n new. ask.table_place (get_or n 0 0) (get_or n 1 0)))
    ∷ row "tablepart" (form 2 table_limits false 0 true false) (of_tables (λ n new. ask.table_part (get_or n 0 0) (get_or n 1 0)))
    ∷ row "where" (form 2 element_limits false (refusal + 2) false false) (of_tables (λ n new. ask.element_place (element_of n)))
    ∷ row "octets" (form 2 element_limits false 0 true false) (of_tables (λ n new. ask.element_part (element_of n)))
    ∷ row "number" (form 2 element_limits false (refusal + 1) false false) (of_tables (λ n new. ask.element_number (element_of n)))
    ∷ row "writerange" (form 2 range_limits true refusal false true) (of_tables (λ n new. ask.write_range (get_or n 0 0) (get_or n 1 0) (record { 0 = get_or n 2 0 }) new))
    ∷ row "writeoctets" (form 2 element_limits true refusal false true) (of_tables (λ n new. ask.write_octets (element_of n) new))
    ∷ row "writenumber" (form 2 value_limits false refusal false true) (of_tables (λ n new. ask.write_number (element_of n) (get_or n 6 0)))
    ∷ row "tier" (form 2 tier_limits false (refusal + 2) false false) (of_tables (λ n new. ask.tier (moment_of n) (quantity_of (get_or n 5 0))))
    ∷ row "matrix" (form 2 [] false refusal true false) (of_tables (λ n new. ask.matrix))
    ∷ row "seasoned" (form 2 date_limits false (refusal + 1) false false) (of_tables (λ n new. ask.seasoned (date_of n)))
    ∷ row "readrange" (form 2 length_limits false (refusal + 2) true false) (of_tables (λ n new. ask.read_range (get_or n 0 0) (get_or n 1 0) (record { 0 = get_or n 2 0 }) (get_or n 3 0)))
    ∷ []

-- messages. A refusal of theirs has a number alone
unfoldable pub message_rows : List Row
message_rows =
    row "serve" (form 2 (room_most ∷ []) true 1 true true) of_serve
    ∷ row "readrequest" (form 1 [] false 5 true false) of_request
    ∷ kind_row "writerequest" (48 ∷ 63 ∷ 64 ∷ 79 ∷ []) (form 0 request_limits true 1 true false) of_written_request
    ∷ row "readreply" (form 1 [] false 3 true false) of_reply
    ∷ kind_row "writereply" (1 ∷ 2 ∷ 3 ∷ []) (form 0 reply_limits true 1 true false) of_written_reply
    ∷ []

-- a date alone. Its refusal, too, has a number alone
unfoldable pub date_rows : List Row
date_rows = row "weekday" (form 0 date_limits false 2 false false) of_weekday ∷ []

unfoldable pub rows : List Row
rows = table_rows ++ (message_rows ++ date_rows)

-- the row of a name, by its place in the table; how many rows there are where it is none of them
unfoldable pub kind_of : (name : List ℕ) → ℕ
kind_of name = word_index name (map (λ (r : Row). r.name) rows)

-- past the last row there is none, and nothing is of its form
abbrev pub no_row : Row
no_row =
    record {
      name = [];
      form = record { words = 0; lent = 0; numbers = 0; most = []; given = false; told = 0; part = false; after = false };
      says = of_tables (λ n new. ask.check);
      kinds = [];
    }

unfoldable pub row_at : (kind : ℕ) → Row
row_at kind = get_or rows kind no_row

unfoldable pub form_of : (kind : ℕ) → Form
form_of kind = (row_at kind).form

unfoldable pub said : (kind : ℕ) → (d m numbers new : List ℕ) → Said
said kind d m numbers new = (row_at kind).says d m numbers new

-- A LINE OF A FORM
-- a form's limits, without the zeros behind them
unfoldable pub limits : Form → List ℕ
limits f = take f.numbers f.most

-- numbers are within a row's limits
pub record Within (kind : ℕ) (numbers : List ℕ) : Type 0 where
  pub each : (i : ℕ) → get_or numbers i 0 ≤ get_or (limits (form_of kind)) i 0

-- a word that the form has, or in its place `-`, which is no octets
unfoldable pub word_if : Bool → (word : List ℕ) → List ℕ
word_if there word = if there then word else 45 ∷ []

-- D, M and DATA
unfoldable pub d_word : Form → List (List ℕ) → List ℕ
d_word f words = word_if (0 <? f.lent) (nth words 1)

unfoldable pub m_word : Form → List (List ℕ) → List ℕ
m_word f words = word_if (1 <? f.lent) (nth words 2)

unfoldable pub given_word : Form → List (List ℕ) → List ℕ
given_word f words = word_if f.given (nth words (1 + f.lent + f.numbers))

-- words are of a form
unfoldable pub of_form : Form → List (List ℕ) → Bool
of_form f words =
    (length words =? f.words) && ((are_octets (d_word f words) && (are_octets (m_word f words) && are_octets (given_word f words))) && are_numbers words (1 + f.lent) (limits f))

-- THE REPLY
-- a word of octets, where the reply has it
unfoldable pub hex_if : Bool → (octets : List ℕ) → List (List ℕ)
hex_if there octets = if there then hex_text octets ∷ [] else []

-- and as it stands behind others
unfoldable pub hex_behind : (at : ℕ) → (there : Bool) → (octets : List ℕ) → List ℕ
hex_behind at there octets = if there then behind at (hex_text octets) else []

-- the numbers, the octets, the image afterwards, as far as the form tells them
unfoldable pub reply_words : Form → Said → List (List ℕ)
reply_words f s = map decimal_text (take f.told s.numbers) ++ (hex_if f.part s.octets ++ hex_if f.after s.image)

unfoldable pub row_text : (kind : ℕ) → (d m numbers new : List ℕ) → List ℕ
row_text kind d m n new = line_of (reply_words (form_of kind) (said kind d m n new))

-- a kind that the row doesn't have is no form
unfoldable pub among : List ℕ → ℕ → Bool
among [] x = false
among (k ∷ ks) x = x =? k || among ks x

unfoldable pub is_kind : (kinds : List ℕ) → ℕ → Bool
is_kind [] x = true
is_kind (k ∷ ks) x = among (k ∷ ks) x

unfoldable pub takes : (kind : ℕ) → (numbers : List ℕ) → Bool
takes kind n = is_kind (row_at kind).kinds (get_or n 0 0)

unfoldable pub reply_text : (kind : ℕ) → (d m numbers new : List ℕ) → List ℕ
reply_text kind d m n new = if takes kind n then row_text kind d m n new else no_form

unfoldable pub answer_as : (kind : ℕ) → Form → List (List ℕ) → List ℕ
answer_as kind f words =
    if of_form f words
    then reply_text kind (octets_of (d_word f words)) (octets_of (m_word f words)) (seven (numbers_in words (1 + f.lent) (limits f))) (octets_of (given_word f words))
    else no_form

unfoldable pub answer_words : List (List ℕ) → List ℕ
answer_words words =
    if kind_of (nth words 0) <? length rows then answer_as (kind_of (nth words 0)) (form_of (kind_of (nth words 0))) words else no_form

-- what a line is answered, with the line feed that ends the reply; a line of more than 300,000 octets is of no form
unfoldable pub answer_text : List ℕ → List ℕ
answer_text line = if 300000 <? length line then no_form else answer_words (line_words line)

-- MEMORY that the program lends itself (src/memory.rt): room for any reply. The longest reply that a row
-- could have: six numbers of 20 digits, a part of the image or 150,000 octets more, as many as a message in a line may have, and the image, both in hex, and what stands between
abbrev pub room_for : (image : List ℕ) → ℕ
room_for image = 4 * length image + 300131

-- a reply is put at the start of `out`, which has room for all of it: so none is left out
pub record Replied (out text later : List ℕ) (r : ℕ) : Type 0 where
  pub room : length text ≤ length out
  pub put : IsPut out 0 text later r
