-- THE REFUSALS BY NAME: the table "Refusal numbers" of document 01, but for 17, which document 02's E1 takes back, and 11, of which its E4 makes five; and those that document 02 adds. A refusal is its number and
-- what it reports (`Refusal`, src/lib.rt): 2 to 7 report the item, 9 the item and octet, 25 the depth, others nothing more. Assumes nothing.
use Rattle.std.specs.Prelude.{ℕ, Bool, not, ◌&&◌, ◌||◌}
use Rattle.meaning.specs.Basics.{◌=?◌, ◌≤?◌}
use Rattle.meaning.specs.declared.Refusal.{Refusal}

-- WHICH NUMBER REPORTS WHAT
abbrev pub reports_item : ℕ → Bool
reports_item n = 2 ≤? n && n ≤? 7 || n =? 9

abbrev pub reports_octet : ℕ → Bool
reports_octet n = n =? 9

abbrev pub reports_depth : ℕ → Bool
reports_depth n = n =? 25

-- the numbers that questions about tables give: document 01's 1 to 20, but 11 and 17 no longer, and document 02's 22 to 26
abbrev pub is_given : ℕ → Bool
is_given n = 1 ≤? n && n ≤? 20 && not (n =? 11) && not (n =? 17) || 22 ≤? n && n ≤? 26

-- THE NAMES
-- a number that reports nothing more; 0, where nothing is refused
abbrev pub numbered : ℕ → Refusal
numbered n = record { number = n; item = 0; octet = 0; depth = 0 }

abbrev pub nothing_refused : Refusal
nothing_refused = numbered 0

-- description length is 0, over 2,048 or not a multiple of 4
abbrev pub description_length : Refusal
description_length = numbered 1

-- an item breaks one of the rules 2 to 7
abbrev pub breaks_rule : (rule item : ℕ) → Refusal
breaks_rule n i = record { number = n; item = i; octet = 0; depth = 0 }

abbrev pub image_too_long : Refusal
image_too_long = numbered 8

-- the item that doesn't end inside the image, and its starting octet
abbrev pub image_short : (item octet : ℕ) → Refusal
image_short i p = record { number = 9; item = i; octet = p; depth = 0 }

abbrev pub no_table : Refusal
no_table = numbered 10

-- offset + length over the table's size
abbrev pub outside_table : Refusal
outside_table = numbered 12

abbrev pub not_writable : Refusal
not_writable = numbered 13

-- range holds an octet of a dimension
abbrev pub holds_dimension : Refusal
holds_dimension = numbered 14

-- lent data's length isn't the element's, or the number needs more octets
abbrev pub wrong_size : Refusal
wrong_size = numbered 15

-- not a real date, or not a time
abbrev pub not_a_date : Refusal
not_a_date = numbered 16

abbrev pub season_change_armed : Refusal
season_change_armed = numbered 18

-- season or special schedule without a row or column
abbrev pub no_row_or_column : Refusal
no_row_or_column = numbered 19

-- Table 51 isn't 9 octets, or Table 54 isn't the size that it says
abbrev pub not_a_calendar : Refusal
not_a_calendar = numbered 20

-- a message doesn't fit the room lent, or a number its field
abbrev pub no_room : Refusal
no_room = numbered 21

-- why there is no such element: the item isn't one
abbrev pub not_an_element : Refusal
not_an_element = numbered 22

-- branch not chosen
abbrev pub branch_not_chosen : Refusal
branch_not_chosen = numbered 23

-- wrong number of subscripts
abbrev pub subscript_count : Refusal
subscript_count = numbered 24

-- subscript too large: its depth, 0 for the outermost
abbrev pub subscript_too_large : (depth : ℕ) → Refusal
subscript_too_large k = record { number = 25; item = 0; octet = 0; depth = k }

-- number asked of a BLOCK or SET
abbrev pub not_a_number : Refusal
not_a_number = numbered 26

-- octets that are no reply of a meter
abbrev pub not_a_reply : Refusal
not_a_reply = numbered 43
