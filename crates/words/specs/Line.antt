-- The words of a line. A line is words with exactly one space between, none of them empty; at most forty are taken. A space is 32.
-- Assumes nothing.
use Rattle.std.specs.Prelude.{ℕ, suc, ◌+◌, ◌-◌, List, [], ◌∷◌, ◌++◌, Bool, true, false, cond, ◌&&◌, leb, eqb, length, get_or, replicate, take, drop, Result, Ok, Err, nat_lt}
use Rattle.words.specs.declared.types.Span.{Span}
use Rattle.words.specs.declared.types.Words.{Words}

-- one octet more at the front of the first word
unfoldable pub longer : ℕ → List (List ℕ) → List (List ℕ)
longer b [] = (b ∷ []) ∷ []
longer b (word ∷ words) = (b ∷ word) ∷ words

-- what stands before the first space, between spaces, and after the last: with no space, the line itself
unfoldable pub words_of : List ℕ → List (List ℕ)
words_of [] = [] ∷ []
words_of (b ∷ rest) = cond (eqb b 32) ([] ∷ words_of rest) (longer b (words_of rest))

-- no word is empty
unfoldable pub none_empty : List (List ℕ) → Bool
none_empty [] = true
none_empty (word ∷ words) = leb 1 (length word) && none_empty words

-- where words are in a line, the first at `at`, one space between
unfoldable pub spans_from : ℕ → List (List ℕ) → List Span
spans_from at [] = []
spans_from at (word ∷ words) = record { start = at; end = at + length word } ∷ spans_from (at + length word + 1) words

-- no part at all
abbrev pub no_span : Span
no_span = record { start = 0; end = 0 }

-- filled up with such parts to forty
unfoldable pub forty : List Span → List Span
forty spans = spans ++ replicate (40 - length spans) no_span

-- the words of a line; none at all where one of them is empty or there are more than forty
unfoldable pub line_words : List ℕ → List (List ℕ)
line_words line = cond (none_empty (words_of line) && leb (length (words_of line)) 40) (words_of line) []

-- where given words are
unfoldable pub places_of : List (List ℕ) → Words
places_of words = record { count = length words; spans = forty (spans_from 0 words) }

-- where the words of a line are
unfoldable pub split_of : List ℕ → Words
split_of line = places_of (line_words line)

-- the octets of a part of a line; none where its two ends do not stand in order inside the line
unfoldable pub part_of : List ℕ → Span → List ℕ
part_of line span = cond (leb span.start span.end && leb span.end (length line)) (take (span.end - span.start) (drop span.start line)) []

-- the octet of the line at which that part stands; where the two do not stand in order, it is empty and stands at octet 0
unfoldable pub part_start : List ℕ → Span → ℕ
part_start line span = cond (leb span.start span.end && leb span.end (length line)) span.start 0

-- word k of a line, by places
unfoldable pub word_in : List ℕ → Words → ℕ → List ℕ
word_in line places k = part_of line (get_or places.spans k no_span)

-- the octet of the line at which it stands
unfoldable pub word_start : List ℕ → Words → ℕ → ℕ
word_start line places k = part_start line (get_or places.spans k no_span)

-- a word is a name, octet by octet
unfoldable pub is_name : List ℕ → List ℕ → Bool
is_name [] [] = true
is_name [] (c ∷ name) = false
is_name (b ∷ word) [] = false
is_name (b ∷ word) (c ∷ name) = eqb b c && is_name word name

-- which word a name is, counted from 0; how many words there are where it is none of them
unfoldable pub word_index : (name : List ℕ) → (words : List (List ℕ)) → ℕ
word_index name [] = 0
word_index name (word ∷ words) = cond (is_name name word) 0 (suc (word_index name words))

-- the same, told apart: Ok says which word it is; Err, where it is none of them, how many words there are
unfoldable pub word_place : (name : List ℕ) → (words : List (List ℕ)) → Result ℕ ℕ
word_place name words = cond (nat_lt (word_index name words) (length words)) (Ok (word_index name words)) (Err (length words))

-- the number that it tells, either way
unfoldable pub place_told : Result ℕ ℕ → ℕ
place_told (Ok k) = k
place_told (Err n) = n
