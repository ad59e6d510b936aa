-- What is written is read back: a number's text is a word for that number, the text of octets is a word for those octets, and the
-- words of a line, with one space between, are the line.
-- Assumes nothing.
use mathlib.Core.Path.{◌≡◌, refl, ◌∙◌}
use mathlib.Core.List.{List, [], ◌∷◌, ◌++◌}
use mathlib.Core.Bool.{Bool, true, false, not, ◌&&◌, and-false}
use Prim.Native.Nat.{ℕ, zero, suc, ◌+◌, ◌*◌, ◌/◌, ◌%◌, ◌^◌, ◌≤◌, ◌<◌, suc-le-suc, zero-le}
use native.Mathlib.Nat.{pow-suc, not-suc-le-zero, mod-lt, div-add-mod'}
use native.Mathlib.Omega.{arith}
use borrow.Author.Tests.{le-leb, lt-leb, lt-ltb, le-ltb, eqb-true}
use lib.Dec.{eqb}
use lib.ListN.{length, get_or, length-append}
use Rattle.std.specs.Prelude.{Some}
use Rattle.words.specs.Number.{all_digits, value_of, is_number, number_of, digits_of, decimal_text}
use Rattle.words.specs.Hex.{is_hex, hex_value, all_hex, are_octets, octets_of, hex_digit, hex_pairs, hex_text}
use Rattle.words.specs.Line.{longer, words_of}
use Rattle.words.proofs.NumberLaws.{value_more, digits_append, digit}
use Rattle.words.proofs.HexLaws.{pairs_length, hex_word, single}
use Rattle.words.proofs.Cases.{by_test, by_less}

-- A NUMBER
-- its digits are digits, one at least, and come to the number
record Spells (n : ℕ) (text : List ℕ) : Type 0 where
  some : 1 ≤ length text
  digits : all_digits text ≡ true
  value : value_of text ≡ n

one_digit : (n : ℕ) → n < 10 → Spells n ((48 + n) ∷ [])
unfolding all_digits value_of
one_digit n h = record { some = suc-le-suc zero-le; digits = rw (digit (48 + n) (omega arith) (omega arith)); value = omega arith }

one_more : (n : ℕ) (text : List ℕ) → Spells (n / 10) text → Spells n (text ++ ((48 + n % 10) ∷ []))
unfolding all_digits
one_more n text s =
    let m : n % 10 < 10 = mod-lt n (omega arith) in
    record {
      some = omega (arith, s.some, length-append text ((48 + n % 10) ∷ []));
      digits = rw (digits_append, s.digits, digit (48 + n % 10) (omega arith) (omega arith));
      value = rw (value_more, s.value) (omega arith);
    }

spells : (f n : ℕ) → n < 10 ^ suc f → Spells n (digits_of (suc f) n)
unfolding digits_of
spells zero n h = rw (lt-ltb n 10 h) (one_digit n h)
spells (suc f) n h =
    by_less n 10 (λ l. rw (lt-ltb n 10 l) (one_digit n l))
    (λ l. rw (le-ltb n 10 l) (one_more n _ (spells f (n / 10) (omega (arith, pow-suc 10 (suc f))))))

-- a number's text, read with any most that is no less, is the number
pub number_back : (n most : ℕ) → n < 2 ^ 64 → n ≤ most → number_of (decimal_text n) most ≡ Some n
unfolding number_of is_number decimal_text
number_back n most h l =
    let s = spells 19 n (omega arith) in
    rw (le-leb _ _ s.some, s.digits, s.value, le-leb n most l)

-- OCTETS
module _ (d : ℕ) (h : d < 16) where
  both_ways : (hex_value (hex_digit d) ≡ d) × (is_hex (hex_digit d) ≡ true)
  unfolding hex_value is_hex hex_digit
  both_ways =
      by_less d 10 (λ l. rw (lt-ltb d 10 l, le-leb 48 (48 + d) (omega arith), le-leb (48 + d) 57 (omega arith)) (omega arith, refl))
      (λ l.
      rw (le-ltb d 10 l, lt-leb (87 + d) 57 (omega arith), and-false, le-leb 97 (87 + d) (omega arith), le-leb (87 + d) 102 (omega arith)) (omega arith, refl))

pairs_back : (octets : List ℕ) → ((k : ℕ) → get_or octets k 0 < 256) → octets_of (hex_pairs octets) ≡ octets
unfolding hex_pairs octets_of
pairs_back [] h = refl
pairs_back (b ∷ octets) h =
    let e : hex_value (hex_digit (b / 16)) * 16 + hex_value (hex_digit (b % 16)) ≡ b =
    rw ((both_ways (b / 16) (omega (arith, h 0))).0, (both_ways (b % 16) (omega arith)).0) (div-add-mod' b 16) in
    rw (e, pairs_back octets (λ k. h (suc k)))

pairs_hex : (octets : List ℕ) → ((k : ℕ) → get_or octets k 0 < 256) → all_hex (hex_pairs octets) ≡ true
unfolding hex_pairs all_hex
pairs_hex [] h = refl
pairs_hex (b ∷ octets) h =
    rw ((both_ways (b / 16) (omega (arith, h 0))).1, (both_ways (b % 16) (omega arith)).1, pairs_hex octets (λ k. h (suc k)))

-- the text of octets is a word of octets, and those are the octets
pub octets_back : (octets : List ℕ) → ((k : ℕ) → get_or octets k 0 < 256) → octets_of (hex_text octets) ≡ octets
unfolding hex_text octets_of
octets_back [] h = refl
octets_back (b ∷ octets) h = pairs_back (b ∷ octets) h

pub octets_word : (octets : List ℕ) → ((k : ℕ) → get_or octets k 0 < 256) → are_octets (hex_text octets) ≡ true
unfolding hex_text
octets_word [] h = (single (45 ∷ []) refl).0
octets_word (b ∷ octets) h =
    let n = pairs_length (b ∷ octets) in
    hex_word _ (λ e. omega arith) (omega arith) (omega arith) (pairs_hex (b ∷ octets) h)

-- A LINE
-- words with one space between
unfoldable pub joined : List (List ℕ) → List ℕ
joined [] = []
joined (word ∷ []) = word
joined (word ∷ next ∷ words) = word ++ (32 ∷ joined (next ∷ words))

-- no octet of a word is a space
pub spaceless : List ℕ → Bool
spaceless [] = true
spaceless (b ∷ word) = not (eqb b 32) && spaceless word

pub all_spaceless : List (List ℕ) → Bool
all_spaceless [] = true
all_spaceless (word ∷ words) = spaceless word && all_spaceless words

joined_longer : (b : ℕ) (words : List (List ℕ)) → joined (longer b words) ≡ b ∷ joined words
unfolding longer joined
joined_longer b [] = refl
joined_longer b (word ∷ []) = refl
joined_longer b (word ∷ next ∷ words) = refl

-- there is always a word, an empty one if no other
longer_long : (b : ℕ) (words : List (List ℕ)) → 1 ≤ length (longer b words)
unfolding longer
longer_long b [] = suc-le-suc zero-le
longer_long b (word ∷ words) = suc-le-suc zero-le

pub one_word : (line : List ℕ) → 1 ≤ length (words_of line)
unfolding words_of
one_word [] = suc-le-suc zero-le
one_word (b ∷ line) = by_test (eqb b 32) (λ e. rw e (suc-le-suc zero-le)) (λ e. rw e (longer_long b (words_of line)))

joined_space : (words : List (List ℕ)) → 1 ≤ length words → joined ([] ∷ words) ≡ 32 ∷ joined words
unfolding joined
joined_space [] h = absurd (not-suc-le-zero h)
joined_space (word ∷ words) h = refl

-- the words of a line, with one space between, are the line
pub line_back : (line : List ℕ) → joined (words_of line) ≡ line
unfolding words_of joined
line_back [] = refl
line_back (b ∷ line) =
    by_test (eqb b 32) (λ e. rw e (joined_space (words_of line) (one_word line) ∙ rw (line_back line, eqb-true b 32 e)))
    (λ e. rw e (joined_longer b (words_of line) ∙ rw (line_back line)))

spaceless_longer : (b : ℕ) (words : List (List ℕ)) → eqb b 32 ≡ false → all_spaceless words ≡ true → all_spaceless (longer b words) ≡ true
unfolding longer all_spaceless spaceless
spaceless_longer b [] e h = rw e
spaceless_longer b (word ∷ words) e h = rw e h

-- and none of them has a space in it
pub words_spaceless : (line : List ℕ) → all_spaceless (words_of line) ≡ true
unfolding words_of all_spaceless spaceless
words_spaceless [] = refl
words_spaceless (b ∷ line) =
    by_test (eqb b 32) (λ e. rw e (words_spaceless line)) (λ e. rw e (spaceless_longer b (words_of line) e (words_spaceless line)))
