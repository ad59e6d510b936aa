-- What reading and writing hex leans on. Assumes nothing.
use mathlib.Core.Path.{◌≡◌, refl, sym, ap, ◌∙◌}
use mathlib.Core.List.{List, [], ◌∷◌}
use mathlib.Core.Bool.{true, false, ◌&&◌, and_assoc, and-false, and-eq-true_iff, or-false}
use Prim.Native.Nat.{ℕ, zero, suc, ◌+◌, ◌*◌, ◌/◌, ◌%◌, ◌≤◌, ◌<◌, zero-le}
use native.Mathlib.Numerals.{add-one}
use native.Mathlib.Nat.{not-suc-le-zero, le_of_suc-le-suc}
use native.Mathlib.Omega.{arith}
use borrow.Author.Tests.{le-leb, lt-leb, eq-eqb}
use lib.Dec.{leb, eqb}
use lib.ListN.{length, get_or, take, drop, drop_of_length-le}
use lib.Seq.{drop-cons}
use Rattle.std.specs.Prelude.{Some, None}
use Rattle.std.specs.List.{list_all}
use Rattle.std.specs.Simd.{first_chunks}
use Rattle.std.proofs.lemmas.List.{take-append-drop, drop-drop}
use Rattle.std.proofs.lemmas.List.Folds.{list_all-append}
use Rattle.words.specs.Hex.{is_hex, hex_value, all_hex, is_dash, are_octets, octets_of, can_read, OctetsRead, hex_digit, hex_pairs, hex_text}
use Rattle.words.specs.Put.{fits, laid}

-- A WORD
-- going through a word: what is left of it is all hex where its first octet is a digit and the rest is
pub hex_next : (word : List ℕ) (i : ℕ) → i < length word → all_hex (drop i word) ≡ (is_hex (get_or word i 0) && all_hex (drop (i + 1) word))
unfolding all_hex
hex_next word i h = rw (drop-cons word i 0 h, add-one i)

pub hex_end : (word : List ℕ) (i : ℕ) → length word ≤ i → all_hex (drop i word) ≡ true
unfolding all_hex
hex_end word i h = rw (drop_of_length-le word h)

-- a word cut into so many pieces of a width, and what is behind them
pub hex_pieces : (width n : ℕ) (word : List ℕ) → (list_all all_hex (first_chunks width n word) && all_hex (drop (n * width) word)) ≡ all_hex word
unfolding all_hex
hex_pieces width zero word = let z : 0 * width ≡ 0 = omega arith in rw z refl
hex_pieces width (suc n) word =
    let further : suc n * width ≡ width + n * width = omega arith in
    let front : (all_hex (take width word) && all_hex (drop width word)) ≡ all_hex word = sym (list_all-append is_hex (take width word) (drop width word)) ∙ ap all_hex (take-append-drop width word) in
    and_assoc (all_hex (take width word)) _ _ ∙ rw (further, ← drop-drop) (rw (hex_pieces width n (drop width word)) front)

pub hex_at : (word : List ℕ) (i : ℕ) → all_hex word ≡ true → i < length word → is_hex (get_or word i 0) ≡ true
unfolding all_hex
hex_at [] i e h = absurd (not-suc-le-zero h)
hex_at (b ∷ word) zero e h = ((and-eq-true_iff (is_hex b) _).0 e).0
hex_at (b ∷ word) (suc i) e h = hex_at word i ((and-eq-true_iff (is_hex b) _).0 e).1 (le_of_suc-le-suc h)

-- two digits are one octet
pub octets_length : (word : List ℕ) → length (octets_of word) ≡ length word / 2
unfolding octets_of
octets_length [] = refl
octets_length (b ∷ []) = refl
octets_length (b ∷ c ∷ word) = omega (arith, octets_length word)

pub octet_at : (word : List ℕ) (i : ℕ) → i * 2 + 1 < length word
    → hex_value (get_or word (i * 2) 0) * 16 + hex_value (get_or word (i * 2 + 1) 0) ≡ get_or (octets_of word) i 0
unfolding octets_of
octet_at [] i h = absurd (not-suc-le-zero h)
octet_at (b ∷ []) i h = absurd (not-suc-le-zero (le_of_suc-le-suc (rw add-one at h)))
octet_at (b ∷ c ∷ word) zero h = refl
octet_at (b ∷ c ∷ word) (suc i) h =
    let e : suc i * 2 ≡ suc (suc (i * 2)) = omega arith in
    let f : suc i * 2 + 1 ≡ suc (suc (i * 2 + 1)) = omega arith in
    rw (f, e) (octet_at word i (omega arith))

-- one octet is two digits
pub pairs_length : (octets : List ℕ) → length (hex_pairs octets) ≡ length octets * 2
unfolding hex_pairs
pairs_length [] = refl
pairs_length (b ∷ octets) = omega (arith, pairs_length octets)

pub pair_at : (octets : List ℕ) (i : ℕ) → i < length octets
    → (hex_digit (get_or octets i 0 / 16) ≡ get_or (hex_pairs octets) (i * 2) 0) × (hex_digit (get_or octets i 0 % 16) ≡ get_or (hex_pairs octets) (i * 2 + 1) 0)
unfolding hex_pairs
pair_at [] i h = absurd (not-suc-le-zero h)
pair_at (b ∷ octets) zero h = (refl, refl)
pair_at (b ∷ octets) (suc i) h =
    let e : suc i * 2 ≡ suc (suc (i * 2)) = omega arith in
    let f : suc i * 2 + 1 ≡ suc (suc (i * 2 + 1)) = omega arith in
    rw (f, e) (pair_at octets i (le_of_suc-le-suc h))

pub text_none : (octets : List ℕ) → length octets ≡ 0 → 45 ∷ [] ≡ hex_text octets
unfolding hex_text
text_none [] h = refl
text_none (b ∷ octets) h = absurd (omega arith)

pub text_some : (octets : List ℕ) → 0 < length octets → hex_pairs octets ≡ hex_text octets
unfolding hex_text
text_some [] h = absurd (not-suc-le-zero h)
text_some (b ∷ octets) h = refl

pub text_length : (octets : List ℕ) → 0 < length octets → length (hex_text octets) ≡ length octets * 2
text_length octets h = ap length (sym (text_some octets h)) ∙ pairs_length octets

-- FOR CALLERS: how long the text of octets is at most
pub text_short : (octets : List ℕ) → length (hex_text octets) ≤ length octets * 2 + 1
unfolding hex_text
text_short [] = omega arith
text_short (b ∷ octets) = omega (arith, pairs_length (b ∷ octets))

-- JUDGING A WORD
-- a word of one octet, which is `-` or no word of octets
pub single : (word : List ℕ) → length word ≡ 1 → (are_octets word ≡ eqb (get_or word 0 0) 45) × (octets_of word ≡ [])
unfolding are_octets is_dash octets_of
single [] h = absurd (omega arith)
single (b ∷ []) h = (or-false (eqb b 45), refl)
single (b ∷ c ∷ word) h = absurd (omega arith)

-- a word of another length than 1 is judged by the three tests
pub tests : (word : List ℕ) → (length word ≡ 1 → ⊥) → are_octets word ≡ (leb 2 (length word) && (eqb (length word % 2) 0 && all_hex word))
unfolding are_octets is_dash
tests [] h = refl
tests (b ∷ []) h = absurd (h refl)
tests (b ∷ c ∷ word) h = refl

pub hex_word : (word : List ℕ) → (length word ≡ 1 → ⊥) → 2 ≤ length word → length word % 2 ≡ 0 → all_hex word ≡ true → are_octets word ≡ true
hex_word word h k e f = tests word h ∙ rw (le-leb 2 (length word) k, eq-eqb (length word % 2) 0 e, f)

-- THE REPLIES
module _ {word out : List ℕ} where
  -- the word is one of octets, with room for them
  pub read : {later : List ℕ} {n : ℕ} → are_octets word ≡ true → length (octets_of word) ≤ length out → later ≡ laid out 0 (octets_of word)
      → n ≡ length (octets_of word) → OctetsRead word out later (Some n)
  unfolding can_read fits
  read e h f g =
      let t : leb (0 + length (octets_of word)) (length out) ≡ true = le-leb (0 + length (octets_of word)) (length out) (omega arith) in
      record { reply = rw (e, t, g); memory = rw (e, t) f }

  pub not_octets : are_octets word ≡ false → OctetsRead word out out None
  unfolding can_read
  not_octets e = record { reply = rw e; memory = rw e }

  pub no_space : length out < length (octets_of word) → OctetsRead word out out None
  unfolding can_read fits
  no_space h =
      let t : leb (0 + length (octets_of word)) (length out) ≡ false = lt-leb (0 + length (octets_of word)) (length out) (omega arith) in
      record { reply = rw (t, and-false); memory = rw (t, and-false) }

  pub dash_read : length word ≡ 1 → get_or word 0 0 ≡ 45 → OctetsRead word out out (Some 0)
  unfolding laid
  dash_read h e = let n : octets_of word ≡ [] = (single word h).1 in read ((single word h).0 ∙ eq-eqb _ _ e) (rw n zero-le) (rw n) (rw n)
