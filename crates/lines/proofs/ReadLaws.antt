-- What reading numbers leans on, each within its limit: `SoFar` says what is known when the first i words have been read. Assumes nothing.
use mathlib.Core.Path.{◌≡◌, refl, sym, ap, subst, ◌∙◌}
use mathlib.Core.List.{List, [], ◌∷◌, ◌++◌, append_assoc}
use mathlib.Core.Bool.{Bool, true, false, ◌&&◌, and-false, and-eq-true_iff}
use Prim.Native.Nat.{ℕ, zero, suc, ◌+◌, ◌-◌, ◌≤◌, ◌<◌, zero-le}
use native.Mathlib.Nat.{not-suc-le-zero, le_of_suc-le-suc, add-zero}
use native.Mathlib.Numerals.{add-one}
use native.Mathlib.Omega.{arith}
use borrow.Author.Tests.{leb-true, eq-eqb, ne_eqb}
use lib.Dec.{leb}
use lib.ListN.{length, get_or, take, drop, set, replicate, drop_of_length-le}
use lib.Seq.{get_or-take, take_all, take-suc, set_at, drop-cons, length-take-le}
use Rattle.meaning.specs.Basics.{◌=?◌, ◌<?◌}
use Rattle.std.specs.Prelude.{Option, Some, None, is_some}
use Rattle.words.specs.Number.{all_digits, value_of, is_number, number_of}
use Rattle.words.specs.Hex.{are_octets}
use Rattle.words.proofs.Cases.{by_test}
use Rattle.lines.specs.declared.rows.Form.{Form}
use Rattle.lines.specs.declared.read.Asked.{Asked}
use Rattle.lines.specs.Answer.{nth, are_numbers, numbers_in, seven, limits, word_if, d_word, m_word, given_word, of_form}
use Rattle.lines.specs.Read.{OfSeven, numbers_of, PartRead, AskedOf, AskedRead}

-- ONE NUMBER
module _ (word : List ℕ) (most : ℕ) {r : Option ℕ} (e : r ≡ number_of word most) where
  pub number_is : (n : ℕ) → r ≡ Some n → (is_number word most ≡ true) × (n ≡ value_of word)
  unfolding number_of
  number_is n f = by_test (is_number word most) (λ h. (h, cc)) (λ h. (cc, cc))

  pub number_not : r ≡ None → is_number word most ≡ false
  unfolding number_of
  number_not f = by_test (is_number word most) (λ h. cc) (λ h. h)

-- a number word comes to no more than its limit
small : (word : List ℕ) (most : ℕ) → is_number word most ≡ true → value_of word ≤ most
unfolding is_number
small word most e = leb-true _ _ ((and-eq-true_iff (all_digits word) _).0 ((and-eq-true_iff (leb 1 (length word)) _).0 e).1).1

-- ALL OF THEM
numbers_long : (words : List (List ℕ)) (from : ℕ) (most : List ℕ) → length (numbers_in words from most) ≡ length most
unfolding numbers_in
numbers_long words from [] = refl
numbers_long words from (m ∷ most) = ap suc (numbers_long words (from + 1) most)

number_at_lem : (words : List (List ℕ)) (from : ℕ) (most : List ℕ) (i : ℕ) → i < length most
    → get_or (numbers_in words from most) i 0 ≡ value_of (nth words (from + i))
unfolding numbers_in
number_at_lem words from [] i h = absurd (not-suc-le-zero h)
number_at_lem words from (m ∷ most) zero h = rw add-zero
number_at_lem words from (m ∷ most) (suc i) h =
    let e : from + 1 + i ≡ from + suc i = omega arith in
    rw e at (number_at_lem words (from + 1) most i (le_of_suc-le-suc h))

are_next : (words : List (List ℕ)) (from : ℕ) (most : List ℕ) (i : ℕ) → i < length most
    → are_numbers words (from + i) (drop i most) ≡ (is_number (nth words (from + i)) (get_or most i 0) && are_numbers words (from + (i + 1)) (drop (i + 1) most))
unfolding are_numbers
are_next words from most i h =
    let e : from + (i + 1) ≡ from + i + 1 = omega arith in
    rw (e, drop-cons most i 0 h, add-one i)

-- each number is within its limit
number_within : (words : List (List ℕ)) (from : ℕ) (most : List ℕ) (i : ℕ) → are_numbers words from most ≡ true
    → get_or (numbers_in words from most) i 0 ≤ get_or most i 0
unfolding are_numbers numbers_in
number_within words from [] i e = zero-le
number_within words from (m ∷ most) zero e = small (nth words from) m ((and-eq-true_iff (is_number (nth words from) m) _).0 e).0
number_within words from (m ∷ most) (suc i) e = number_within words (from + 1) most i ((and-eq-true_iff (is_number (nth words from) m) _).0 e).1

-- the zeros behind a list are what an index past its end reads
zeros : (n k : ℕ) → ◌≡◌ {A = ℕ} (get_or (replicate n 0) k 0) 0
zeros zero k = refl
zeros (suc n) zero = refl
zeros (suc n) (suc k) = zeros n k

padded_zeros : (xs : List ℕ) (n k : ℕ) → get_or (xs ++ replicate n 0) k 0 ≡ get_or xs k 0
padded_zeros [] n k = zeros n k
padded_zeros (x ∷ xs) n zero = refl
padded_zeros (x ∷ xs) n (suc k) = padded_zeros xs n k

pub limits_long : {count : ℕ} {most : List ℕ} → OfSeven count most → length (take count most) ≡ count
limits_long {count} {most} o = length-take-le count most (omega arith)

-- the first i words from a word on are numbers, and `values` are what they come to, with zeros behind
pub record SoFar (words : List (List ℕ)) (from : ℕ) (most values : List ℕ) (i : ℕ) : Type 0 where
  pub within : i ≤ length most
  pub left : are_numbers words from most ≡ are_numbers words (from + i) (drop i most)
  pub front : values ≡ take i (numbers_in words from most) ++ replicate (7 - i) 0

pub so_far_none : (words : List (List ℕ)) (from : ℕ) (most : List ℕ) → SoFar words from most (replicate 7 0) 0
so_far_none words from most = record { within = zero-le; left = rw add-zero; front = refl }

module _ {words : List (List ℕ)} {from count : ℕ} {all values : List ℕ} {i : ℕ} (o : OfSeven count all) (s : SoFar words from (take count all) values i) (less : i < count)
    {word : List ℕ} {r : Option ℕ} (w : word ≡ nth words (from + i)) (e : r ≡ number_of word (get_or all i 0)) where
  h : i < length (take count all)
  h = omega (arith, limits_long o)

  m : get_or all i 0 ≡ get_or (take count all) i 0
  m = sym (get_or-take count all i 0 less)

  pub so_far_more : (n : ℕ) → r ≡ Some n → SoFar words from (take count all) (set values i n) (i + 1)
  so_far_more n f =
      let most : List ℕ = take count all in
      let q = number_is word (get_or all i 0) e n f in
      let v : n ≡ get_or (numbers_in words from most) i 0 = q.1 ∙ ap value_of w ∙ sym (number_at_lem words from most i h) in
      let t : is_number (nth words (from + i)) (get_or most i 0) ≡ true = rw (w, m) at q.0 in
      let l : i < length (numbers_in words from most) = omega (arith, numbers_long words from most, h) in
      let front : length (take i (numbers_in words from most)) ≡ i = length-take-le i (numbers_in words from most) (omega arith) in
      -- one number more in place of the first zero
      let k : 7 - i ≡ suc (7 - (i + 1)) = omega arith in
      record {
        within = omega (arith, h);
        left = s.left ∙ are_next words from most i h ∙ rw t;
        front = rw (s.front, k, set_at _ 0 _ n i front, add-one i, take-suc (numbers_in words from most) i 0 l, append_assoc, v);
      }

  pub so_far_not : r ≡ None → None ≡ numbers_of words from (take count all)
  unfolding numbers_of
  so_far_not f =
      let t : is_number (nth words (from + i)) (get_or (take count all) i 0) ≡ false = rw (w, m) at (number_not word (get_or all i 0) e f) in
      let none : are_numbers words from (take count all) ≡ false = s.left ∙ are_next words from (take count all) i h ∙ rw t in
      rw none

pub so_far_all : {words : List (List ℕ)} {from : ℕ} {most values : List ℕ} {i : ℕ} → SoFar words from most values i → length most ≤ i
    → Some values ≡ numbers_of words from most
unfolding are_numbers numbers_of
so_far_all {words} {from} {most} {values} {i} s h =
    let l : length (numbers_in words from most) ≡ i = numbers_long words from most ∙ omega arith in
    let are : are_numbers words from most ≡ true = s.left ∙ rw (drop_of_length-le most h) in
    rw (are, s.front, take_all i (numbers_in words from most) (omega arith), l)

-- ALL THAT A LINE ASKS
-- a line that is not of the form
none_asked : {f : Form} {words : List (List ℕ)} {description image given : List ℕ} → of_form f words ≡ false → AskedRead f words description image given None
none_asked e = record { reply = sym e; asked = λ a g. cc }

pub miscounted : {f : Form} {words : List (List ℕ)} {description image given : List ℕ} {n : ℕ} → n ≡ length words → (n ≡ f.words → ⊥)
    → AskedRead f words description image given None
unfolding of_form
miscounted {f} {words} e h = none_asked (rw (ne_eqb (length words) f.words (λ g. h (e ∙ g))))

pub not_part : {word later : List ℕ} {r : Option ℕ} → PartRead word later r → r ≡ None → are_octets word ≡ false
not_part p e = sym p.reply ∙ rw e

pub is-part : {word later : List ℕ} {r : Option ℕ} (n : ℕ) → PartRead word later r → r ≡ Some n → are_octets word ≡ true
is-part n p e = sym p.reply ∙ rw e

pub not_numbers : (words : List (List ℕ)) (from : ℕ) (most : List ℕ) {r : Option (List ℕ)} → r ≡ numbers_of words from most → r ≡ None
    → are_numbers words from most ≡ false
unfolding numbers_of
not_numbers words from most e f = by_test (are_numbers words from most) (λ t. absurd (cc (rw t at (sym e ∙ f)))) (λ t. t)

pub are-numbers : (words : List (List ℕ)) (from : ℕ) (most : List ℕ) {r : Option (List ℕ)} (values : List ℕ) → r ≡ numbers_of words from most → r ≡ Some values
    → (are_numbers words from most ≡ true) × (values ≡ seven (numbers_in words from most))
unfolding numbers_of
are-numbers words from most values e f =
    by_test (are_numbers words from most) (λ t. (t, cc (rw t at (sym e ∙ f)))) (λ t. absurd (cc (rw t at (sym e ∙ f))))

-- one of the words is not what the form has there
module _ {f : Form} {words : List (List ℕ)} {description image given : List ℕ} where
  pub d_none : are_octets (word_if (0 <? f.lent) (nth words 1)) ≡ false → AskedRead f words description image given None
  unfolding of_form d_word
  d_none e = none_asked (rw (e, and-false))

  pub m_none : are_octets (word_if (1 <? f.lent) (nth words 2)) ≡ false → AskedRead f words description image given None
  unfolding of_form m_word
  m_none e = none_asked (rw (e, and-false, and-false))

  pub given_none : are_octets (word_if f.given (nth words (1 + f.lent + f.numbers))) ≡ false → AskedRead f words description image given None
  unfolding of_form given_word
  given_none e = none_asked (rw (e, and-false, and-false, and-false))

  pub numbers_none : are_numbers words (1 + f.lent) (take f.numbers f.most) ≡ false → AskedRead f words description image given None
  unfolding of_form limits
  numbers_none e = none_asked (rw (e, and-false, and-false))

  -- and all of them are
  pub asked_read : {rd rm rg : Option ℕ} {rn : Option (List ℕ)} {n d m g : ℕ} {values : List ℕ} → n ≡ length words → n ≡ f.words
      → PartRead (word_if (0 <? f.lent) (nth words 1)) description rd → rd ≡ Some d
      → PartRead (word_if (1 <? f.lent) (nth words 2)) image rm → rm ≡ Some m
      → rn ≡ numbers_of words (1 + f.lent) (take f.numbers f.most) → rn ≡ Some values
      → PartRead (word_if f.given (nth words (1 + f.lent + f.numbers))) given rg → rg ≡ Some g
      → AskedRead f words description image given (Some (record { d = d; m = m; given = g; numbers = values }))
  unfolding of_form limits d_word m_word given_word
  asked_read {d = d} {m = m} {g = g} {values = values} e c pd ed pm em en ev pg eg =
      let v = are-numbers words (1 + f.lent) (take f.numbers f.most) values en ev in
      let all : AskedOf f words description image given (record { d = d; m = m; given = g; numbers = values }) =
      record {
        d_few = pd.few d ed;
        m_few = pm.few m em;
        given_few = pg.few g eg;
        d_octets = pd.octets d ed;
        m_octets = pm.octets m em;
        given_octets = pg.octets g eg;
        values = v.1;
      } in
      record {
        reply = rw (eq-eqb (length words) f.words (sym e ∙ c), is-part d pd ed, is-part m pm em, is-part g pg eg, v.0);
        asked = λ a h. subst (AskedOf f words description image given) (cc) all;
      }

-- FOR CALLERS: each number that was read is within its limit
pub read_within : {f : Form} {words : List (List ℕ)} {description image given : List ℕ} {r : Option Asked} (a : Asked) → AskedRead f words description image given r
    → r ≡ Some a → (i : ℕ) → get_or a.numbers i 0 ≤ get_or (limits f) i 0
unfolding of_form
read_within {f} {words} x s e i =
    let octets : Bool = are_octets (d_word f words) && (are_octets (m_word f words) && are_octets (given_word f words)) in
    let of : is_some (Some x) ≡ of_form f words = rw e at s.reply in
    let a : (octets && are_numbers words (1 + f.lent) (limits f)) ≡ true = ((and-eq-true_iff (length words =? f.words) _).0 (sym of)).1 in
    let t : are_numbers words (1 + f.lent) (limits f) ≡ true = ((and-eq-true_iff octets _).0 a).1 in
    rw ((s.asked x e).values, padded_zeros (numbers_in words (1 + f.lent) (limits f)) _ i) (number_within words (1 + f.lent) (limits f) i t)
