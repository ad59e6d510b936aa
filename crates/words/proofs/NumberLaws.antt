-- What reading a number word leans on: the value of a word is built digit by digit from the front, and `SoFar` says what is known
-- when the octets before place i have been read. Assumes nothing.
use mathlib.Core.Path.{◌≡◌, refl, sym, ap, ◌∙◌}
use mathlib.Core.List.{List, [], ◌∷◌, ◌++◌}
use mathlib.Core.Bool.{true, false, ◌&&◌, and-false, and_assoc}
use Prim.Native.Nat.{ℕ, zero, suc, ◌+◌, ◌-◌, ◌*◌, ◌/◌, ◌%◌, ◌^◌, ◌≤◌, ◌<◌, zero-le, suc-le-suc}
use native.Mathlib.Nat.{pow-suc, mul_assoc, not-suc-le-zero, le_of_suc-le-suc, add-le-add, pow-le-pow_right, mul-le-mul_left, mod-eq_of_lt, mod-lt, one-le-pow}
use native.Mathlib.Numerals.{add-one}
use native.Mathlib.Omega.{arith, by_contra}
use borrow.Author.Tests.{le-leb, lt-leb, lt-ltb, le-ltb}
use lib.Dec.{ltb}
use lib.ListN.{length, get_or, take, drop, length-append, take-append-drop}
use lib.Seq.{take-suc, take_all}
use Rattle.std.specs.Prelude.{Some, None}
use Rattle.words.specs.Number.{is_digit, digit_of, all_digits, value_of, is_number, number_of, digits_of, decimal_text}
use Rattle.io.specs.Digits.{last_digits as digits, IsDigitCount}
use Rattle.words.proofs.Cases.{by_test}

-- one digit more at the end: ten times the value, and the digit
pub value_more : (xs : List ℕ) (b : ℕ) → value_of (xs ++ (b ∷ [])) ≡ value_of xs * 10 + (b - 48)
unfolding value_of
value_more [] b = omega arith
value_more (x ∷ xs) b =
    let e : 10 ^ length (xs ++ (b ∷ [])) ≡ 10 ^ length xs * 10 = rw (length-append xs (b ∷ []), add-one, pow-suc) in
    rw (value_more xs b, e) (omega (arith, mul_assoc (x - 48) (10 ^ length xs) 10))

-- a word comes to at least what its front comes to
pub value_front : (xs ys : List ℕ) → value_of xs ≤ value_of (xs ++ ys)
unfolding value_of
value_front [] ys = zero-le
value_front (x ∷ xs) ys =
    let e : length xs ≤ length (xs ++ ys) = omega (arith, length-append xs ys) in
    add-le-add (mul-le-mul_left (x - 48) (pow-le-pow_right (omega arith) e)) (value_front xs ys)

pub digits_append : (xs ys : List ℕ) → all_digits (xs ++ ys) ≡ (all_digits xs && all_digits ys)
unfolding all_digits
digits_append [] ys = refl
digits_append (x ∷ xs) ys = rw (digits_append xs ys) (sym (and_assoc (is_digit x) (all_digits xs) (all_digits ys)))

pub digit : (b : ℕ) → 48 ≤ b → b ≤ 57 → is_digit b ≡ true
unfolding is_digit
digit b h k = simp (le-leb _ _ h, le-leb _ _ k)

-- what `digit_of` answers, as the test
some_digit : (b d : ℕ) → digit_of b ≡ Some d → (is_digit b ≡ true) × (d ≡ b - 48)
unfolding digit_of
some_digit b d e = by_test (is_digit b) (λ t. (t, cc (rw t at e))) (λ t. absurd (cc (rw t at e)))

none_digit : (b : ℕ) → digit_of b ≡ None → is_digit b ≡ false
unfolding digit_of
none_digit b e = by_test (is_digit b) (λ t. absurd (cc (rw t at e))) (λ t. t)

-- a word with another octet than a digit
not_all : (word : List ℕ) (i : ℕ) → i < length word → is_digit (get_or word i 0) ≡ false → all_digits word ≡ false
unfolding all_digits
not_all [] i h e = absurd (not-suc-le-zero h)
not_all (b ∷ word) zero h e = rw e
not_all (b ∷ word) (suc i) h e = rw (not_all word i (le_of_suc-le-suc h) e) (and-false (is_digit b))

-- THE REPLIES
pub empty : (word : List ℕ) (most : ℕ) → length word ≡ 0 → None ≡ number_of word most
unfolding number_of is_number
empty word most h = rw h

pub no_digit : (word : List ℕ) (most i : ℕ) → i < length word → digit_of (get_or word i 0) ≡ None → None ≡ number_of word most
unfolding number_of is_number
no_digit word most i h e = rw (not_all word i h (none_digit _ e), and-false)

-- the octets before place i are digits that come to n, which is no more than most
pub record SoFar (word : List ℕ) (most i n : ℕ) : Type 0 where
  pub within : i ≤ length word
  pub digits : all_digits (take i word) ≡ true
  pub value : n ≡ value_of (take i word)
  pub small : n ≤ most

pub so_far_none : (word : List ℕ) (most : ℕ) → SoFar word most 0 0
unfolding all_digits value_of
so_far_none word most = record { within = zero-le; digits = refl; value = refl; small = zero-le }

module _ {word : List ℕ} {most i n d : ℕ} (s : SoFar word most i n) (h : i < length word) (e : digit_of (get_or word i 0) ≡ Some d) where
  one_more : take (i + 1) word ≡ take i word ++ (get_or word i 0 ∷ [])
  one_more = rw add-one (take-suc word i 0 h)

  its_value : value_of (take (i + 1) word) ≡ n * 10 + d
  its_value = rw (one_more, value_more, ← s.value, (some_digit _ d e).1)

  pub so_far_more : n * 10 + d ≤ most → SoFar word most (i + 1) (n * 10 + d)
  unfolding all_digits
  so_far_more k =
      record {
        within = omega arith;
        digits = rw (one_more, digits_append, s.digits, (some_digit _ d e).0);
        value = sym its_value;
        small = k;
      }

  pub too_large : most < n * 10 + d → None ≡ number_of word most
  unfolding number_of is_number
  too_large k =
      let v : value_of (take (i + 1) word) ≤ value_of word =
      rw take-append-drop at (value_front (take (i + 1) word) (drop (i + 1) word)) in
      rw (lt-leb (value_of word) most (omega (arith, its_value)), and-false, and-false)

pub so_far_all : (word : List ℕ) (most i n : ℕ) → SoFar word most i n → 0 < length word → length word ≤ i → Some n ≡ number_of word most
unfolding number_of is_number
so_far_all word most i n s h k =
    let e : word ≡ take i word = sym (take_all i word k) in
    let v : n ≡ value_of word = s.value ∙ ap value_of (sym e) in
    let d : all_digits word ≡ true = ap all_digits e ∙ s.digits in
    rw (le-leb 1 (length word) h, d, ← v, le-leb n most s.small)

-- WRITING. What `io::decimal` spells is the text of the number
pub text_is : (f k n : ℕ) → 1 ≤ k → k ≤ f → n < 10 ^ k → (1 < k → 10 ^ (k - 1) ≤ n) → digits 10 k n ≡ digits_of f n
unfolding digits_of
text_is f zero n h l b g = absurd (not-suc-le-zero h)
text_is zero (suc k) n h l b g = absurd (not-suc-le-zero l)
text_is (suc f) (suc zero) n h l b g = rw (mod-eq_of_lt b, lt-ltb n 10 b)
text_is (suc f) (suc (suc k)) n h l b g =
    let e : suc (suc k) - 1 ≡ suc k = omega arith in
    let p : 10 ^ suc k ≤ n = rw e at (g (omega arith)) in
    let d : suc k - 1 ≡ k = omega arith in
    let tenth : 10 ≤ n = omega (arith, pow-suc 10 k, one-le-pow k 10 (omega arith)) in
    rw (
      le-ltb n 10 tenth,
      ← text_is f (suc k) (n / 10) (omega arith) (le_of_suc-le-suc l) (omega (arith, pow-suc 10 (suc k)))
          (λ _. rw d (omega (arith, pow-suc 10 k))),
      lt-ltb (n % 10) 10 (mod-lt n (omega arith)),
    )

-- no number under 2^64 needs more than 20 digits
few : (n k : ℕ) → n < 2 ^ 64 → IsDigitCount 10 1 n k → k ≤ 20
few n k h f =
    by_contra k 20
    (λ long.
    let more : 10 ^ 20 ≤ 10 ^ (k - 1) = pow-le-pow_right (omega arith) {i = 20} {j = k - 1} (omega arith) in
    omega (arith, f.2 (omega arith)))

pub spelled : (n k : ℕ) → n < 2 ^ 64 → IsDigitCount 10 1 n k → digits 10 k n ≡ decimal_text n
unfolding decimal_text
spelled n k h f = text_is 20 k n f.0 (few n k h f) f.1 f.2

-- FOR CALLERS: how long a number's text is at most
digits_few : (f n : ℕ) → length (digits_of f n) ≤ f
unfolding digits_of
digits_few zero n = zero-le
digits_few (suc f) n =
    by_test (ltb n 10) (λ e. rw e (suc-le-suc zero-le))
    (λ e. rw e (omega (arith, digits_few f (n / 10), length-append (digits_of f (n / 10)) ((48 + n % 10) ∷ []))))

pub text_short : (n : ℕ) → length (decimal_text n) ≤ 20
unfolding decimal_text
text_short n = digits_few 20 n
