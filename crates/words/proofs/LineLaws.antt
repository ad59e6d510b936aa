-- What splitting a line leans on. `Splitting` says what is known when n words have been found and the next starts at `from`: the
-- reply for the line is what the words left to find make of the places found. Assumes nothing.
use mathlib.Core.Path.{◌≡◌, refl, sym, ap, ◌∙◌}
use mathlib.Core.List.{List, [], ◌∷◌, ◌++◌, append-nil, append_assoc}
use mathlib.Core.Bool.{Bool, true, false, cond, ◌&&◌, and-false, and-eq-true_iff, false≢true}
use Prim.Native.Nat.{ℕ, zero, suc, ◌+◌, ◌-◌, ◌≤◌, ◌<◌, zero-le}
use native.Mathlib.Numerals.{add-one}
use native.Mathlib.Nat.{not-suc-le-zero, le_of_suc-le-suc, zero-add, add-zero}
use native.Mathlib.Omega.{arith}
use borrow.Author.Tests.{le-leb, lt-leb, leb-true, eqb-true, eq-eqb}
use lib.Dec.{leb, eqb}
use lib.ListN.{length, get_or, set, take, drop, replicate, length-append, length-drop}
use lib.Seq.{sets, sets-eq, take-append_seam, drop_at, drop-drop, length-take-le}
use Rattle.words.specs.Find.{first_of}
use Rattle.std.proofs.lemmas.List.{drop-replicate}
use Rattle.words.specs.declared.types.Span.{Span}
use Rattle.words.specs.declared.types.Words.{Words}
use Rattle.words.specs.Line.{longer, words_of, none_empty, spans_from, no_span, forty, line_words, places_of, split_of, part_of, part_start, word_in, is_name}
use Rattle.words.proofs.Cases.{by_test, by_less}
use Rattle.words.proofs.ReadBack.{joined, one_word, line_back}

-- THE FIRST WORD. What stands before the first space, with what its place in the line is
first_more : (xs : List ℕ) → first_of 32 xs < length xs → words_of xs ≡ take (first_of 32 xs) xs ∷ words_of (drop (suc (first_of 32 xs)) xs)
unfolding words_of longer first_of
first_more [] h = absurd (not-suc-le-zero h)
first_more (x ∷ xs) h = by_test (eqb x 32) (λ e. rw e) (λ e. rw (e, first_more xs (le_of_suc-le-suc (rw e at h))))

first_last : (xs : List ℕ) → length xs ≤ first_of 32 xs → words_of xs ≡ xs ∷ []
unfolding words_of longer first_of
first_last [] h = refl
first_last (x ∷ xs) h =
    by_test (eqb x 32) (λ e. absurd (not-suc-le-zero (rw e at h))) (λ e. rw (e, first_last xs (le_of_suc-le-suc (rw e at h))))

-- FORTY PLACES
stored : (spans : List Span) → length spans ≤ 40 → forty spans ≡ sets (replicate 40 no_span) 0 spans
unfolding forty
stored spans h = sym (sets-eq spans (replicate 40 no_span) 0 (omega arith) ∙ rw (zero-add (length spans), drop-replicate (length spans) 40 no_span))

spans_length : (at : ℕ) (ws : List (List ℕ)) → length (spans_from at ws) ≡ length ws
unfolding spans_from
spans_length at [] = refl
spans_length at (w ∷ ws) = ap suc (spans_length (at + length w + 1) ws)

-- THE SEARCH. What the words ws, the first at `at`, make of n places found
pub finish : List Span → ℕ → ℕ → List (List ℕ) → Words
finish spans n at ws =
    cond (none_empty ws && leb (n + length ws) 40) (record { count = n + length ws; spans = sets spans n (spans_from at ws) }) (places_of [])

finish_none : (line : List ℕ) → split_of line ≡ finish (replicate 40 no_span) 0 0 (words_of line)
unfolding finish split_of line_words places_of
finish_none line =
    let ws : List (List ℕ) = words_of line in
    rw (zero-add (length ws))
    (by_test (none_empty ws && leb (length ws) 40)
    (λ e.
    let h : length ws ≤ 40 = leb-true _ _ ((and-eq-true_iff (none_empty ws) _).0 e).1 in
    rw (e, stored (spans_from 0 ws) (omega (arith, spans_length 0 ws))))
    (λ e. rw e))

pub record Splitting (line : List ℕ) (spans : List Span) (from n : ℕ) : Type 0 where
  pub few : n ≤ 40
  pub within : from ≤ length line
  pub left : split_of line ≡ finish spans n from (words_of (drop from line))

pub split_none : (line : List ℕ) → Splitting line (replicate 40 no_span) 0 0
split_none line = record { few = zero-le; within = zero-le; left = finish_none line }

pub split_many : {line : List ℕ} {spans : List Span} {from n : ℕ} → Splitting line spans from n → 40 ≤ n → places_of [] ≡ split_of line
unfolding finish
split_many {line} {from = from} {n} s h =
    let ws : List (List ℕ) = words_of (drop from line) in
    sym (s.left ∙ rw (lt-leb (n + length ws) 40 (omega (arith, one_word (drop from line))), and-false))

-- the next space, or the line's end, is found at `end`, as many octets after `from` as the word has
module _ {line : List ℕ} {spans : List Span} {from n : ℕ} (end : ℕ) (s : Splitting line spans from n)
    (at_end : end ≡ from + first_of 32 (drop from line)) where
  -- the word from `from` to `end`, and the words behind it
  record Next (w : List ℕ) (ws : List (List ℕ)) : Type 0 where
    are : words_of (drop from line) ≡ w ∷ ws
    long : from + length w ≡ end

  -- a space: a word ends, and another is to follow
  next_more : end < length line → Next (take (end - from) (drop from line)) (words_of (drop (end + 1) line))
  next_more h =
      let l = length-drop from line in
      let k : first_of 32 (drop from line) ≡ end - from = omega (arith, at_end) in
      let d : from + suc (end - from) ≡ end + 1 = omega (arith, at_end) in
      record {
        are = first_more (drop from line) (omega (arith, at_end)) ∙ rw (k, drop-drop, d);
        long = omega (arith, at_end, length-take-le (end - from) (drop from line) (omega arith));
      }

  -- the line's end: the last word
  next_last : end ≡ length line → Next (drop from line) []
  next_last h =
      let l = length-drop from line in
      record { are = first_last (drop from line) (omega (arith, at_end)); long = omega (arith, s.within) }

  module _ {w : List ℕ} {ws : List (List ℕ)} (next : Next w ws) where
    word_found : (end ≡ from → ⊥) → split_of line ≡ finish (set spans n (record { start = from; end = end })) (n + 1) (end + 1) ws
    unfolding finish none_empty spans_from
    word_found e =
        let k : n + suc (length ws) ≡ suc n + length ws = omega arith in
        s.left ∙ rw (next.are, le-leb 1 (length w) (omega (arith, at_end)), k, add-one n, next.long)

    none_found : end ≡ from → places_of [] ≡ split_of line
    unfolding finish none_empty
    none_found e = let z : length w ≡ 0 = omega arith in sym (s.left ∙ rw (next.are, z))

  pub split_more : end < length line → (end ≡ from → ⊥) → n < 40 → Splitting line (set spans n (record { start = from; end = end })) (end + 1) (n + 1)
  split_more h e l = record { few = omega arith; within = omega arith; left = word_found (next_more h) e }

  pub split_last : end ≡ length line → (end ≡ from → ⊥) → n < 40
      → ◌≡◌ {A = Words} (record { count = n + 1; spans = set spans n (record { start = from; end = end }) }) (split_of line)
  unfolding finish none_empty spans_from
  split_last h e l = sym (word_found (next_last h) e ∙ rw (add-zero (n + 1), le-leb (n + 1) 40 (omega arith)))

  pub split_empty : end ≡ from → places_of [] ≡ split_of line
  split_empty e = by_less end (length line) (λ h. none_found (next_more h) e) (λ h. none_found (next_last (omega (arith, s.within))) e)

-- WHERE A WORD IS
pub part_of_lem : (line : List ℕ) (s e : ℕ) → s ≤ e → e ≤ length line → part_of line (record { start = s; end = e }) ≡ take (e - s) (drop s line)
unfolding part_of
part_of_lem line s e h l = rw (le-leb _ _ h, le-leb _ _ l)

pub part_crossed : (line : List ℕ) (s e : ℕ) → e < s → part_of line (record { start = s; end = e }) ≡ []
unfolding part_of
part_crossed line s e h = rw (lt-leb _ _ h)

pub part_over : (line : List ℕ) (s e : ℕ) → length line < e → part_of line (record { start = s; end = e }) ≡ []
unfolding part_of
part_over line s e h = rw (lt-leb e (length line) h, and-false)

-- the same of where the part stands, octet a of the memory that starts at octet o of block b
stands_at : (b o : ℕ) {a p : ℕ} → a ≡ p → ◌≡◌ {A = ℕ × ℕ} (b, a + o) (b, o + p)
stands_at b o e = ap (λ x. (b, x)) (omega (arith, e))

pub stands_of : (line : List ℕ) (s e b o : ℕ) → s ≤ e → e ≤ length line → ◌≡◌ {A = ℕ × ℕ} (b, s + o) (b, o + part_start line (record { start = s; end = e }))
unfolding part_start
stands_of line s e b o h l = stands_at b o (rw (le-leb _ _ h, le-leb _ _ l))

pub stands_crossed : (line : List ℕ) (s e b o : ℕ) → e < s → ◌≡◌ {A = ℕ × ℕ} (b, 0 + o) (b, o + part_start line (record { start = s; end = e }))
unfolding part_start
stands_crossed line s e b o h = stands_at b o (rw (lt-leb _ _ h))

pub stands_over : (line : List ℕ) (s e b o : ℕ) → length line < e → ◌≡◌ {A = ℕ × ℕ} (b, 0 + o) (b, o + part_start line (record { start = s; end = e }))
unfolding part_start
stands_over line s e b o h = stands_at b o (rw (lt-leb e (length line) h, and-false))

-- a word that stands in a text behind `front`, as the part from its start to its end
part_in : (front w rest : List ℕ) {at : ℕ} → length front ≡ at → part_of (front ++ (w ++ rest)) (record { start = at; end = at + length w }) ≡ w
part_in front w rest {at} e =
    let d : at + length w - at ≡ length w = omega arith in
    part_of_lem _ _ _ (omega arith) (simp length-append (omega arith)) ∙ rw (d, drop_at front (w ++ rest) at e, take-append_seam)

-- of words with one space between, the first at `at`, the part from word k's start to its end is word k, and nothing past the last
parts : (front : List ℕ) (at : ℕ) (ws : List (List ℕ)) (k : ℕ) → length front ≡ at
    → part_of (front ++ joined ws) (get_or (spans_from at ws) k no_span) ≡ get_or ws k []
unfolding joined spans_from
parts front at [] k e = part_of_lem _ 0 0 zero-le zero-le
parts front at (w ∷ []) zero e = rw append-nil at (part_in front w [] e)
parts front at (w ∷ []) (suc k) e = part_of_lem _ 0 0 zero-le zero-le
parts front at (w ∷ v ∷ ws) zero e = part_in front w (32 ∷ joined (v ∷ ws)) e
parts front at (w ∷ v ∷ ws) (suc k) e =
    simp append_assoc at (parts (front ++ (w ++ 32 ∷ [])) (at + length w + 1) (v ∷ ws) k (simp length-append (omega arith)))

-- the empty parts behind a list are what an index past its end reads
zeros : (n k : ℕ) → get_or (replicate n no_span) k no_span ≡ no_span
zeros zero k = refl
zeros (suc n) zero = refl
zeros (suc n) (suc k) = zeros n k

pub padded : (xs : List Span) (n k : ℕ) → get_or (xs ++ replicate n no_span) k no_span ≡ get_or xs k no_span
padded [] n k = zeros n k
padded (x ∷ xs) n zero = refl
padded (x ∷ xs) n (suc k) = padded xs n k

-- FOR CALLERS: what the places of a line that was split give is its word k, and nothing past the last
pub word_is : (line : List ℕ) (k : ℕ) → word_in line (split_of line) k ≡ get_or (line_words line) k []
unfolding word_in split_of places_of line_words forty spans_from
word_is line k =
    simp padded
    (by_test (none_empty (words_of line) && leb (length (words_of line)) 40)
    (λ e. rw e (rw (line_back line) at (parts [] 0 (words_of line) k refl)))
    (λ e. rw e (part_of_lem line 0 0 zero-le zero-le)))

-- FOR CALLERS: the same from what `split` and `word` ensure
pub count_of : (line : List ℕ) (places : Words) → places ≡ split_of line → places.count ≡ length (line_words line)
unfolding split_of places_of
count_of line places e = rw e

pub word_of : (line : List ℕ) (places : Words) (k : ℕ) (word : List ℕ) → places ≡ split_of line → word ≡ word_in line places k
    → word ≡ get_or (line_words line) k []
word_of line places k word e f = f ∙ rw e (word_is line k)

-- A NAME. FOR CALLERS: what `check::same` answers is whether a word is a name
name_same : (word name : List ℕ) → is_name word name ≡ true → word ≡ name
unfolding is_name
name_same [] [] e = refl
name_same [] (c ∷ name) e = absurd (false≢true e)
name_same (b ∷ word) [] e = absurd (false≢true e)
name_same (b ∷ word) (c ∷ name) e =
    let both = (and-eq-true_iff (eqb b c) _).0 e in
    let r : word ≡ name = name_same word name both.1 in
    rw (eqb-true b c both.0, r)

name_itself : (word : List ℕ) → is_name word word ≡ true
unfolding is_name
name_itself [] = refl
name_itself (b ∷ word) = rw (eq-eqb b b refl) (name_itself word)

pub same_is : (r : Bool) (word name : List ℕ) → (r ≡ true → word ≡ name) × (word ≡ name → r ≡ true) → r ≡ is_name word name
same_is true word name h = let e : word ≡ name = h.0 refl in rw e (sym (name_itself name))
same_is false word name h = by_test (is_name word name) (λ e. h.1 (name_same word name e) ∙ sym e) (λ e. sym e)
