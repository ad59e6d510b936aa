-- What looking a name up leans on: `Looked` says that it is none of the first k words. Assumes nothing.
use mathlib.Core.Path.{◌≡◌, sym, ◌∙◌}
use mathlib.Core.List.{List, [], ◌∷◌}
use mathlib.Core.Bool.{Bool, true, false, cond}
use Rattle.std.specs.Prelude.{Ok, Err}
use borrow.Author.Tests.{lt-ltb, le-ltb}
use Prim.Native.Nat.{ℕ, suc, ◌+◌, ◌≤◌, ◌<◌, zero-le, suc-le-suc}
use native.Mathlib.Numerals.{add-one}
use native.Mathlib.Nat.{zero-add, add-zero}
use native.Mathlib.Omega.{arith}
use lib.ListN.{length, get_or, drop, drop_of_length-le}
use lib.Seq.{drop-cons}
use Rattle.std.specs.Result.{result_unwrap_or}
use Rattle.words.proofs.Cases.{by_test, by_less}
use Rattle.words.specs.Line.{is_name, word_index, word_place, place_told}

pub record Looked (name : List ℕ) (words : List (List ℕ)) (k : ℕ) : Type 0 where
  pub within : k ≤ length words
  pub left : word_index name words ≡ k + word_index name (drop k words)

pub looked_none : (name : List ℕ) (words : List (List ℕ)) → Looked name words 0
looked_none name words = record { within = zero-le; left = sym (zero-add _) }

module _ {name : List ℕ} {words : List (List ℕ)} {k : ℕ} (l : Looked name words k) where
  next_word : {t : Bool} → k < length words → is_name name (get_or words k []) ≡ t
      → word_index name words ≡ k + cond t 0 (suc (word_index name (drop (k + 1) words)))
  unfolding word_index
  next_word h e = l.left ∙ rw (drop-cons words k [] h, add-one k, e)

  pub looked_here : k < length words → is_name name (get_or words k []) ≡ true → Ok k ≡ word_place name words
  unfolding word_place
  looked_here h e = let f : word_index name words ≡ k = next_word h e ∙ add-zero k in rw (f, lt-ltb _ _ h)

  pub looked_on : k < length words → is_name name (get_or words k []) ≡ false → Looked name words (k + 1)
  looked_on h e = record { within = omega arith; left = next_word h e ∙ omega arith }

  pub looked_all : length words ≤ k → Err (length words) ≡ word_place name words
  unfolding word_index word_place
  looked_all h =
      let e : drop k words ≡ [] = drop_of_length-le words h in
      let f : length words ≤ word_index name words = rw (l.left, e) (omega arith) in
      rw (le-ltb _ _ f)

-- FOR CALLERS: in numbers, the place of no word is how many there are
index_within : (name : List ℕ) (words : List (List ℕ)) → word_index name words ≤ length words
unfolding word_index
index_within name [] = zero-le
index_within name (word ∷ words) = by_test (is_name name word) (λ e. rw e zero-le) (λ e. rw e (suc-le-suc (index_within name words)))

-- the number in the reply is that, whether the name is a word or none
pub place_index : (name : List ℕ) (words : List (List ℕ)) → place_told (word_place name words) ≡ word_index name words
unfolding word_place place_told
place_index name words =
    by_less (word_index name words) (length words) (λ h. rw (lt-ltb _ _ h))
    (λ h. rw (le-ltb _ _ h) (omega (arith, index_within name words)))

pub place_or_all : (name : List ℕ) (words : List (List ℕ)) → result_unwrap_or (word_place name words) (length words) ≡ word_index name words
unfolding word_place
place_or_all name words =
    by_less (word_index name words) (length words) (λ h. rw (lt-ltb _ _ h))
    (λ h. rw (le-ltb _ _ h) (omega (arith, index_within name words)))

pub place_found : (name : List ℕ) (words : List (List ℕ)) (k : ℕ) → word_place name words ≡ Ok k → (k < length words) × (k ≡ word_index name words)
unfolding word_place
place_found name words k e =
    by_less (word_index name words) (length words)
    (λ h. let f : word_index name words ≡ k = cc (rw (lt-ltb _ _ h) at e) in (omega arith, sym f))
    (λ h. absurd (cc (rw (le-ltb _ _ h) at e)))

pub place_none : (name : List ℕ) (words : List (List ℕ)) (n : ℕ) → word_place name words ≡ Err n → (n ≡ length words) × (length words ≡ word_index name words)
unfolding word_place
place_none name words n e =
    by_less (word_index name words) (length words) (λ h. absurd (cc (rw (lt-ltb _ _ h) at e)))
    (λ h. let f : length words ≡ n = cc (rw (le-ltb _ _ h) at e) in (sym f, omega (arith, index_within name words)))
