-- Of an opened image: an element's place is refused by the first of its causes, and by nothing where there is such an element. Assumes nothing.
use Rattle.std.specs.Prelude.{if◌then◌else◌, Ok, Err}
use Prim.Native.Nat.{ℕ}
use mathlib.Core.Path.{◌≡◌, refl, sym, ◌∙◌, ap}
use mathlib.Core.Bool.{Bool, true, false, not, ◌&&◌, ◌||◌, and-false, true≢false}
use mathlib.Core.List.{List}
use mathlib.Core.Option.{Option, some, none}
use Rattle.meaning.specs.Basics.{◌<?◌}
use Rattle.meaning.specs.declared.ElementName.{ElementName}
use Rattle.meaning.specs.declared.Refusal.{Refusal}
use Rattle.meaning.specs.Causes.{why_none}
use Rattle.meaning.specs.Description.{item_count, fields_at, is_uint}
use Rattle.meaning.specs.Layout.{Placed, Seat, Slots}
use Rattle.meaning.specs.Questions.{refusal_in}
use Rattle.meaning.specs.Refusals.{open_image, element_in, element_for, placed_place, element_place_in, place_reply, place_number}
use Rattle.laying.proofs.Opened.{Opens, for_laid}
use Rattle.demands.specs.Causes.{is_other, causes_of}
use Rattle.demands.specs.Given.{first_of}
use Rattle.demands.specs.Walk.{numbers_in, exists}
use Rattle.demands.proofs.Causes.{is_nothing, given_none, why_given}
use Rattle.demands.proofs.Laid.{laid_numbers}
use Rattle.demands.proofs.Names.{name_found, none_found, name_there}
use Rattle.meaning.specs.Values.{Place}

-- a number is refused as its place is
pub number_refusal : (img : List ℕ) (x : Place) → refusal_in (place_number img x) ≡ refusal_in (place_reply x)
unfolding refusal_in place_number place_reply
number_refusal img (Ok e) = refl
number_refusal img (Err r) = refl

and_true : (b : Bool) → (b && true) ≡ b
and_true true = refl
and_true false = refl

module _ {d img : List ℕ} {ts : List Seat} {es : List Placed} {s : Slots} {total : ℕ} (o : Opens d img ts es s total) where
  abbrev v : ℕ → ℕ
  v = numbers_in d img

  there : (q : ElementName) → is_nothing (element_in q es) ≡ not (exists d v q)
  unfolding is_nothing
  there q = go (exists d v q) refl
    where
      go : (b : Bool) → exists d v q ≡ b → is_nothing (element_in q es) ≡ not b
      go true h = rw (name_found o q h).found
      go false h = rw (none_found o q h)

  -- found, exactly where there is one that suits what is asked
  found : (number : Bool) (q : ElementName) → is_nothing (element_for number d q es) ≡ not (exists d v q && not (is_other number d q))
  unfolding element_for is_nothing
  found number q = go number (is_uint (fields_at d q.item)) (q.item <? item_count d) refl
    where
      go : (n u t : Bool) → (q.item <? item_count d) ≡ t → is_nothing (if not n || t && u then element_in q es else none) ≡ not (exists d v q && not (n && not u))
      go false u t h = there q ∙ ap not (sym (and_true (exists d v q)))
      go true false t h = rw (and-false t, and-false (exists d v q))
      go true true true h = there q ∙ ap not (sym (and_true (exists d v q)))
      go true true false h = rw (not_there (exists d v q) refl)
        where
          not_there : (b : Bool) → exists d v q ≡ b → exists d v q ≡ false
          not_there true g = absurd (true≢false (sym (name_there d v q g) ∙ h))
          not_there false g = g

  pub refused_by_lem : (number : Bool) (q : ElementName) → refusal_in (place_reply (element_place_in number d q (open_image d img))) ≡ first_of (causes_of number d v q)
  unfolding refusal_in place_reply placed_place is_nothing
  refused_by_lem number q =
      rw (for_laid o number q, laid_numbers o)
      (go (element_for number d q es) (first_of (causes_of number d v q)) refl (found number q ∙ ap not (sym (given_none d v q number))))
    where
      go : (x : Option Placed) (r : Option Refusal) → first_of (causes_of number d v q) ≡ r → is_nothing x ≡ not (is_nothing (first_of (causes_of number d v q)))
          → refusal_in (place_reply (placed_place (why_none number d v q) x)) ≡ first_of (causes_of number d v q)
      go none none g h = absurd (true≢false (h ∙ rw g))
      go none (some r) g h = ap some (why_given d v q number r g) ∙ sym g
      go (some x) none g h = sym g
      go (some x) (some r) g h = absurd (true≢false (sym (h ∙ rw g)))
