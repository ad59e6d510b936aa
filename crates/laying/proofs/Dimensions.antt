-- Octets of dimensions: n octets hold none, by the search that a write makes, exactly where each element that holds one of them sets no slot. So elements
-- before and after them don't count, and an element's own octets hold one of a dimension exactly where the element itself is one. Assumes nothing.
use Prim.Native.Nat.{ℕ, ◌+◌, ◌<◌, ◌≤◌, min, max}
use mathlib.Core.Path.{◌≡◌, refl, sym, ap, ◌∙◌}
use mathlib.Core.Logic.{◌⊎◌, inl, inr}
use mathlib.Core.Bool.{Bool, true, false, ◌&&◌, ◌||◌}
use mathlib.Core.List.{List, [], ◌∷◌}
use borrow.Author.Tests.{ltb-true, ltb-false}
use native.Mathlib.Omega.{arith}
use Rattle.meaning.specs.Basics.{◌<?◌}
use Rattle.meaning.specs.declared.ElementName.{ElementName}
use Rattle.meaning.specs.Description.{fields_at, is_dimension}
use Rattle.meaning.specs.Layout.{Placed}
use Rattle.meaning.specs.Refusals.{any_dimension}
use Rattle.meaning.proofs.Ranges.{fields_range}
use Rattle.meaning.proofs.Rules.{either_false, both_false}
use Rattle.laying.specs.Every.{Every}
use Rattle.laying.proofs.Among.{every_among, among_every, only_has}
use Rattle.laying.proofs.Every.{every_map}
use Rattle.laying.proofs.Found.{element_of_lem, element_own}
use Rattle.laying.proofs.LaidOut.{elements_follow}
use Rattle.laying.proofs.Opened.{ElementAt}

module _ (p n : ℕ) where
  -- an element that holds one of the n octets from p on sets no slot
  abbrev pub Free : Placed → Type 0
  Free e = (x : ℕ) → p ≤ x → x < p + n → e.start ≤ x → x < e.start + e.size → e.slot ≡ 0

  -- where the search finds no dimension, each element is free
  pub search_free : (es : List Placed) → any_dimension es p n ≡ false → Every Free es
  unfolding any_dimension Every
  search_free [] h = tt
  search_free (e ∷ es) h = (λ x a b c f. go x a b c f (0 <? e.slot) refl, search_free es both.1)
    where
      both : ((0 <? e.slot && max p e.start <? min (p + n) (e.start + e.size)) ≡ false) × (any_dimension es p n ≡ false)
      both = either_false (0 <? e.slot && max p e.start <? min (p + n) (e.start + e.size)) (any_dimension es p n) h

      go : (x : ℕ) → p ≤ x → x < p + n → e.start ≤ x → x < e.start + e.size → (b : Bool) → (0 <? e.slot) ≡ b → e.slot ≡ 0
      go x a b c f true g =
          absurd (omega (arith, ltb-false (max p e.start) (min (p + n) (e.start + e.size)) (both_false (0 <? e.slot) _ both.0 g)))
      go x a b c f false g = omega (arith, ltb-false 0 e.slot g)

  -- and where each is, the search finds none
  pub free_search : (es : List Placed) → Every Free es → any_dimension es p n ≡ false
  unfolding any_dimension Every
  free_search [] h = refl
  free_search (e ∷ es) h = go (0 <? e.slot) (max p e.start <? min (p + n) (e.start + e.size)) refl refl (free_search es h.1)
    where
      go : (a b : Bool) → (0 <? e.slot) ≡ a → (max p e.start <? min (p + n) (e.start + e.size)) ≡ b → any_dimension es p n ≡ false
          → (a && b || any_dimension es p n) ≡ false
      go true true f g rest =
          let s = ltb-true 0 e.slot f in
          let l = ltb-true (max p e.start) (min (p + n) (e.start + e.size)) g in
          absurd (omega (arith, h.0 (max p e.start) (omega arith) (omega arith) (omega arith) (omega arith)))
      go true false f g rest = rest
      go false b f g rest = rest

  -- elements that end before these octets or start after them hold none of them
  pub no_dimension : (es : List Placed) → Every (λ e. (e.start + e.size ≤ p) ⊎ (p + n ≤ e.start)) es → any_dimension es p n ≡ false
  no_dimension es h = free_search es (every_map _ Free (λ e f x a b c g. go e x f a b c g) es h)
    where
      go : (e : Placed) (x : ℕ) → (e.start + e.size ≤ p) ⊎ (p + n ≤ e.start) → p ≤ x → x < p + n → e.start ≤ x → x < e.start + e.size → e.slot ≡ 0
      go e x (inl f) a b c g = absurd (omega arith)
      go e x (inr f) a b c g = absurd (omega arith)

-- AN ELEMENT WHOSE PLACE IS REPLIED: no other element holds any of its octets, and a dimension has at least one
module _ {d img : List ℕ} {q : ElementName} {p n : ℕ} (a : ElementAt d img q p n) where
  -- where it sets no slot, its octets are of no dimension
  own_free : (fields_at d q.item).sets ≡ 0 → Every (Free p n) a.elements
  own_free z =
      among_every (Free p n) a.elements (λ e m x b c f g.
      let same = only_has (elements_follow d img a.seats a.elements a.slots a.total a.opens.laid) x a.at.element e (element_of_lem a).among m
      (omega (arith, a.at.start), omega (arith, a.at.start, a.at.size)) (f, g) in
      omega (arith, ap (λ y. y.slot) same, (element_own a).sets))

  -- its octets hold one of a dimension exactly where it is one
  pub element_dimension : any_dimension a.elements p n ≡ is_dimension (fields_at d q.item)
  element_dimension = go (any_dimension a.elements p n) (is_dimension (fields_at d q.item)) refl refl
    where
      go : (b c : Bool) → any_dimension a.elements p n ≡ b → is_dimension (fields_at d q.item) ≡ c → b ≡ c
      go true true h k = refl
      go false false h k = refl
      go true false h k = sym h ∙ free_search p n a.elements (own_free (omega (arith, ltb-false 0 (fields_at d q.item).sets k)))
      go false true h k =
          let r = fields_range d q.item in
          let sets = ltb-true 0 (fields_at d q.item).sets k in
          let some = (element_own a).long (omega (arith, r.dimension sets)) in
          let free = every_among (Free p n) a.at.element a.elements (search_free p n a.elements h) (element_of_lem a).among p in
          let octets = r.some_octets sets in
          absurd (omega (arith, free (omega arith) (omega arith) (omega (arith, a.at.start)) (omega (arith, a.at.start, a.at.size)), (element_own a).sets))
