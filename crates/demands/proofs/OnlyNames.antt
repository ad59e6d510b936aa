-- OF TWO ELEMENTS THAT THERE ARE ONE STANDS EARLIER by its way, or they have the same name: a way ends with its own element, which is no ARRAY, so no way is the beginning of another.
-- Assumes nothing.
use Prim.Native.Nat.{ℕ, ◌<◌, ◌≤◌}
use mathlib.Core.Path.{◌≡◌, refl, sym}
use mathlib.Core.Logic.{inl, inr}
use mathlib.Core.Bool.{true}
use mathlib.Core.List.{List, [], ◌∷◌}
use lib.ListN.{length}
use borrow.Author.Tests.{ltb-true, leb-true, eqb-true}
use native.Mathlib.Decide.{dec_lt}
use native.Mathlib.Omega.{arith}
use Rattle.meaning.specs.Basics.{◌≤?◌}
use Rattle.meaning.specs.declared.ElementName.{ElementName}
use Rattle.meaning.specs.Causes.{subscripts_of}
use Rattle.meaning.specs.Description.{item_count, fields_at, is_element, is_array, kind_of}
use Rattle.meaning.proofs.Either.{tested}
use Rattle.almanac.proofs.Tests.{both_true}
use Rattle.laying.specs.Every.{Every}
use Rattle.meaning.specs.Layout.{Numbers}
use Rattle.demands.specs.Demand3.{SameName}
use Rattle.demands.specs.Walk.{arrays_of, arrays_round, has_element, exists, way, way_to, Earlier}
use Rattle.demands.proofs.OnlyTiles.{Compared, earlier, same, later}

-- WAYS
-- numbers
compare : (a b : ℕ) → Compared (a < b) (a ≡ b) (b < a)
compare a b = go (dec_lt a b) (dec_lt b a)
  where
    go : Dec (a < b) → Dec (b < a) → Compared (a < b) (a ≡ b) (b < a)
    go (yes l) k = earlier l
    go (no l) (yes k) = later k
    go (no l) (no k) = same (omega (arith, l, k))

-- lists of numbers by their first, and where that is the same by the rest
by_first : {S : Type 0} (a b : ℕ) (p q : List ℕ) → (a ≡ b → Compared (Earlier p q) S (Earlier q p)) → Compared (Earlier (a ∷ p) (b ∷ q)) S (Earlier (b ∷ q) (a ∷ p))
unfolding Earlier
by_first {S} a b p q rest = go (compare a b)
  where
    further : a ≡ b → Compared (Earlier p q) S (Earlier q p) → Compared (Earlier (a ∷ p) (b ∷ q)) S (Earlier (b ∷ q) (a ∷ p))
    further e (earlier h) = earlier (inr (e, h))
    further e (same h) = same h
    further e (later h) = later (inr (sym e, h))

    go : Compared (a < b) (a ≡ b) (b < a) → Compared (Earlier (a ∷ p) (b ∷ q)) S (Earlier (b ∷ q) (a ∷ p))
    go (earlier h) = earlier (inl h)
    go (same e) = further e (rest e)
    go (later h) = later (inl h)

same_so : {B S T A : Type 0} → (S → T) → Compared B S A → Compared B T A
same_so f (earlier h) = earlier h
same_so f (same h) = same (f h)
same_so f (later h) = later h

module _ (d : List ℕ) where
  abbrev pub Element : ℕ → Type 0
  Element i = is_element (fields_at d i) ≡ true

  abbrev pub Array : ℕ → Type 0
  Array i = is_array (fields_at d i) ≡ true

  pub arrays_are : (js : List ℕ) → Every Array (arrays_of d js)
  unfolding arrays_of Every
  arrays_are [] = tt
  arrays_are (j ∷ js) = tested (Every Array) (is_array (fields_at d j)) _ _ (λ e. (e, arrays_are js)) (λ e. arrays_are js)

  not_both : (i j : ℕ) → Element i → Array j → i ≡ j → ⊥
  not_both i j h k e =
      let most = leb-true (kind_of (fields_at d i)) 4 (both_true (2 ≤? kind_of (fields_at d i)) _ h).1 in
      let five = eqb-true (kind_of (fields_at d j)) 5 k in
      omega (arith, rw e at most)

  ways : (ks bs xs ys : List ℕ) (i j : ℕ) → Every Array ks → Every Array bs → length xs ≡ length ks → length ys ≡ length bs → Element i → Element j
      → Compared (Earlier (way ks xs i) (way bs ys j)) ((i ≡ j) × (xs ≡ ys)) (Earlier (way bs ys j) (way ks xs i))
  unfolding way Every
  ways [] [] [] [] i j f g h k is js = by_first i j [] [] (λ e. same (e, refl))
  ways [] [] [] (y ∷ ys) i j f g h k is js = absurd (omega arith)
  ways [] [] (x ∷ xs) ys i j f g h k is js = absurd (omega arith)
  ways [] (b ∷ bs) xs [] i j f g h k is js = absurd (omega arith)
  ways [] (b ∷ bs) xs (y ∷ ys) i j f g h k is js = by_first i b [] _ (λ e. absurd (not_both i b is g.0 e))
  ways (a ∷ ks) bs [] ys i j f g h k is js = absurd (omega arith)
  ways (a ∷ ks) [] (x ∷ xs) ys i j f g h k is js = by_first a j _ [] (λ e. absurd (not_both j a js f.0 (sym e)))
  ways (a ∷ ks) (b ∷ bs) (x ∷ xs) [] i j f g h k is js = absurd (omega arith)
  ways (a ∷ ks) (b ∷ bs) (x ∷ xs) (y ∷ ys) i j f g h k is js =
      by_first a b _ _ (λ e. by_first x y _ _ (λ u. same_so (λ r. (r.0, cc r.1))
      (ways ks bs xs ys i j f.1 g.1 (omega arith) (omega arith) is js)))

  -- THE ELEMENTS THAT THERE ARE
  pub record Existing (q : ElementName) : Type 0 where
    pub few : q.count ≤ 4
    pub below : q.item < item_count d
    pub element : Element q.item
    pub many : length (subscripts_of q) ≡ length (arrays_round d q.item)

  pub existing : (v : Numbers) (q : ElementName) → exists d v q ≡ true → Existing q
  unfolding exists has_element
  existing v q e =
      let (few, has) = both_true _ _ e in
      let (rest, chosen) = both_true _ _ has in
      let (rest, below) = both_true _ _ rest in
      let (rest, many) = both_true _ _ rest in
      let (there, element) = both_true _ _ rest in
      record { few = leb-true _ _ few; below = ltb-true _ _ there; element = element; many = eqb-true _ _ many }

  pub names_compared : (q r : ElementName) → Existing q → Existing r → Compared (Earlier (way_to d q) (way_to d r)) (SameName q r) (Earlier (way_to d r) (way_to d q))
  names_compared q r h k =
      same_so (λ e. record { item = e.0; subscripts = e.1 })
      (ways (arrays_round d q.item) (arrays_round d r.item) (subscripts_of q) (subscripts_of r) q.item r.item (arrays_are _) (arrays_are _) h.many k.many
      h.element k.element)
