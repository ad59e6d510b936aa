-- Elements of which no two have one name: of a list joined of two, and that each is found by its own. Assumes nothing.
use Prim.Native.Nat.{ℕ}
use mathlib.Core.Path.{◌≡◌, refl}
use mathlib.Core.Bool.{true, ◌&&◌, false≢true, and-eq-true_iff}
use mathlib.Core.List.{List, [], ◌∷◌, ◌++◌}
use mathlib.Core.Option.{some}
use borrow.Author.Tests.{eqb-true, eq-eqb}
use Rattle.meaning.specs.Basics.{◌=?◌}
use Rattle.meaning.specs.Layout.{Placed, same_list, element_named}
use Rattle.laying.specs.Every.{Every}
use Rattle.laying.specs.Names.{Differ, Apart, Found}
use Rattle.meaning.proofs.Either.{tested, clash}
use Rattle.laying.proofs.Every.{every_map, every_both, every_append}

-- no name of the first list is one of the second
pub apart_append : (P Q : Placed → Type 0) → ((e f : Placed) → P e → Q f → Differ e f)
    → (ps qs : List Placed) → Every P ps → Every Q qs → Apart ps → Apart qs → Apart (ps ++ qs)
unfolding Every Apart
apart_append P Q clash [] qs hp hq a b = b
apart_append P Q clash (e ∷ ps) qs hp hq a b =
    (every_append (Differ e) ps qs a.0 (every_map Q (Differ e) (λ f h. clash e f hp.0 h) qs hq), apart_append P Q clash ps qs hp.1 hq a.1 b)

-- equal lists, by the test
pub same_true : (xs ys : List ℕ) → same_list xs ys ≡ true → xs ≡ ys
unfolding same_list
same_true [] [] e = refl
same_true [] (y ∷ ys) e = absurd (false≢true e)
same_true (x ∷ xs) [] e = absurd (false≢true e)
same_true (x ∷ xs) (y ∷ ys) e = let b = (and-eq-true_iff (x =? y) (same_list xs ys)).0 e in cc (eqb-true x y b.0, same_true xs ys b.1)

-- a list is equal to itself
same_refl : (xs : List ℕ) → same_list xs xs ≡ true
unfolding same_list
same_refl [] = refl
same_refl (x ∷ xs) = rw (eq-eqb x x refl) (same_refl xs)

-- an element that has a name, by the test
pub named_true : (e : Placed) (i : ℕ) (subs : List ℕ) → (e.item =? i && same_list e.subscripts subs) ≡ true → (e.item ≡ i) × (e.subscripts ≡ subs)
named_true e i subs t =
    let b = (and-eq-true_iff (e.item =? i) (same_list e.subscripts subs)).0 t in
    (eqb-true e.item i b.0, same_true e.subscripts subs b.1)

-- an element that comes first is found by its name
found_first : (e : Placed) (es : List Placed) → element_named e.item e.subscripts (e ∷ es) ≡ some e
unfolding element_named
found_first e es = rw (eq-eqb e.item e.item refl, same_refl e.subscripts)

-- an element before it with another name doesn't matter
found_later : (e : Placed) (es : List Placed) (f : Placed) → Differ e f → element_named f.item f.subscripts es ≡ some f
    → element_named f.item f.subscripts (e ∷ es) ≡ some f
unfolding element_named
found_later e es f d h =
    tested (λ o. o ≡ some f) (e.item =? f.item && same_list e.subscripts f.subscripts) _ _
    (λ t. let n = named_true e f.item f.subscripts t in absurd (d n.0 n.1)) (λ t. h)

-- where no two have one name, each is found by its own
pub apart_found : (es : List Placed) → Apart es → Found es
unfolding Every Apart
apart_found [] a = tt
apart_found (e ∷ es) a = (found_first e es, every_both (Differ e) _ _ (λ f d h. found_later e es f d h) es a.0 (apart_found es a.1))
