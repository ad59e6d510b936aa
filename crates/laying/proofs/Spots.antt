-- Spots: one further on, the first of two, in a list of elements, in an array, and by a row. Assumes nothing.
use Prim.Native.Nat.{ℕ, suc, ◌+◌, ◌-◌, ◌*◌, ◌<◌, ◌≤◌}
use mathlib.Core.Path.{◌≡◌, refl, ◌∙◌, ap, sym}
use mathlib.Core.Logic.{◌⊎◌, inl, inr}
use mathlib.Core.Bool.{Bool, true, false, cond, ◌&&◌, and-false}
use mathlib.Core.List.{List, [], ◌∷◌, ◌++◌}
use mathlib.Core.Option.{Option, some, none}
use lib.Dec.{eqb, ltb}
use borrow.Author.Tests.{eqb-true, eqb-false, ltb-true, ltb-false, lt-ltb, le-ltb}
use native.Mathlib.Nat.{zero-mul, suc-mul}
use native.Mathlib.Omega.{arith}
use Rattle.meaning.specs.Layout.{Placed, under, same_list, element_named}
use Rattle.laying.specs.Rows.{Array, Row, row, no_row, Spot, spot, absent, spot_in, row_spot, first_row, onward, in_array, spot_of, seen}

-- the first that is somewhere
unfoldable pub or_else : Spot → Spot → Spot
or_else (spot p n) b = spot p n
or_else absent b = b

-- so many octets further on
unfoldable pub further : ℕ → Spot → Spot
further k (spot p n) = spot (k + p) n
further k absent = absent

pub or_absent : (a : Spot) → or_else a absent ≡ a
unfolding or_else
or_absent (spot p n) = refl
or_absent absent = refl

pub further_or : (k : ℕ) (a b : Spot) → further k (or_else a b) ≡ or_else (further k a) (further k b)
unfolding further or_else
further_or k (spot p n) b = refl
further_or k absent b = refl

pub further_twice : (j k : ℕ) (a : Spot) → further j (further k a) ≡ further (j + k) a
unfolding further
further_twice j k (spot p n) = let e : j + (k + p) ≡ j + k + p = omega arith in rw e
further_twice j k absent = refl

pub further_none : (a : Spot) → further 0 a ≡ a
unfolding further
further_none (spot p n) = let e : 0 + p ≡ p = omega arith in rw e
further_none absent = refl

pub further_absent : (k : ℕ) → further k absent ≡ absent
unfolding further
further_absent k = refl

-- IN LISTS OF ELEMENTS
pub seen_none : (i : ℕ) (xs : List ℕ) → seen i xs [] ≡ absent
unfolding element_named spot_of
seen_none i xs = refl

pub seen_append : (i : ℕ) (xs : List ℕ) (ps qs : List Placed) → seen i xs (ps ++ qs) ≡ or_else (seen i xs ps) (seen i xs qs)
unfolding element_named spot_of or_else
seen_append i xs [] qs = refl
seen_append i xs (e ∷ es) qs = go (eqb e.item i && same_list e.subscripts xs) (seen_append i xs es qs)
  where
    go : (b : Bool) → seen i xs (es ++ qs) ≡ or_else (seen i xs es) (seen i xs qs)
        → spot_of (cond b (some e) (element_named i xs (es ++ qs))) ≡ or_else (spot_of (cond b (some e) (element_named i xs es))) (seen i xs qs)
    go true h = refl
    go false h = h

-- one element, outside arrays or under none yet
pub seen_one : (j k p n i : ℕ) (xs : List ℕ)
    → seen i xs (record { item = j; slot = k; subscripts = []; start = p; size = n } ∷ []) ≡ further p (row_spot (cond (eqb j i) (row 0 n []) no_row) xs)
unfolding element_named spot_of same_list further row_spot spot_in
seen_one j k p n i [] = go (eqb j i)
  where
    go : (b : Bool) → spot_of (cond {A = Option Placed} (b && true) (some (record { item = j; slot = k; subscripts = []; start = p; size = n })) none)
        ≡ further p (row_spot (cond b (row 0 n []) no_row) [])
    go true = let e : p + 0 ≡ p = omega arith in rw e
    go false = refl
seen_one j k p n i (x ∷ xs) = go (eqb j i)
  where
    go : (b : Bool) → spot_of (cond {A = Option Placed} (b && false) (some (record { item = j; slot = k; subscripts = []; start = p; size = n })) none)
        ≡ further p (row_spot (cond b (row 0 n []) no_row) (x ∷ xs))
    go true = refl
    go false = refl

-- in an array's element j, the first subscript is j
pub seen_under : (i j x : ℕ) (xs : List ℕ) (ps : List Placed) → seen i (x ∷ xs) (under j ps) ≡ cond (eqb j x) (seen i xs ps) absent
unfolding element_named spot_of same_list under
seen_under i j x xs [] = go (eqb j x)
  where
    go : (b : Bool) → absent ≡ cond b absent absent
    go true = refl
    go false = refl
seen_under i j x xs (e ∷ es) = go (eqb e.item i) (eqb j x) (same_list e.subscripts xs) (seen_under i j x xs es)
  where
    deeper : Placed
    deeper = record { item = e.item; slot = e.slot; subscripts = j ∷ e.subscripts; start = e.start; size = e.size }

    go : (a b c : Bool) → seen i (x ∷ xs) (under j es) ≡ cond b (seen i xs es) absent
        → spot_of (cond (a && (b && c)) (some deeper) (element_named i (x ∷ xs) (under j es))) ≡ cond b (spot_of (cond (a && c) (some e) (element_named i xs es))) absent
    go true true true h = refl
    go true true false h = h
    go true false c h = h
    go false true c h = h
    go false false c h = h

-- and there is one
pub seen_unnamed : (i j : ℕ) (ps : List Placed) → seen i [] (under j ps) ≡ absent
unfolding element_named spot_of same_list under
seen_unnamed i j [] = refl
seen_unnamed i j (e ∷ es) = rw (and-false (eqb e.item i)) (seen_unnamed i j es)

-- ONE ELEMENT OF AN ARRAY AFTER ANOTHER
-- of c elements from subscript j on, each w octets long, the first subscript picks the one to look in
unfoldable pub some_spot : (j c w : ℕ) → (List ℕ → Spot) → List ℕ → Spot
some_spot j c w f [] = absent
some_spot j c w f (x ∷ xs) = cond (ltb x j) absent (cond (ltb x (j + c)) (further ((x - j) * w) (f xs)) absent)

pub some_none : (j w : ℕ) (f : List ℕ → Spot) (xs : List ℕ) → some_spot j 0 w f xs ≡ absent
unfolding some_spot
some_none j w f [] = refl
some_none j w f (x ∷ xs) = go (ltb x j) refl
  where
    go : (b : Bool) → ltb x j ≡ b → cond b absent (cond (ltb x (j + 0)) (further ((x - j) * w) (f xs)) absent) ≡ absent
    go true e = refl
    go false e = let h : j + 0 ≤ x = omega (arith, ltb-false x j e) in rw (le-ltb x (j + 0) h)

-- the first of them, then the others
pub some_more : (i j c w p : ℕ) (ps : List Placed) (f : List ℕ → Spot) → ((xs : List ℕ) → seen i xs ps ≡ further p (f xs)) → (xs : List ℕ)
    → or_else (seen i xs (under j ps)) (further (p + w) (some_spot (j + 1) c w f xs)) ≡ further p (some_spot j (suc c) w f xs)
unfolding some_spot or_else further
some_more i j c w p ps f h [] = rw (seen_unnamed i j ps)
some_more i j c w p ps f h (x ∷ xs) = rw (seen_under i j x xs ps, h xs) (go (eqb j x) refl)
  where
    go : (b : Bool) → eqb j x ≡ b
        → or_else (cond b (further p (f xs)) absent) (further (p + w) (cond (ltb x (j + 1)) absent (cond (ltb x (j + 1 + c)) (further ((x - (j + 1)) * w) (f xs)) absent)))
        ≡ further p (cond (ltb x j) absent (cond (ltb x (j + suc c)) (further ((x - j) * w) (f xs)) absent))
    go true e =
        let a : j ≡ x = eqb-true j x e in
        let b : x < j + 1 = omega arith in
        let l : j ≤ x = omega arith in
        let u : x < j + suc c = omega arith in
        let z : x - j ≡ 0 = omega arith in
        rw (lt-ltb _ _ b, le-ltb x j l, lt-ltb _ _ u, z, zero-mul w) (or_absent (further p (f xs)) ∙ ap (further p) (sym (further_none (f xs))))
    go false e = below (ltb x j) refl
      where
        other : j ≡ x → ⊥
        other = eqb-false j x e

        last : (b : Bool) → j + 1 ≤ x
            → further (p + w) (cond b (further ((x - (j + 1)) * w) (f xs)) absent) ≡ further p (cond b (further ((x - j) * w) (f xs)) absent)
        last true a =
            let y : x - j ≡ suc (x - (j + 1)) = omega arith in
            let z : p + w + (x - (j + 1)) * w ≡ p + suc (x - (j + 1)) * w = omega (arith, suc-mul (x - (j + 1)) w) in
            further_twice (p + w) ((x - (j + 1)) * w) (f xs) ∙ rw (y, z) (sym (further_twice p (suc (x - (j + 1)) * w) (f xs)))
        last false a = refl

        below : (b : Bool) → ltb x j ≡ b
            → further (p + w) (cond (ltb x (j + 1)) absent (cond (ltb x (j + 1 + c)) (further ((x - (j + 1)) * w) (f xs)) absent))
            ≡ further p (cond b absent (cond (ltb x (j + suc c)) (further ((x - j) * w) (f xs)) absent))
        below true t = let a : x < j + 1 = omega (arith, ltb-true x j t) in rw (lt-ltb _ _ a)
        below false t =
            let a : j + 1 ≤ x = omega (arith, ltb-false x j t, other) in
            let b : j + 1 + c ≡ j + suc c = omega arith in
            rw (le-ltb x (j + 1) a, b) (last (ltb x (j + suc c)) a)

-- BY A ROW
pub spot_onward : (k p n : ℕ) (arrays : List Array) (xs : List ℕ) → spot_in (k + p) n arrays xs ≡ further k (spot_in p n arrays xs)
unfolding spot_in further
spot_onward k p n [] [] = refl
spot_onward k p n [] (x ∷ xs) = refl
spot_onward k p n (a ∷ rest) [] = refl
spot_onward k p n (a ∷ rest) (x ∷ xs) = go (ltb x a.count) (spot_onward k (p + x * a.stride) n rest xs)
  where
    go : (b : Bool) → spot_in (k + (p + x * a.stride)) n rest xs ≡ further k (spot_in (p + x * a.stride) n rest xs)
        → cond b (spot_in (k + p + x * a.stride) n rest xs) absent ≡ further k (cond b (spot_in (p + x * a.stride) n rest xs) absent)
    go true h = let e : k + p + x * a.stride ≡ k + (p + x * a.stride) = omega arith in rw e h
    go false h = refl

pub row_onward : (k : ℕ) (r : Row) (xs : List ℕ) → row_spot (onward k r) xs ≡ further k (row_spot r xs)
unfolding row_spot onward further
row_onward k (row p n rest) xs = spot_onward k p n rest xs
row_onward k no_row xs = refl

pub row_absent : (xs : List ℕ) → row_spot no_row xs ≡ absent
unfolding row_spot
row_absent xs = refl

-- all elements of an array are told by its count and stride
pub row_array : (c w : ℕ) (r : Row) (xs : List ℕ) → some_spot 0 c w (row_spot r) xs ≡ row_spot (in_array c w r) xs
unfolding some_spot row_spot in_array spot_in
row_array c w r [] = none_named r
  where
    none_named : (r : Row) → absent ≡ row_spot (in_array c w r) []
    none_named (row p n rest) = refl
    none_named no_row = refl
row_array c w r (x ∷ xs) =
    let h : 0 ≤ x = omega arith in
    let a : x - 0 ≡ x = omega arith in
    let b : 0 + c ≡ c = omega arith in
    rw (le-ltb x 0 h, a, b) (go r)
  where
    pick : (b : Bool) (p n : ℕ) (rest : List Array) → cond b (further (x * w) (spot_in p n rest xs)) absent ≡ cond b (spot_in (p + x * w) n rest xs) absent
    pick true p n rest = let e : x * w + p ≡ p + x * w = omega arith in sym (spot_onward (x * w) p n rest xs) ∙ rw e
    pick false p n rest = refl

    gone : (b : Bool) → cond b (further (x * w) absent) absent ≡ absent
    gone true = further_absent (x * w)
    gone false = refl

    go : (r : Row) → cond (ltb x c) (further (x * w) (row_spot r xs)) absent ≡ row_spot (in_array c w r) (x ∷ xs)
    go (row p n rest) = pick (ltb x c) p n rest
    go no_row = gone (ltb x c)

-- of two rows of which one at most is a row
pub row_first : (r q : Row) (xs : List ℕ) → (r ≡ no_row) ⊎ (q ≡ no_row) → row_spot (first_row r q) xs ≡ or_else (row_spot r xs) (row_spot q xs)
unfolding row_spot first_row or_else
row_first r q xs (inl e) = rw e
row_first (row p n rest) q xs (inr e) = rw e (sym (or_absent (spot_in p n rest xs)))
row_first no_row q xs (inr e) = refl
