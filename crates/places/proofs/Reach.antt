-- Where an element is, by the code's row: what is left after some ARRAYs, and that the place is the definition's where that lies in an image. Assumes nothing.
use Rattle.std.specs.Prelude.{Option, Some, None, if◌then◌else◌}
use Prim.Native.Nat.{ℕ, suc, ◌+◌, ◌*◌, ◌<◌, ◌≤◌}
use mathlib.Core.Path.{◌≡◌, refl, ◌∙◌, ap, sym}
use mathlib.Core.Logic.{◌⊎◌, inl, inr}
use mathlib.Core.Bool.{Bool, true, false}
use mathlib.Core.List.{List, [], ◌∷◌, map}
use borrow.Author.Tests.{eqb-true, eqb-false, eq-eqb, ne_eqb, lt-ltb, le-ltb, leb-true, leb-false}
use lib.ListN.{length, length-map, take}
use lib.Seq.{length-take-le}
use native.Mathlib.Omega.{arith}
use Rattle.meaning.specs.Basics.{◌=?◌, ◌<?◌, ◌≤?◌}
use Rattle.meaning.specs.declared.ElementName.{ElementName}
use Rattle.laying.specs.Rows.{Array, row, no_row, Spot, spot, absent, spot_in, row_spot}
use Rattle.laying.specs.Rows as def
use Rattle.places.specs.declared.rows.Arrays.{Arrays}
use Rattle.places.specs.declared.rows.Level.{Level}
use Rattle.places.specs.declared.rows.Row.{Row}
use Rattle.places.specs.Rows.{cut, array_of, arrays_of, said, cut_arrays, cut_row, Few, RowAs, reach_in, reached_by, spot_at, spot_by}
use Rattle.places.proofs.Numbers.{cut_mul}

-- WHAT IS LEFT of the ARRAYs and the subscripts, from octet o on: one step, where the subscript is below the count or isn't
abbrev pub left_at : (o : ℕ) → List Level → (subscripts : List ℕ) → Option ℕ
left_at o ls xs = reach_in o (map array_of ls) (take (length ls) xs)

module _ (o : ℕ) (a : Level) (ls : List Level) (x : ℕ) (xs : List ℕ) where
  pub left_next : x < a.count → left_at (cut (o + cut (x * a.stride))) ls xs ≡ left_at o (a ∷ ls) (x ∷ xs)
  unfolding reach_in
  left_next b = rw (lt-ltb x a.count b)

  pub left_past : a.count ≤ x → None ≡ left_at o (a ∷ ls) (x ∷ xs)
  unfolding reach_in
  left_past b = rw (le-ltb x a.count b)

-- and none, where one of the two comes to its end
pub left_none : (o : ℕ) (ls : List Level) (xs : List ℕ) → (ls ≡ []) ⊎ (xs ≡ []) → length ls ≤ length xs → Some o ≡ left_at o ls xs
unfolding reach_in
left_none o [] xs e l = refl
left_none o (a ∷ ls) xs (inl e) l = absurd (omega (arith, ap length e))
left_none o (a ∷ ls) xs (inr e) l = absurd (omega (arith, ap length e))

pub reached_all : (p : ℕ) (a : Arrays) (q : ElementName) → a.depth ≤ length a.levels → q.count ≡ a.depth
    → left_at (cut p) (take a.depth a.levels) q.subscripts ≡ reached_by p a q
unfolding reached_by
reached_all p a q l e = rw (length-take-le a.depth a.levels l, e, eq-eqb a.depth a.depth refl)

pub reached_not : (p : ℕ) (a : Arrays) (q : ElementName) → (q.count ≡ a.depth → ⊥) → None ≡ reached_by p a q
unfolding reached_by
reached_not p a q h = rw (ne_eqb q.count a.depth h)

-- WHERE THE NUMBERS of ARRAYs and subscripts differ, none is reached
if_same : {A : Type 0} (b : Bool) (x : A) → (if b then x else x) ≡ x
if_same true x = refl
if_same false x = refl

reach_unequal : (p : ℕ) (arrays : List Array) (xs : List ℕ) → (length arrays ≡ length xs → ⊥) → reach_in p arrays xs ≡ None
unfolding reach_in
reach_unequal p [] [] h = absurd (h refl)
reach_unequal p [] (x ∷ xs) h = refl
reach_unequal p (a ∷ rest) [] h = refl
reach_unequal p (a ∷ rest) (x ∷ xs) h = rw (reach_unequal (cut (p + cut (x * a.stride))) rest xs (λ e. h (ap suc e)), if_same)

reached_few : (p : ℕ) (a : Arrays) (q : ElementName) → Few 4 a → length q.subscripts ≡ 4
    → reached_by p a q ≡ (if q.count ≤? 4 then reach_in (cut p) (arrays_of a) (take q.count q.subscripts) else None)
unfolding reached_by
reached_few p a q few four = go (q.count =? a.depth) (q.count ≤? 4) refl refl
  where
    go : (b t : Bool) → q.count =? a.depth ≡ b → q.count ≤? 4 ≡ t → (if b then reach_in (cut p) (arrays_of a) (take q.count q.subscripts) else None)
        ≡ (if t then reach_in (cut p) (arrays_of a) (take q.count q.subscripts) else None)
    go true true e f = refl
    go false false e f = refl
    go true false e f = absurd (omega (arith, eqb-true q.count a.depth e, leb-false q.count 4 f, few.depth))
    go false true e f =
        let l : q.count ≤ 4 = leb-true _ _ f in
        let n : length (take q.count q.subscripts) ≡ q.count = length-take-le q.count q.subscripts (omega arith) in
        let m : length (arrays_of a) ≡ a.depth = length-map (take a.depth a.levels) array_of ∙ length-take-le a.depth a.levels (omega (arith, few.depth, few.levels)) in
        sym (reach_unequal _ (arrays_of a) _ (λ d. eqb-false q.count a.depth e (omega arith)))

-- THE PLACE, where it lies in an image: cutting changes nothing
abbrev InImage : Spot → Type 0
InImage s = (o m : ℕ) → s ≡ spot o m → o ≤ 65535

if_in : (b : Bool) (r : Option ℕ) (s : Spot) (n : ℕ) → (InImage s → spot_at r n ≡ s)
    → InImage (if b then s else absent) → spot_at (if b then r else None) n ≡ (if b then s else absent)
unfolding spot_at
if_in true r s n h small = h small
if_in false r s n h small = refl

reach_in_lem : (p n : ℕ) (arrays : List Array) (xs : List ℕ) → InImage (spot_in p n arrays xs)
    → spot_at (reach_in (cut p) (cut_arrays arrays) xs) n ≡ spot_in p n arrays xs
unfolding reach_in cut_arrays spot_at spot_in
reach_in_lem p n [] [] small = let e : cut p ≡ p = omega (arith, small p n refl) in rw e
reach_in_lem p n [] (x ∷ xs) small = refl
reach_in_lem p n (a ∷ rest) [] small = refl
reach_in_lem p n (a ∷ rest) (x ∷ xs) small =
    let e : cut (cut p + cut (x * cut a.stride)) ≡ cut (p + x * a.stride) = omega (arith, cut_mul x a.stride) in
    rw e (if_in (x <? a.count) _ _ n (reach_in_lem (p + x * a.stride) n rest xs) small)

-- by what a row says
unfoldable said_spot : def.Row → (subscripts : List ℕ) → Spot
said_spot (row p n rest) xs = spot_at (reach_in (cut p) rest xs) n
said_spot no_row xs = absent

said_spot_lem : (c : Row) (q : ElementName) → Few 4 c.arrays → length q.subscripts ≡ 4
    → spot_by c q ≡ (if q.count ≤? 4 then said_spot (said (Some c)) (take q.count q.subscripts) else absent)
unfolding spot_by spot_at said said_spot
said_spot_lem c q few four = rw (reached_few c.first c.arrays q few four) (go (q.count ≤? 4))
  where
    go : (t : Bool) → spot_at (if t then reach_in (cut c.first) (arrays_of c.arrays) (take q.count q.subscripts) else None) c.length
        ≡ (if t then spot_at (reach_in (cut c.first) (arrays_of c.arrays) (take q.count q.subscripts)) c.length else absent)
    go true = refl
    go false = refl

cut_spot : (r : def.Row) (xs : List ℕ) → InImage (row_spot r xs) → said_spot (cut_row r) xs ≡ row_spot r xs
unfolding said_spot cut_row row_spot
cut_spot (row p n rest) xs small = let e : cut (cut p) ≡ cut p = omega arith in rw e (reach_in_lem p n rest xs small)
cut_spot no_row xs small = refl

pub spot_as : (c : Row) (r : def.Row) (q : ElementName) → RowAs 4 (Some c) r → length q.subscripts ≡ 4
    → ((o m : ℕ) → row_spot r (take q.count q.subscripts) ≡ spot o m → o ≤ 65535)
    → spot_by c q ≡ (if q.count ≤? 4 then row_spot r (take q.count q.subscripts) else absent)
spot_as c r q h four small = said_spot_lem c q h.few four ∙ rw (h.says, cut_spot r _ small)
