-- What is read and written, case by case. Assumes nothing.
use Prim.Native.Nat.{ℕ, suc, ◌+◌, ◌-◌, ◌%◌, ◌^◌, ◌<◌, ◌≤◌, min}
use mathlib.Core.Path.{◌≡◌, refl, ◌∙◌, ap, sym, subst}
use mathlib.Core.Bool.{Bool, true, false}
use mathlib.Core.List.{List, [], ◌∷◌, append_assoc}
use lib.ListN.{length, get_or, take, drop, length-drop, drop_of_length-le}
use lib.Seq.{take_all, take-length, take-nil}
use borrow.Rule.Slice.PartMut.{mid_of, put_mid, mid_len, Post-is}
use lib.Dec.{leb}
use borrow.Author.Tests.{le-leb, lt-leb, leb-true, leb-false, eq-eqb}
use native.Mathlib.Omega.{arith}
use native.Mathlib.Nat.{one-le-pow}
use Rattle.meaning.specs.Layout.{data_order, number_at}
use Rattle.meaning.specs.Basics.{part, splice, number_in, octets_in}
use Rattle.meaning.proofs.Octets.{octets_long}
use Rattle.meaning.proofs.Splices.{part_long}
use Rattle.octets.specs.Octets.{inside, number_of, number_read, put, replaced}

-- DATA_ORDER of an image of no octets, and by its first octet
pub order_empty : (img : List ℕ) → length img ≡ 0 → 0 ≡ data_order img
unfolding data_order
order_empty [] h = refl
order_empty (x ∷ xs) h = let z : suc (length xs) ≡ 0 = h in absurd (omega arith)

pub order_first : (img : List ℕ) (x : ℕ) → x ≡ get_or img 0 0 → x % 2 ≡ data_order img
unfolding data_order
order_first img x e = rw e (omega arith)

-- a number of some octets: of too many it is 0
pub number_many : (order : ℕ) (xs : List ℕ) → 8 < length xs → (0 ≡ number_of order xs) × (0 < 256 ^ length xs)
unfolding number_of
number_many order xs h = (rw (lt-leb (length xs) 8 h), one-le-pow (length xs) 256 (omega arith))

pub number_few : (order : ℕ) (xs : List ℕ) → length xs ≤ 8 → number_in order xs ≡ number_of order xs
unfolding number_of
number_few order xs h = rw (le-leb (length xs) 8 h)

-- a number read: of octets not inside the image it is 0
pub read_none : (img : List ℕ) (p n : ℕ) → inside img p n ≡ false → (0 ≡ number_read img p n) × (0 < 256 ^ n)
unfolding number_read
read_none img p n h = (rw h, one-le-pow n 256 (omega arith))

-- octets that are inside are read as the number of that part, cut out from p up to e
pub read_part : (img : List ℕ) (p n e order number : ℕ) → e ≡ p + n → e ≤ length img → order ≡ data_order img
    → (number ≡ number_of order (take (e - p) (drop p img))) × (number < 256 ^ length (take (e - p) (drop p img))) → (number ≡ number_read img p n) × (number < 256 ^ n)
unfolding number_read part
read_part img p n e order number h i o (is, fits) =
    let z : e - p ≡ n = omega arith in
    let j : p + n ≤ length img = omega arith in
    let l : length (part img p n) ≡ n = part_long img p n ∙ omega arith in
    (is ∙ rw (z, o, le-leb (p + n) (length img) j), rw (← l) (subst (λ (k : ℕ). number < 256 ^ length (take k (drop p img))) z fits))

-- octets that are inside, and not too many, are read as they stand
pub read_there : (img : List ℕ) (p n : ℕ) → n ≤ 8 → p + n ≤ length img → number_read img p n ≡ number_at img p n
unfolding number_read number_at
read_there img p n few h =
    let l : length (part img p n) ≡ n = part_long img p n ∙ omega arith in
    rw (le-leb (p + n) (length img) h) (sym (number_few (data_order img) (part img p n) (omega arith)))

-- inside, as a fact
pub inside_true : (img : List ℕ) (p n : ℕ) (b : Bool) → b ≡ inside img p n → b ≡ true → p + n ≤ length img
inside_true img p n b e h = leb-true _ _ (sym e ∙ h)

-- octets put where they lie inside the image: the part from p up to e is wholly replaced
pub put_inside : (img : List ℕ) (p e : ℕ) (new : List ℕ) → e ≡ p + length new → e ≤ length img → put_mid p (e - p) img new ≡ put img p new
unfolding put splice
put_inside img p e new h i =
    let j : p + length new ≤ length img = omega arith in
    rw (le-leb (p + length new) (length img) j, Post-is p e img (omega arith), h) (sym (append_assoc (take p img) new _))

-- the part is as long as what is copied into it
pub copied : (img : List ℕ) (p e : ℕ) (new later : List ℕ) → e ≡ p + length new → e ≤ length img → later ≡ replaced (mid_of p (e - p) img) new → later ≡ new
copied img p e new later h i l =
    let k : length (mid_of p (e - p) img) ≡ length new = mid_len p e img i ∙ omega arith in l ∙ rw (k, eq-eqb (length new) (length new) refl)

-- and where they don't, nothing is put
pub put_outside : (img : List ℕ) (p : ℕ) (new : List ℕ) → inside img p (length new) ≡ false → img ≡ put img p new
unfolding put
put_outside img p new h = rw h

-- a number's octets, filled into the part from p on
pub number_inside : (img : List ℕ) (p n order x : ℕ) (later : List ℕ) → p + n ≤ length img → order ≡ data_order img
    → later ≡ octets_in order (length (mid_of p (p + n - p) img)) x → put_mid p (p + n - p) img later ≡ put img p (octets_in (data_order img) n x)
number_inside img p n order x later h o l =
    let k : length (mid_of p (p + n - p) img) ≡ n = mid_len p (p + n) img h ∙ omega arith in
    let e : later ≡ octets_in (data_order img) n x = l ∙ rw (k, o) in
    rw e (put_inside img p (p + n) (octets_in (data_order img) n x) (ap (λ (m : ℕ). p + m) (sym (octets_long (data_order img) n x))) h)

-- or not put, where they don't lie inside
pub number_outside : (img : List ℕ) (p n x : ℕ) → inside img p n ≡ false → img ≡ put img p (octets_in (data_order img) n x)
number_outside img p n x h = put_outside img p (octets_in (data_order img) n x) (rw (octets_long (data_order img) n x) h)

-- a list taken no further than it goes
take_least : (l : List ℕ) (n : ℕ) → take (min n (length l)) l ≡ take n l
take_least l n = go (leb n (length l)) refl
  where
    go : (b : Bool) → leb n (length l) ≡ b → take (min n (length l)) l ≡ take n l
    go true e = let h : n ≤ length l = leb-true _ _ e in let m : min n (length l) ≡ n = omega arith in rw m
    go false e =
        let h : length l < n = leb-false _ _ e in
        let m : min n (length l) ≡ length l = omega arith in
        rw m (take-length l ∙ sym (take_all n l (omega arith)))

-- a part from octet a on stands so many octets further on in the memory's block
pub stands_at : (b o : ℕ) {a p : ℕ} → a ≡ p → ◌≡◌ {A = ℕ × ℕ} (b, a + o) (b, o + p)
stands_at b o e = ap (λ x. (b, x)) (omega (arith, e))

-- a part from where the image ends at the latest, and no longer than the image goes on
pub part_cut : (img : List ℕ) (p n a k : ℕ) → a ≡ min p (length img) → k ≡ min n (length img - a) → take (a + k - a) (drop a img) ≡ part img p n
unfolding part
part_cut img p n a k ea ek = go (leb p (length img)) refl
  where
    z : a + k - a ≡ k
    z = omega arith

    go : (b : Bool) → leb p (length img) ≡ b → take (a + k - a) (drop a img) ≡ take n (drop p img)
    go true e =
        let l : p ≤ length img = leb-true _ _ e in
        let h : a ≡ p = omega arith in
        let m : k ≡ min n (length (drop p img)) = ek ∙ rw (length-drop p img, h) in
        rw (z, m, h) (take_least (drop p img) n)
    go false e =
        let l : length img < p = leb-false _ _ e in
        let h : k ≡ 0 = omega arith in
        rw (z, h, drop_of_length-le img {i = p} (omega arith)) (sym (take-nil n))
