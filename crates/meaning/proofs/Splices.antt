-- Octets put in the place of as many others: the list is as long as before, holds the new octets there, and every other octet is the same. Lists of one
-- length with the same octets in a range have the same part there. Assumes nothing.
use Prim.Native.Nat.{ℕ, zero, suc, ◌+◌, ◌-◌, ◌<◌, ◌≤◌, min}
use mathlib.Core.Path.{◌≡◌, refl, sym, ◌∙◌, ap}
use mathlib.Core.Logic.{◌⊎◌, inl, inr}
use mathlib.Core.List.{List, [], ◌∷◌, ◌++◌, append_assoc}
use lib.ListN.{length, take, drop, get_or, length-append, length-take, length-drop, get_or-append}
use lib.Seq.{length-take-le, take-take, take-append_seam, drop_at, drop-drop, get_or-take, get_or-drop, get_or-append-add, ext_get_or}
use native.Mathlib.Omega.{arith}
use Rattle.meaning.specs.Basics.{part, splice}

-- PARTS
-- how long a part is
pub part_long : (l : List ℕ) (p n : ℕ) → length (part l p n) ≡ min n (length l - p)
unfolding part
part_long l p n = simp (length-take, length-drop)

-- an octet of a part
pub part_at : (l : List ℕ) (p n i : ℕ) → i < n → get_or (part l p n) i 0 ≡ get_or l (p + i) 0
unfolding part
part_at l p n i h = rw (get_or-take, get_or-drop)

-- lists of one length with the same octets in a range have the same part there
pub part_same : (l m : List ℕ) (p n : ℕ) → length l ≡ length m → ((x : ℕ) → p ≤ x → x < p + n → get_or l x 0 ≡ get_or m x 0) → part l p n ≡ part m p n
part_same l m p n e h =
    ext_get_or 0 (part l p n) (part m p n) (part_long l p n ∙ ap (λ k. min n (k - p)) e ∙ sym (part_long m p n))
    (λ i b. let k : i < n = omega (arith, part_long l p n) in part_at l p n i k ∙ h (p + i) (omega arith) (omega arith) ∙ sym (part_at m p n i k))

-- a part of a part
pub part_part : (l : List ℕ) (p n o k : ℕ) → o + k ≤ n → part (part l p n) o k ≡ part l (p + o) k
unfolding part
part_part l p n o k h = cut o n (drop p l) h ∙ ap (take k) (drop-drop o p l)
  where
    cut : (o n : ℕ) (xs : List ℕ) → o + k ≤ n → take k (drop o (take n xs)) ≡ take k (drop o xs)
    cut zero n xs h = take-take k n xs (omega arith)
    cut (suc o) zero xs h = absurd (omega arith)
    cut (suc o) (suc n) [] h = refl
    cut (suc o) (suc n) (x ∷ xs) h = cut o n xs (omega arith)

-- SPLICES
module _ (l : List ℕ) (p : ℕ) (new : List ℕ) (fits : p + length new ≤ length l) where
  -- how much stands before the octets
  head_long : length (take p l) ≡ p
  head_long = length-take-le p l (omega arith)

  -- and up to their end
  upto_long : length (take p l ++ new) ≡ p + length new
  upto_long = length-append (take p l) new ∙ rw head_long

  -- as long as before
  pub splice_long : length (splice l p new) ≡ length l
  unfolding splice
  splice_long = length-append (take p l ++ new) _ ∙ rw (upto_long, length-drop) (omega arith)

  -- the new octets are there
  pub splice_there : part (splice l p new) p (length new) ≡ new
  unfolding part splice
  splice_there =
      rw (append_assoc (take p l) new (drop (p + length new) l), drop_at (take p l) (new ++ drop (p + length new) l) p head_long)
      (take-append_seam new (drop (p + length new) l))

  -- every other octet is the same
  pub splice_others : (x : ℕ) → (x < p) ⊎ (p + length new ≤ x) → get_or (splice l p new) x 0 ≡ get_or l x 0
  unfolding splice
  splice_others x (inl h) =
      rw (append_assoc (take p l) new (drop (p + length new) l))
      (get_or-append (take p l) _ 0 x (omega (arith, head_long)) ∙ get_or-take p l x 0 h)
  splice_others x (inr h) =
      let e : x ≡ length (take p l ++ new) + (x - (p + length new)) = omega (arith, upto_long) in
      let f : p + length new + (x - (p + length new)) ≡ x = omega arith in
      ap (λ y. get_or (splice l p new) y 0) e ∙ get_or-append-add (take p l ++ new) _ (x - (p + length new)) 0
      ∙ get_or-drop (p + length new) l (x - (p + length new)) 0 ∙ ap (λ y. get_or l y 0) f
