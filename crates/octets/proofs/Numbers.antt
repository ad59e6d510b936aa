-- The number of octets, octet by octet, the most significant first: shown once, for any width and either DATA_ORDER. Assumes nothing.
use Prim.Native.Nat.{ℕ, suc, ◌+◌, ◌-◌, ◌*◌, ◌^◌, ◌<◌, ◌≤◌}
use mathlib.Core.Path.{◌≡◌, refl, ◌∙◌, ap, sym, subst}
use mathlib.Core.Bool.{Bool, true, false, cond}
use mathlib.Core.List.{List, ◌∷◌}
use lib.ListN.{length, get_or, take, drop}
use lib.Seq.{drop-cons, drop-length, take-length, take-suc}
use lib.Dec.{eqb}
use native.Mathlib.Omega.{arith}
use native.Mathlib.Nat.{pow-le-pow_right, pow-suc}
use Rattle.meaning.specs.Basics.{least_first, most_first, number_in}
use Rattle.meaning.proofs.Octets.{most_after}
use Rattle.octets.specs.Octets.{place_of, counted_to, Counting}

module _ (xs : List ℕ) where
  -- before the first octet
  pub counted_none : (order : ℕ) → length xs ≤ 8 → Counting xs order 0 0
  unfolding counted_to least_first most_first
  counted_none order h = record { few = h; within = omega arith; is = go (eqb order 0); fits = omega arith }
    where
      go : (b : Bool) → 0 ≡ cond b (least_first (drop (length xs - 0) xs)) (most_first (take 0 xs))
      go true = let z : length xs - 0 ≡ length xs = omega arith in rw (z, drop-length xs)
      go false = refl

  least_next : (i : ℕ) → i < length xs → least_first (drop (length xs - (i + 1)) xs) ≡ least_first (drop (length xs - i) xs) * 256 + get_or xs (length xs - 1 - i) 0
  unfolding least_first
  least_next i h =
      let a : ℕ = length xs - (i + 1) in
      let c : suc a ≡ length xs - i = omega arith in
      let e : a ≡ length xs - 1 - i = omega arith in
      let f : drop a xs ≡ get_or xs a 0 ∷ drop (length xs - i) xs = drop-cons xs a 0 (omega arith) ∙ ap (λ (k : ℕ). get_or xs a 0 ∷ drop k xs) c in
      ap least_first f ∙ rw e (omega arith)

  most_next : (i : ℕ) → i < length xs → most_first (take (i + 1) xs) ≡ most_first (take i xs) * 256 + get_or xs i 0
  most_next i h =
      let b : i + 1 ≡ suc i = omega arith in
      ap (λ (x : ℕ). most_first (take x xs)) b ∙ ap most_first (take-suc xs i 0 h) ∙ most_after (take i xs) (get_or xs i 0) ∙ omega arith

  -- one octet more
  pub counted_next : (order i number x : ℕ) → Counting xs order i number → i < length xs → x ≡ get_or xs (place_of order (length xs) i) 0 → x < 256
      → Counting xs order (i + 1) (number * 256 + x)
  unfolding place_of counted_to
  counted_next order i number x c h e few =
      let s : 256 ^ (i + 1) ≡ 256 ^ i * 256 = ap (λ (y : ℕ). 256 ^ y) (omega arith) ∙ pow-suc 256 i in
      record { few = c.few; within = omega arith; is = go (eqb order 0) c.is e; fits = omega (arith, c.fits, s) }
    where
      go : (b : Bool) → number ≡ cond b (least_first (drop (length xs - i) xs)) (most_first (take i xs)) → x ≡ get_or xs (cond b (length xs - 1 - i) i) 0
          → number * 256 + x ≡ cond b (least_first (drop (length xs - (i + 1)) xs)) (most_first (take (i + 1) xs))
      go true a b = rw (a, b) (sym (least_next i h))
      go false a b = rw (a, b) (sym (most_next i h))

  -- all of them
  pub counted_all : (order i number : ℕ) → Counting xs order i number → length xs ≤ i → (number ≡ number_in order xs) × (number < 256 ^ length xs)
  unfolding counted_to number_in
  counted_all order i number c h =
      let z : i ≡ length xs = omega (arith, c.within) in
      let q : length xs - length xs ≡ 0 = omega arith in
      (c.is ∙ rw (z, q, take-length xs), subst (λ (x : ℕ). number < 256 ^ x) z c.fits)

  -- while some are left the number has room for one more
  pub counted_room : (order i number : ℕ) → Counting xs order i number → i < length xs → number < 72057594037927936
  counted_room order i number c h =
      let t : i ≤ 7 = omega (arith, c.few) in
      let m : 256 ^ i ≤ 256 ^ 7 = pow-le-pow_right (omega arith) t in
      omega (arith, c.fits)
