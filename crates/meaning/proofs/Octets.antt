-- The octets of a number: as many as asked for, and where these are enough they make the number again. Of any width and in either DATA_ORDER. Assumes nothing.
use Rattle.std.specs.Prelude.{if◌then◌else◌}
use Prim.Native.Nat.{ℕ, zero, suc, ◌+◌, ◌*◌, ◌/◌, ◌^◌, ◌<◌}
use mathlib.Core.Path.{◌≡◌, refl, sym, ◌∙◌, ap}
use mathlib.Core.Bool.{Bool, true, false}
use mathlib.Core.List.{List, [], ◌∷◌, ◌++◌, reverse, reverse-cons}
use lib.ListN.{length, length-append, length-reverse}
use native.Mathlib.Nat.{pow-suc, mul_assoc}
use native.Mathlib.Omega.{arith}
use Rattle.meaning.specs.Basics.{◌=?◌, least_first, most_first, octets_least_first, number_in, octets_in}

-- as many as asked for, least significant octet first
least_long : (n x : ℕ) → length (octets_least_first n x) ≡ n
unfolding octets_least_first
least_long zero x = refl
least_long (suc n) x = ap suc (least_long n (x / 256))

-- they make the number, where it needs no more
least_back : (n x : ℕ) → x < 256 ^ n → least_first (octets_least_first n x) ≡ x
unfolding least_first octets_least_first
least_back zero x h = omega arith
least_back (suc n) x h = let e = least_back n (x / 256) (omega (arith, pow-suc 256 n)) in omega arith

-- an octet after others
pub most_after : (xs : List ℕ) (y : ℕ) → most_first (xs ++ (y ∷ [])) ≡ 256 * most_first xs + y
unfolding most_first
most_after [] y = omega arith
most_after (x ∷ xs) y =
    let e : length (xs ++ y ∷ []) ≡ suc (length xs) = omega (arith, length-append xs (y ∷ [])) in
    let m : x * (256 ^ length xs * 256) ≡ x * 256 ^ length xs * 256 = sym (mul_assoc x (256 ^ length xs) 256) in
    rw (e, pow-suc 256 (length xs), most_after xs y, m) (omega arith)

-- octets in the other order make the same number in that order
pub most_reverse : (xs : List ℕ) → most_first (reverse xs) ≡ least_first xs
unfolding most_first least_first
most_reverse [] = refl
most_reverse (x ∷ xs) = rw (reverse-cons x xs, most_after (reverse xs) x, most_reverse xs) (omega arith)

-- IN EITHER ORDER
-- as many as asked for
pub octets_long : (order n x : ℕ) → length (octets_in order n x) ≡ n
unfolding octets_in
octets_long order n x = go (order =? 0)
  where
    go : (b : Bool) → length (if b then octets_least_first n x else reverse (octets_least_first n x)) ≡ n
    go true = least_long n x
    go false = length-reverse (octets_least_first n x) ∙ least_long n x

-- they make the number, where it needs no more
pub octets_back : (order n x : ℕ) → x < 256 ^ n → number_in order (octets_in order n x) ≡ x
unfolding octets_in number_in
octets_back order n x h = go (order =? 0)
  where
    go : (b : Bool) → (if b then least_first (if b then octets_least_first n x else reverse (octets_least_first n x))
        else most_first (if b then octets_least_first n x else reverse (octets_least_first n x))) ≡ x
    go true = least_back n x h
    go false = most_reverse (octets_least_first n x) ∙ least_back n x h
