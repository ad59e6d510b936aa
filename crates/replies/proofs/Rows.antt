-- Rows of one width, one behind the other: where each octet stands, and what is known when the first of them have been copied. Assumes nothing.
use mathlib.Core.Path.{◌≡◌, refl, sym, ◌∙◌}
use mathlib.Core.List.{List, [], ◌∷◌, flatten}
use Prim.Native.Nat.{ℕ, zero, suc, ◌+◌, ◌*◌, ◌/◌, ◌%◌, ◌≤◌, ◌<◌, zero-le}
use native.Mathlib.Nat.{not-suc-le-zero, le_of_suc-le-suc, suc-mul, zero-mul, zero-add}
use native.Mathlib.Numerals.{add-one}
use native.Mathlib.Omega.{arith}
use lib.ListN.{length, get_or, take, set, replicate, length-append, length-set, get_or-append}
use lib.Seq.{take-suc, take-suc-set, take_all, get_or-append-add}
use mir.Val.{Val}
use mir.Syntax.{w8}
use denote.Shadow.{shadow}
use denote.Array.{each, Array}
use borrow.Kind.Array.{e_int}

-- every row has n octets
abbrev pub Wide : (n : ℕ) → List (List ℕ) → Type 0
Wide n [] = Unit {0}
Wide n (row ∷ rows) = (length row ≡ n) × Wide n rows

-- an array of arrays of octets has such rows by its type: owning it tells that of each
pub wide : (n : ℕ) (rows : List (List ℕ)) (us : List Val) → shadow (each (List ℕ) (Array (e_int w8).ty n).own_val rows us) → Wide n rows
wide n [] us s = tt
wide n (row ∷ rows) [] s = absurd s
wide n (row ∷ rows) (u ∷ us) s = (s.0.1.0.1, wide n rows us s.1)

flat_long : (n : ℕ) (rows : List (List ℕ)) → Wide n rows → length (flatten rows) ≡ length rows * n
unfolding flatten
flat_long n [] w = sym (zero-mul n)
flat_long n (row ∷ rows) w = omega (arith, length-append row (flatten rows), flat_long n rows w.1, w.0, suc-mul (length rows) n)

-- octet j of row i
flat_at : (n : ℕ) (rows : List (List ℕ)) → Wide n rows → (i j : ℕ) → i < length rows → j < n
    → get_or (flatten rows) (i * n + j) 0 ≡ get_or (get_or rows i []) j 0
unfolding flatten
flat_at n [] w i j h k = absurd (not-suc-le-zero h)
flat_at n (row ∷ rows) w zero j h k = rw (zero-mul n, zero-add j) (get_or-append row (flatten rows) 0 j (omega (arith, w.0)))
flat_at n (row ∷ rows) w (suc i) j h k =
    let e : suc i * n + j ≡ length row + (i * n + j) = omega (arith, suc-mul i n, w.0) in
    rw (e, get_or-append-add row (flatten rows) (i * n + j) 0) (flat_at n rows w.1 i j (le_of_suc-le-suc h) k)

-- COPYING: the first k octets stand
pub record Copied (rows : List (List ℕ)) (octets : List ℕ) (k : ℕ) : Type 0 where
  pub within : k ≤ 330
  pub long : length octets ≡ 330
  pub front : take k octets ≡ take k (flatten rows)

pub copied_none : (rows : List (List ℕ)) → Copied rows (replicate 330 0) 0
copied_none rows = record { within = zero-le; long = refl; front = refl }

module _ (rows : List (List ℕ)) (many : length rows ≡ 15) (w : Wide 22 rows) {octets : List ℕ} {k : ℕ} (c : Copied rows octets k) where
  long : length (flatten rows) ≡ 330
  long = omega (arith, flat_long 22 rows w)

  pub copied_more : k < 330 → Copied rows (set octets k (get_or (get_or rows (k / 22) []) (k % 22) 0)) (k + 1)
  copied_more h =
      let e : k / 22 * 22 + k % 22 ≡ k = omega arith in
      let v : get_or (flatten rows) k 0 ≡ get_or (get_or rows (k / 22) []) (k % 22) 0 =
      rw e at (flat_at 22 rows w (k / 22) (k % 22) (omega arith) (omega arith)) in
      record {
        within = omega arith;
        long = length-set octets k _ ∙ c.long;
        front = rw (add-one k, take-suc-set octets k _ (omega (arith, c.long)), take-suc (flatten rows) k 0 (omega (arith, long)), c.front, v);
      }

  pub copied_all : 330 ≤ k → octets ≡ flatten rows
  copied_all h = sym (take_all k octets (omega (arith, c.long))) ∙ c.front ∙ take_all k (flatten rows) (omega (arith, long))
