-- Rows: the first of two, further on, in an array; and which have none of an item. Assumes nothing.
use Prim.Native.Nat.{ℕ, ◌+◌, ◌<◌, ◌≤◌}
use mathlib.Core.Path.{◌≡◌, refl}
use mathlib.Core.Logic.{◌⊎◌, inl, inr}
use native.Mathlib.Decide.{dec_lt}
use native.Mathlib.Omega.{arith}
use Rattle.laying.specs.Rows.{Row, row, no_row, first_row, onward, in_array}

pub first_none_right : (r : Row) → first_row r no_row ≡ r
unfolding first_row
first_none_right (row p n rest) = refl
first_none_right no_row = refl

pub first_assoc : (r q p : Row) → first_row (first_row r q) p ≡ first_row r (first_row q p)
unfolding first_row
first_assoc (row a n rest) q p = refl
first_assoc no_row q p = refl

pub onward_first : (k : ℕ) (r q : Row) → onward k (first_row r q) ≡ first_row (onward k r) (onward k q)
unfolding onward first_row
onward_first k (row p n rest) q = refl
onward_first k no_row q = refl

pub onward_twice : (j k : ℕ) (r : Row) → onward (j + k) r ≡ onward j (onward k r)
unfolding onward
onward_twice j k (row p n rest) = let e : j + k + p ≡ j + (k + p) = omega arith in rw e
onward_twice j k no_row = refl

pub onward_nothing : (r : Row) → onward 0 r ≡ r
unfolding onward
onward_nothing (row p n rest) = let e : 0 + p ≡ p = omega arith in rw e
onward_nothing no_row = refl

-- ROWS OF OTHER ITEMS
-- i is none of the items from lo up to hi
abbrev pub Other : (lo hi i : ℕ) → Type 0
Other lo hi i = (i < lo) ⊎ (hi ≤ i)

pub other_narrower : (lo hi from to i : ℕ) → lo ≤ from → to ≤ hi → Other lo hi i → Other from to i
other_narrower lo hi from to i a b (inl h) = inl (omega arith)
other_narrower lo hi from to i a b (inr h) = inr (omega arith)

pub first_none : (r q : Row) → r ≡ no_row → q ≡ no_row → first_row r q ≡ no_row
unfolding first_row
first_none r q e g = rw e g

pub onward_none : (k : ℕ) (r : Row) → r ≡ no_row → onward k r ≡ no_row
unfolding onward
onward_none k r e = rw e

pub array_none : (c w : ℕ) (r : Row) → r ≡ no_row → in_array c w r ≡ no_row
unfolding in_array
array_none c w r e = rw e

-- items before mid have no row after it, and the others none before it
pub parted : (i mid : ℕ) (r q : Row) → (mid ≤ i → r ≡ no_row) → (i < mid → q ≡ no_row) → (r ≡ no_row) ⊎ (q ≡ no_row)
parted i mid r q h k = go (dec_lt i mid)
  where
    go : Dec (i < mid) → (r ≡ no_row) ⊎ (q ≡ no_row)
    go (yes p) = inr (k p)
    go (no p) = inl (h (omega arith))
