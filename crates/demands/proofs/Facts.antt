-- What laying out comes to, in the words of specs/Walk: of an opened image, and of a short one. proofs/Laid.antt proves it; what the demands say of places goes by it. Assumes nothing.
use Prim.Native.Nat.{ℕ, ◌+◌, ◌<◌, ◌≤◌}
use mathlib.Core.Path.{◌≡◌}
use mathlib.Core.Bool.{true}
use mathlib.Core.List.{List}
use Rattle.meaning.specs.Layout.{Placed, Seat, number_at}
use Rattle.meaning.specs.Passed.{end_of}
use Rattle.laying.specs.Every.{Every}
use Rattle.laying.proofs.Among.{Among}
use Rattle.demands.specs.Demand3.{AllInside, length_in}
use Rattle.demands.specs.Walk.{octet_before, numbers_in, has_element, arrays_round, way, Earlier}

-- the element of that name is among those laid out
pub record IsThere (es : List Placed) (i : ℕ) (xs : List ℕ) : Type 0 where
  pub element : Placed
  pub among : Among element es
  pub item : element.item ≡ i
  pub subscripts : element.subscripts ≡ xs

-- tables ts and elements es, up to octet `total`
pub record Facts (d img : List ℕ) (ts : List Seat) (es : List Placed) (total : ℕ) : Type 0 where
  pub inside : AllInside d img total
  -- each table from the end of the pieces before it to the end of its own
  pub starts : Every (λ t. octet_before d img t.item ≡ t.start) ts
  pub ends : Every (λ t. octet_before d img (end_of d t.item) ≡ t.start + t.size) ts
  -- each element has a name that there is, and is as long as its item says
  pub named : Every (λ e. has_element d (numbers_in d img) e.item e.subscripts ≡ true) es
  pub long : Every (λ e. e.size ≡ length_in d (numbers_in d img) e.item) es
  -- each name that there is has an element
  pub all : (i : ℕ) (xs : List ℕ) → has_element d (numbers_in d img) i xs ≡ true → IsThere es i xs
  -- in the order of their ways
  pub order : (e f : Placed) → Among e es → Among f es
      → Earlier (way (arrays_round d e.item) e.subscripts e.item) (way (arrays_round d f.item) f.subscripts f.item) → e.start + e.size ≤ f.start
  -- a dimension's number is its slot's
  pub dimensions : Every (λ e. 0 < e.slot → number_at img e.start e.size ≡ numbers_in d img e.slot) es
