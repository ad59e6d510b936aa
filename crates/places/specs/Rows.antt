-- ROWS AS THE CODE HAS THEM: four places for the ARRAYs round an element and their number, offsets and strides cut at 65,536. Assumes nothing.
use Rattle.std.specs.Prelude.{ℕ, ◌+◌, ◌*◌, ◌≤◌, min, ◌≡◌, List, [], ◌∷◌, map, Option, Some, None, IfSome, length, get_or, replicate, take, if◌then◌else◌}
use Rattle.laying.specs.Rows.{Array, row, no_row, Spot, spot, absent}
use Rattle.laying.specs.Rows as def
use Rattle.places.specs.declared.rows.Arrays.{Arrays}
use Rattle.meaning.specs.Basics.{◌=?◌, ◌<?◌}
use Rattle.meaning.specs.declared.ElementName.{ElementName}
use Rattle.places.specs.declared.rows.Level.{Level}
use Rattle.places.specs.declared.rows.Row.{Row}

-- a size, cut past every image
abbrev pub cut : ℕ → ℕ
cut n = min n 65536

-- an ARRAY as the code has it
abbrev pub array_of : Level → Array
array_of l = record { count = l.count; stride = l.stride }

abbrev pub arrays_of : Arrays → List Array
arrays_of a = map array_of (take a.depth a.levels)

-- what a row of the code says, or none
unfoldable pub said : Option Row → def.Row
said None = no_row
said (Some c) = row c.first c.length (arrays_of c.arrays)

-- a row with its first octet and its strides cut
unfoldable pub cut_arrays : List Array → List Array
cut_arrays [] = []
cut_arrays (a ∷ rest) = record { count = a.count; stride = cut a.stride } ∷ cut_arrays rest

unfoldable pub cut_row : def.Row → def.Row
cut_row (row p n rest) = row (cut p) n (cut_arrays rest)
cut_row no_row = no_row

-- at most so many ARRAYs, in four places
pub record Few (k : ℕ) (a : Arrays) : Type 0 where
  pub depth : a.depth ≤ k
  pub levels : length a.levels ≡ 4

-- the code's row, or none, says r, cut
pub record RowAs (k : ℕ) (c : Option Row) (r : def.Row) : Type 0 where
  pub says : said c ≡ cut_row r
  pub few : IfSome c (λ x. Few k x.arrays)

-- WHAT THE FUNCTIONS ON ROWS GIVE
abbrev pub no_level : Level
no_level = record { count = 0; stride = 0 }

abbrev pub alone : (length : ℕ) → Row
alone n = record { first = 0; length = n; arrays = record { depth = 0; levels = replicate 4 no_level } }

abbrev pub onward_by : (by : ℕ) → Row → Row
onward_by k c = record { first = cut (cut k + cut c.first); length = c.length; arrays = c.arrays }

abbrev pub with_array : (count stride : ℕ) → Row → Row
with_array c w r = record {
  first = r.first;
  length = r.length;
  arrays = record {
    depth = r.arrays.depth + 1;
    levels = record { count = c; stride = w } ∷ get_or r.arrays.levels 0 no_level ∷ get_or r.arrays.levels 1 no_level ∷ get_or r.arrays.levels 2 no_level ∷ [];
  };
}

-- WHERE AN ELEMENT IS, by the code's row: as `spot_in`, with every sum cut
unfoldable pub reach_in : (octet : ℕ) → List Array → (subscripts : List ℕ) → Option ℕ
reach_in p [] [] = Some p
reach_in p [] (x ∷ xs) = None
reach_in p (a ∷ rest) [] = None
reach_in p (a ∷ rest) (x ∷ xs) = if x <? a.count then reach_in (cut (p + cut (x * a.stride))) rest xs else None

unfoldable pub reached_by : (first : ℕ) → Arrays → ElementName → Option ℕ
reached_by p a q = if q.count =? a.depth then reach_in (cut p) (arrays_of a) (take q.count q.subscripts) else None

-- the place of an element of that length, where it is reached
unfoldable pub spot_at : (octet : Option ℕ) → (length : ℕ) → Spot
spot_at (Some p) n = spot p n
spot_at None n = absent

unfoldable pub spot_by : Row → ElementName → Spot
spot_by c q = spot_at (reached_by c.first c.arrays q) c.length
