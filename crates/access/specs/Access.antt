-- WHAT IS KNOWN WHERE SOMETHING IS FOUND, for the contracts of the functions below the public calls. Assumes nothing.
use Rattle.std.specs.Prelude.{ℕ, ◌+◌, ◌≤◌, ◌≡◌, Bool, List, length, if◌then◌else◌, Ok, Err}
use Rattle.meaning.specs.Basics.{◌=?◌, ◌≤?◌}
use Rattle.meaning.specs.Description.{fields_at, is_dimension}
use Rattle.meaning.specs.Numbers.{outside_table, not_writable, holds_dimension, wrong_size}
use Rattle.meaning.specs.Refusals.{table_place_reply, table_around, range_place}
use Rattle.meaning.specs.Messages.{other_size}
use Rattle.offsets.specs.declared.ImageOffset.{ImageOffset}
use Rattle.offsets.specs.declared.TableOffset.{TableOffset}
use Rattle.access.specs.declared.Part.{Part}
use Rattle.access.specs.declared.Part.TheVariants.{Range, Whole}
use Rattle.access.specs.declared.Seen.{Seen}
use Rattle.meaning.specs.Values.{Place, at}

-- an item, and the table that it stands in
pub record SeenAs (d : List ℕ) (i : ℕ) (r : Seen) : Type 0 where
  pub fields : r.fields ≡ fields_at d i
  pub table : r.table ≡ fields_at d (table_around d i)

-- where a part of a table starts
unfoldable pub part_start : Part → TableOffset
part_start (Range o) = o
part_start Whole = record { 0 = 0 }

-- n octets are such a part of a table of that length
unfoldable pub part_fits : Part → (n length : ℕ) → Bool
part_fits (Range o) n l = o.0 + n ≤? l
part_fits Whole n l = n =? l

-- where n octets are written, as a part of a table; 12 too where they are to be the whole table and aren't
unfoldable pub place_to_write : Part → (description image : List ℕ) → (manufacturer number : ℕ) → (n : ℕ) → Place
place_to_write (Range o) d img m k n = range_place d img m k o n
place_to_write Whole d img m k n = if other_size n (table_place_reply d img m k) then Err outside_table else range_place d img m k (record { 0 = 0 }) n

-- 13, then 14
unfoldable pub allowed_by : (writable held : Bool) → ImageOffset → (n : ℕ) → Place
allowed_by w h p n = if w then (if h then Err holds_dimension else at p n) else Err not_writable

-- 15
unfoldable pub fitted_by : (fits : Bool) → Place → Place
fitted_by b (Ok e) = if b then at e.start e.length else Err wrong_size
fitted_by b (Err r) = Err r

-- 13, 14, then 15 of an element where it is
abbrev pub element_to_write : (description : List ℕ) → (item : ℕ) → ImageOffset → (n : ℕ) → (fits : Bool) → Place
element_to_write d i p n b = fitted_by b (allowed_by (fields_at d (table_around d i)).writable (is_dimension (fields_at d i)) p n)

-- n octets from the place on lie inside the image
abbrev pub FitsAt : (image : List ℕ) → (n : ℕ) → Place → Type 0
FitsAt img n (Ok e) = e.start.0 + n ≤ length img
FitsAt img n (Err r) = Unit {0}

-- the octets of the place itself do
abbrev pub Inside : (image : List ℕ) → Place → Type 0
Inside img (Ok e) = e.start.0 + e.length ≤ length img
Inside img (Err r) = Unit {0}
