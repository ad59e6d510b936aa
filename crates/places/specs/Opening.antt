-- WHAT THE PUBLIC CALLS TELL of an image that is opened. Assumes nothing.
use Rattle.std.specs.Prelude.{ℕ, ◌+◌, min, Bool, List, Some, None, Ok, Err, if◌then◌else◌}
use Rattle.std.proofs.Math.Option.{Option, some, none}
use Rattle.meaning.specs.declared.ElementName.{ElementName}
use Rattle.meaning.specs.declared.Refusal.{Refusal}
use Rattle.meaning.specs.Layout.{Seat, Placed, table_named}
use Rattle.meaning.specs.Numbers.{no_table}
use Rattle.meaning.specs.Refusals.{Opened, opened, refused}
use Rattle.laying.specs.Rows.{Spot, spot, absent}
use Rattle.offsets.specs.declared.TableOffset.{TableOffset}
use Rattle.places.specs.declared.survey.Asked.{Asked}
use Rattle.places.specs.Found.{FoundTable, FoundRow, FoundElement, FoundRange}
use Rattle.places.specs.Rows.{spot_by}
use Rattle.places.specs.Surveying.{held_in}
use Rattle.meaning.specs.Values.{Place, at}

-- for those who ask for less
abbrev pub nothing_asked : Asked
nothing_asked = record {
  first = record { manufacturer = 0; number = 0 };
  second = record { manufacturer = 0; number = 0 };
  item = 0;
  from = record { 0 = 0 };
  octets = 0;
}

-- WHERE AN ELEMENT IS, by its item's row
-- found at a spot of the table that starts at p; a sum that can't be counted stands at the last number
unfoldable pub spot_found : (p : ℕ) → Spot → FoundElement
spot_found p (spot o n) = Some (record { start = record { 0 = min (p + o) 18446744073709551615 }; length = n })
spot_found p absent = None

unfoldable pub standing_found : FoundRow → ElementName → FoundElement
standing_found None q = None
standing_found (Some e) q = spot_found e.start.0 (spot_by e.row q)

-- if it suits what is asked
unfoldable pub found_by : (suits : Bool) → FoundRow → ElementName → FoundElement
found_by b e q = if b then standing_found e q else None

-- its place, or why there is none
unfoldable pub place_or : (why : Refusal) → FoundElement → Place
place_or why (Some e) = at e.start e.length
place_or why None = Err why

-- WHERE A TABLE IS
-- where the table found is, or none
unfoldable pub found_place : FoundTable → Place
found_place None = Err no_table
found_place (Some t) = at (record { 0 = t.start.0 }) t.length

-- A RANGE: the table that it may lie in, and whether it lies in it and holds an octet of a dimension
unfoldable pub range_of : (o n : ℕ) → Option Seat → List Placed → FoundRange
range_of o n none es = Err no_table
range_of o n (some t) es = Ok (record { item = t.item; start = record { 0 = t.start }; length = t.size; held = held_in o n (some t) es })

unfoldable pub range_in : (manufacturer number : ℕ) → TableOffset → (n : ℕ) → Opened → FoundRange
range_in m k o n (opened ts es s l) = range_of o.0 n (table_named m k ts) es
range_in m k o n (refused r) = Err r
