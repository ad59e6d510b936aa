-- THE RANGES OF AN ITEM'S PARTS: what the packing of fields into bits, and refusal 2, leave possible. Assumes nothing.
use Rattle.std.specs.Prelude.{◌+◌, ◌<◌, ◌≤◌, ◌≡◌, ◌||◌}
use Rattle.meaning.specs.declared.Fields.{Fields}
use Rattle.meaning.specs.Description.{is_table, is_element, nests, count, kind_of}

pub record FieldsRange (f : Fields) : Type 0 where
  pub first : f.first < 32768
  pub second : f.second < 64
  pub sets : f.sets < 64
  pub octets : f.octets < 4096
  pub slot : f.slot < 64
  pub low : f.low < 32
  pub width : f.width ≤ 32
  -- what sets a slot is a UINT, of 1 to 4 octets
  pub dimension : 0 < f.sets → kind_of f ≡ 2
  pub some_octets : 0 < f.sets → 0 < f.octets
  pub few_octets : 0 < f.sets → f.octets ≤ 4
  pub integer : kind_of f ≡ 2 → f.octets ≤ 4
  -- a reference has bits; a SET, ARRAY and IF have one
  pub some_bits : 0 < f.slot → 0 < f.width
  pub refers : 4 ≤ kind_of f → 0 < f.slot
  pub owns : kind_of f ≤ 3 → f.slot ≡ 0
  -- an element has no bodies and is no ARRAY or choice; only an IF has two
  pub whole : 2 ≤ kind_of f → kind_of f ≤ 4 → f.first + f.second ≡ 0
  pub single : 2 ≤ kind_of f → kind_of f ≤ 4 → count (nests f) ≡ 0
  pub one : kind_of f ≤ 5 → f.second ≡ 0
  -- what isn't malformed is a TABLE, an element, an ARRAY or a choice, and of those an element has no bodies
  pub known : 2 ≤ kind_of f → count (is_element f || nests f) ≡ 1
  pub encloses : 0 < f.first + f.second → count (is_table f) + count (nests f) ≡ 1
