-- AN ELEMENT'S ITEM. Assumes nothing.
use Rattle.std.specs.Prelude.{ℕ, ◌<◌, ◌≤◌, ◌≡◌, false, List}
use Rattle.meaning.specs.Description.{item_count, fields_at, is_table, kind_of}

-- item i of the description is no TABLE, sets slot k (0: none) and, if it is a UINT or BLOCK, has n octets
pub record OfItem (d : List ℕ) (i k n : ℕ) : Type 0 where
  pub there : i < item_count d
  pub inner : is_table (fields_at d i) ≡ false
  pub sets : (fields_at d i).sets ≡ k
  pub long : kind_of (fields_at d i) ≤ 3 → (fields_at d i).octets ≡ n
