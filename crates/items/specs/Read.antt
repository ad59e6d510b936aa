-- What is read at a place in a description. Assumes nothing.
use Rattle.std.specs.Prelude.{ℕ, ◌+◌, List, if◌then◌else◌}
use Rattle.meaning.specs.Basics.{◌<?◌}
use Rattle.meaning.specs.Description.{item_count, fields_at, malformed}
use Rattle.items.specs.declared.Read.{Read}

-- what the item at a place says, and the place after it; past the last item none, and the place stays
unfoldable pub read_at : (description : List ℕ) → (at : ℕ) → Read
read_at d at =
    if at <? item_count d then record { fields = fields_at d at; next = record { at = at + 1 } }
    else record { fields = malformed; next = record { at = at } }
