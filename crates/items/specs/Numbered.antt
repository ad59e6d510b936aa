-- The kinds by their numbers, bits 31..28 of an item. Assumes nothing.
use Rattle.std.specs.Prelude.{ℕ, if◌then◌else◌}
use Rattle.meaning.specs.Basics.{◌=?◌}
use Rattle.meaning.specs.declared.Kind.{Kind}

-- the kind that a number names; of any but 1 to 6 it is malformed
unfoldable pub kind_numbered : (number : ℕ) → Kind
kind_numbered n =
    if n =? 1 then Kind.Table
    else if n =? 2 then Kind.Uint
    else if n =? 3 then Kind.Block
    else if n =? 4 then Kind.Set
    else if n =? 5 then Kind.Array
    else if n =? 6 then Kind.If
    else Kind.Malformed
