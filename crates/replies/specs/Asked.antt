-- WHAT IS ASKED, BY ITS NUMBER, for callers that know no enum. Assumes nothing.
use Rattle.std.specs.Prelude.{ℕ, if◌then◌else◌}
use Rattle.meaning.specs.Basics.{◌=?◌}
use Rattle.meaning.specs.declared.Quantity.{Quantity}

-- what a tier is asked for: 0 is summations, any other number demands
unfoldable pub quantity_of : ℕ → Quantity
quantity_of what = if what =? 0 then Quantity.Summations else Quantity.Demands
