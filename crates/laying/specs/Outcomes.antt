-- WHAT LAYING OUT COMES TO for a passed description, and the number that a dimension read gives its slot. Assumes nothing.
use Rattle.std.specs.Prelude.{ℕ, zero, suc, if◌then◌else◌}
use Rattle.meaning.specs.Basics.{◌=?◌}
use Rattle.meaning.specs.Layout.{fault, short, Layout, laid_out, stopped_at, Numbers}

-- the whole image is laid out, or it is short; nothing else stops it
unfoldable pub Lays : Layout → Type 0
Lays (laid_out ts es s n) = Unit {0}
Lays (stopped_at es (fault x i)) = ⊥
Lays (stopped_at es (short i p)) = Unit {0}

-- slot k has the number x from here on; slot 0 is none
unfoldable pub set_number : (k x : ℕ) → Numbers → Numbers
set_number zero x v = v
set_number (suc k) x v = λ j. if j =? suc k then x else v j
