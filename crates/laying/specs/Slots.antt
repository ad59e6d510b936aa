-- THE SLOTS OF LAYING OUT, by the octets of the dimensions that set them. Assumes nothing.
use Rattle.std.specs.Prelude.{ℕ, ◌≡◌}
use Rattle.meaning.specs.Layout.{Slot, Slots, unread, holds}
use Rattle.laying.specs.Sound.{Known}

-- the octets of the dimension that set a slot; 0 where none did
unfoldable pub octets_of : Slot → ℕ
octets_of unread = 0
octets_of (holds o x) = o

-- κ has the octets of the slots
pub record Matches (s : Slots) (κ : Known) : Type 0 where
  pub octets : (k : ℕ) → octets_of (s k) ≡ κ k
