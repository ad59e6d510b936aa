-- TABLES FOLLOW ONE ANOTHER. Assumes nothing.
use Rattle.std.specs.Prelude.{ℕ, ◌+◌, ◌≡◌, List, [], ◌∷◌}
use Rattle.meaning.specs.Layout.{Seat}

-- the tables follow one another without gaps, from one octet to another
unfoldable pub Follow : (from : ℕ) → List Seat → (to : ℕ) → Type 0
Follow from [] to = from ≡ to
Follow from (t ∷ ts) to = (t.start ≡ from) × Follow (t.start + t.size) ts to
