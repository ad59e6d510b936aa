-- WHAT HOLDS OF EVERYTHING IN A LIST. Assumes nothing.
use Rattle.std.specs.Prelude.{List, [], ◌∷◌}

-- P holds of each
unfoldable pub Every : {A : Type 0} → (P : A → Type 0) → List A → Type 0
Every P [] = Unit {0}
Every P (x ∷ xs) = P x × Every P xs
