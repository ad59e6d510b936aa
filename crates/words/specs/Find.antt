-- The first place of an octet in a text. Assumes nothing.
use Rattle.std.specs.Prelude.{ℕ, zero, suc, List, [], ◌∷◌, cond, eqb}

-- how many octets stand before the first octet b; as many as the text has where none is b
unfoldable pub first_of : ℕ → List ℕ → ℕ
first_of b [] = zero
first_of b (x ∷ rest) = cond (eqb x b) zero (suc (first_of b rest))
