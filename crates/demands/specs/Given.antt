-- A LIST OF REFUSALS, each with its test; or of the codes that refuse a message (specs/Messages). Assumes nothing.
use Rattle.std.specs.Prelude.{Bool, List, [], ◌∷◌, if◌then◌else◌}
use Rattle.std.proofs.Math.Option.{Option, some, none}

-- one of them, where its test holds
unfoldable pub given : {A : Type 0} → Bool → A → Option A
given test r = if test then some r else none

-- the first of those given
unfoldable pub first_of : {A : Type 0} → List (Option A) → Option A
first_of [] = none
first_of (none ∷ rest) = first_of rest
first_of (some r ∷ rest) = some r
