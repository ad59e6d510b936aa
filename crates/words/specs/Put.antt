-- A text put into a reply that is being made, `out`, at the place `at`. Assumes nothing.
use Rattle.std.specs.Prelude.{ℕ, ◌+◌, List, ◌++◌, ◌≡◌, Bool, cond, leb, length, take, drop}

-- `out` has room for the text from `at` on
unfoldable pub fits : List ℕ → ℕ → List ℕ → Bool
fits out at text = leb (at + length text) (length out)

-- what stood before `at`, then the text, then the rest as before
unfoldable pub laid : List ℕ → ℕ → List ℕ → List ℕ
laid out at text = take at out ++ text ++ drop (at + length text) out

-- a text was put at `at`: the reply is the next place; or there was no room, the reply is `at` and nothing is changed
pub record IsPut (out : List ℕ) (at : ℕ) (text later : List ℕ) (next : ℕ) : Type 0 where
  pub reply : next ≡ cond (fits out at text) (at + length text) at
  pub memory : later ≡ cond (fits out at text) (laid out at text) out
