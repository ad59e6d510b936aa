-- WHAT OF AN IMAGE LAYING OUT LEANS ON: its length, and the numbers of the dimensions that it reaches. Assumes nothing.
use Rattle.std.specs.Prelude.{ℕ, ◌<◌, ◌≡◌, List}
use Rattle.meaning.specs.Layout.{Placed, number_at, Layout, laid_out, stopped_at}
use Rattle.laying.specs.Every.{Every}

-- a dimension has the same number in both images; elements that set no slot may differ
abbrev pub SameNumber : (image later : List ℕ) → Placed → Type 0
SameNumber img later e = 0 < e.slot → number_at later e.start e.size ≡ number_at img e.start e.size

-- so has each dimension among the elements
abbrev pub Undisturbed : (image later : List ℕ) → List Placed → Type 0
Undisturbed img later es = Every (SameNumber img later) es

-- the elements laid out, or placed before it stopped
abbrev pub elements_reached : Layout → List Placed
elements_reached (laid_out ts es s n) = es
elements_reached (stopped_at es x) = es
