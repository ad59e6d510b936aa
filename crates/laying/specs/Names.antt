-- NAMES OF ELEMENTS: an element's name is its item and its subscripts. Assumes nothing.
use Rattle.std.specs.Prelude.{◌≤◌, ◌≡◌, List, [], ◌∷◌, length}
use Rattle.std.proofs.Math.Option.{some}
use Rattle.meaning.specs.Layout.{Placed, element_named}
use Rattle.laying.specs.Every.{Every}

-- two elements have different names
abbrev pub Differ : Placed → Placed → Type 0
Differ e f = e.item ≡ f.item → e.subscripts ≡ f.subscripts → ⊥

-- no two elements have one name
unfoldable pub Apart : List Placed → Type 0
Apart [] = Unit {0}
Apart (e ∷ es) = Every (Differ e) es × Apart es

-- each element is found by its own name
abbrev pub Found : List Placed → Type 0
Found es = Every (λ e. element_named e.item e.subscripts es ≡ some e) es

-- each element has at most 4 subscripts
abbrev pub FewSubscripts : List Placed → Type 0
FewSubscripts es = Every (λ e. length e.subscripts ≤ 4) es
