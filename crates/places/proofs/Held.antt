-- Whether a range holds an octet of a dimension: of elements one after another, and of one. Assumes nothing.
use Prim.Native.Nat.{ℕ}
use mathlib.Core.Path.{◌≡◌, refl, ◌∙◌, ap, sym}
use mathlib.Core.Bool.{Bool, false, ◌||◌, or_assoc, or-false}
use mathlib.Core.List.{List, [], ◌∷◌, ◌++◌}
use Rattle.meaning.specs.Layout.{Placed}
use Rattle.meaning.specs.Refusals.{any_dimension}
use Rattle.places.specs.Walking.{dimension_at}

module _ (p n : ℕ) where
  pub holds_none : any_dimension [] p n ≡ false
  unfolding any_dimension
  holds_none = refl

  pub holds_append : (ps qs : List Placed) → any_dimension (ps ++ qs) p n ≡ (any_dimension ps p n || any_dimension qs p n)
  unfolding any_dimension dimension_at
  holds_append [] qs = refl
  holds_append (e ∷ es) qs =
      let b : Bool = dimension_at e.slot e.start e.size p n in
      ap (λ (x : Bool). b || x) (holds_append es qs) ∙ sym (or_assoc b (any_dimension es p n) (any_dimension qs p n))

  pub holds_one : (e : Placed) → any_dimension (e ∷ []) p n ≡ dimension_at e.slot e.start e.size p n
  unfolding any_dimension dimension_at
  holds_one e = or-false (dimension_at e.slot e.start e.size p n)
