-- The item that the tree has for what the description says, by cases on its kind: what holds of each case holds of the item. Assumes nothing.
use Prim.Native.Nat.{ℕ, ◌≤◌}
use mathlib.Core.Path.{◌≡◌, refl, sym, ◌∙◌}
use mathlib.Core.Bool.{true, false, ◌||◌, and-eq-true_iff, or-true, false≢true}
use mathlib.Core.List.{List}
use borrow.Author.Tests.{ltb-true, ltb-false, leb-true, eqb-true, eqb-false, ne_eqb}
use native.Mathlib.Omega.{arith}
use Rattle.meaning.specs.Basics.{◌≤?◌, ◌<?◌}
use Rattle.meaning.specs.declared.Fields.{Fields}
use Rattle.meaning.specs.Description.{fields_at, is_element, is_array, is_choice, nests, nested, count, kind_of}
use Rattle.meaning.specs.Layout.{Node, Body, leaf, array, choice, stray, branches_of, body_in, arms_of, only_body, node_of}
use Rattle.meaning.proofs.Either.{tested}
use Rattle.meaning.proofs.Ranges.{fields_range}
use Rattle.meaning.proofs.Rules.{either_false}
use Rattle.laying.specs.Sound.{FitNode}

-- stray only where its items don't fit or it is neither an element nor an ARRAY or a choice
pub node_cases : (P : Node → Type 0) (inner : ℕ → ℕ → Body) (d : List ℕ) (at n : ℕ) → let f = fields_at d at in
    ((nested f ≤ n → (is_element f || nests f) ≡ true → ⊥) → P (stray at))
    → (nested f ≤ n → 2 ≤ kind_of f → kind_of f ≤ 4 → P (leaf at f))
    → (nested f ≤ n → kind_of f ≡ 5 → P (array at f (body_in inner at (only_body f))))
    → (nested f ≤ n → is_choice f ≡ true → P (choice at f (arms_of inner at (branches_of d at))))
    → P (node_of inner (fields_at d at) (branches_of d at) at n)
unfolding node_of
node_cases P inner d at n lost one many either =
    let f : Fields = fields_at d at in
    tested P (n <? nested f) _ _ (λ t. lost (λ l e. omega (arith, ltb-true n (nested f) t))) (λ t.
    let l = ltb-false n (nested f) t in
    tested P (is_element f) _ _ (λ e. let h = (and-eq-true_iff (2 ≤? kind_of f) (kind_of f ≤? 4)).0 e in
    one l (leb-true 2 (kind_of f) h.0) (leb-true (kind_of f) 4 h.1)) (λ e.
    tested P (is_array f) _ _ (λ g. many l (eqb-true (kind_of f) 5 g)) (λ g.
    tested P (is_choice f) _ _ (λ h. either l h) (λ h. lost (λ l some. false≢true (sym (rw (e, g, h)) ∙ some))))))

-- a choice is no ARRAY
pub choice_no_array : (f : Fields) → is_choice f ≡ true → is_array f ≡ false
choice_no_array f e = ne_eqb (kind_of f) 5 (λ five. false≢true (rw five at e))

-- WHERE NOTHING IS STRAY, the item is what its kind says
module _ (inner : ℕ → ℕ → Body) (d : List ℕ) (at n : ℕ) where
  abbrev f : Fields
  f = fields_at d at

  abbrev item : Node
  item = node_of inner f (branches_of d at) at n

  pub leaf_is : nests f ≡ false → FitNode item → item ≡ leaf at f
  unfolding FitNode
  leaf_is other =
      let neither = either_false (is_array f) (is_choice f) other in
      node_cases (λ t. FitNode t → t ≡ leaf at f) inner d at n (λ lost h. absurd h) (λ l two four h. refl)
      (λ l five h. absurd (eqb-false (kind_of f) 5 neither.0 five)) (λ l choice h. absurd (false≢true (sym neither.1 ∙ choice)))

  pub array_is : kind_of f ≡ 5 → FitNode item → item ≡ array at f (body_in inner at (only_body f))
  unfolding FitNode
  array_is five =
      node_cases (λ t. FitNode t → t ≡ array at f (body_in inner at (only_body f))) inner d at n (λ lost h. absurd h)
      (λ l two four h. absurd (omega arith)) (λ l e h. refl) (λ l choice h. absurd (false≢true (rw five at choice)))

  pub choice_is : is_choice f ≡ true → FitNode item → item ≡ choice at f (arms_of inner at (branches_of d at))
  unfolding FitNode
  choice_is choose =
      let one : count (nests f) ≡ 1 = rw (choose, or-true) in
      node_cases (λ t. FitNode t → t ≡ choice at f (arms_of inner at (branches_of d at))) inner d at n (λ lost h. absurd h)
      (λ l two four h. absurd (omega (arith, (fields_range d at).single two four))) (λ l five h. absurd (false≢true (rw five at choose))) (λ l e h. refl)
