-- A body and an item of a passed description's tree are as long as specs/Walk says, where slots have the numbers v. Assumes nothing.
use Prim.Native.Nat.{ℕ, zero, suc, ◌+◌, ◌-◌, ◌*◌, ◌<◌, ◌≤◌}
use mathlib.Core.Path.{◌≡◌, refl, ◌∙◌, ap, ap₂, sym}
use mathlib.Core.Bool.{Bool, true, false}
use mathlib.Core.List.{List}
use borrow.Author.Tests.{ne_eqb}
use native.Mathlib.Omega.{arith}
use Rattle.meaning.specs.Basics.{◌<?◌}
use Rattle.meaning.specs.Description.{fields_at, is_array, is_choice, nested, kind_of}
use Rattle.meaning.specs.Layout.{branches_in, if_branches, branches_of, taken, body_in, body_at, leaf_octets, Numbers, value}
use Rattle.laying.specs.Sizes.{body_size, item_size}
use Rattle.laying.specs.Sound.{FitBody, FitNode}
use Rattle.laying.specs.Tree.{inner_at, node_at}
use Rattle.laying.proofs.Arms.{taken_size, taken_fit}
use Rattle.laying.proofs.Nodes.{node_cases, choice_no_array}
use Rattle.laying.proofs.Steps.{at_once, body_none, body_step, by_items}
use Rattle.demands.proofs.Around.{body_taken, fit_step}
use Rattle.demands.specs.Walk.{item_octets, items_octets, body_octets, octets_of}

module _ (d : List ℕ) (v : Numbers) where
  -- a body is its first item and the rest
  octets_step : (l at n : ℕ) → body_octets (suc l) d v at (suc n)
      ≡ item_octets (body_octets l d v) d v at + body_octets (suc l) d v (at + 1 + nested (fields_at d at)) (n - nested (fields_at d at))
  unfolding body_octets items_octets
  octets_step l at n = ap (λ (x : ℕ). item_octets (body_octets l d v) d v at + x) (at_once (items_octets (body_octets l d v) d v) (λ s at. refl) (λ n s at. refl) n (nested (fields_at d at)) (at + 1))

  -- what is said of bodies one level down
  abbrev Below : (k l : ℕ) → Type 0
  Below k l = (a m : ℕ) → FitBody (inner_at k d a m) → body_size (inner_at k d a m) v ≡ body_octets l d v a m

  -- AN ITEM, kind by kind
  pub element_octets : (l at : ℕ) → 2 ≤ kind_of (fields_at d at) → kind_of (fields_at d at) ≤ 4
      → item_octets (body_octets l d v) d v at ≡ leaf_octets (fields_at d at) (value v (fields_at d at))
  unfolding item_octets
  element_octets l at two four = rw (ne_eqb (kind_of (fields_at d at)) 5 (λ e. omega arith), ne_eqb (kind_of (fields_at d at)) 6 (λ e. omega arith))

  array_octets : (l at : ℕ) → kind_of (fields_at d at) ≡ 5 → item_octets (body_octets l d v) d v at ≡ value v (fields_at d at) * body_octets l d v (at + 1) (fields_at d at).first
  unfolding item_octets
  array_octets l at five = let is : is_array (fields_at d at) ≡ true = rw five in rw is

  choice_octets : (k l at : ℕ) (t : Bool) → (0 <? value v (fields_at d at)) ≡ t → is_choice (fields_at d at) ≡ true → Below k l
      → FitBody (body_in (inner_at k d) at (body_taken (fields_at d at) t)) → body_size (body_in (inner_at k d) at (body_taken (fields_at d at) t)) v ≡ item_octets (body_octets l d v) d v at
  unfolding item_octets
  choice_octets k l at true e is below fit =
      let z : at + 1 + 0 ≡ at + 1 = omega arith in
      rw (choice_no_array (fields_at d at) is, is, e) (below (at + 1 + 0) (fields_at d at).first fit ∙ rw z)
  choice_octets k l at false e is below fit = rw (choice_no_array (fields_at d at) is, is, e) (below (at + 1 + (fields_at d at).first) (fields_at d at).second fit)

  node_octets : (k l at n : ℕ) → Below k l → FitNode (node_at k d at n) → item_size (node_at k d at n) v ≡ item_octets (body_octets l d v) d v at
  unfolding FitNode item_size branches_in if_branches taken
  node_octets k l at n below =
      let f = fields_at d at in
      node_cases (λ t. FitNode t → item_size t v ≡ item_octets (body_octets l d v) d v at) (inner_at k d) d at n
      (λ lost fit. absurd fit)
      (λ r two four fit. sym (element_octets l at two four))
      (λ r five fit.
      let z : at + 1 + 0 ≡ at + 1 = omega arith in
      ap (λ (x : ℕ). value v f * x) (below (at + 1 + 0) f.first fit) ∙ rw z (sym (array_octets l at five)))
      (λ r is fit.
      taken_size (inner_at k d) at (value v f) (branches_of d at) v
      ∙ choice_octets k l at (0 <? value v f) refl is below (taken_fit (inner_at k d) at (value v f) (branches_of d at) fit))

  -- BODIES
  octets_none : (k l at : ℕ) → body_size (body_at k d at 0) v ≡ body_octets (suc l) d v at 0
  unfolding body_size body_octets items_octets
  octets_none k l at = rw (body_none k d at)

  octets_more : (k l at n : ℕ) → let u = nested (fields_at d at) in
      item_size (node_at k d at n) v ≡ item_octets (body_octets l d v) d v at → body_size (body_at k d (at + 1 + u) (n - u)) v ≡ body_octets (suc l) d v (at + 1 + u) (n - u)
      → body_size (body_at k d at (suc n)) v ≡ body_octets (suc l) d v at (suc n)
  unfolding body_size
  octets_more k l at n h r = rw (body_step k d at n, octets_step l at n) (ap₂ ◌+◌ h r)

  octets_items : (k l : ℕ) → Below k l → (at n : ℕ) → FitBody (body_at k d at n) → body_size (body_at k d at n) v ≡ body_octets (suc l) d v at n
  octets_items k l below =
      by_items d (λ at n. FitBody (body_at k d at n) → body_size (body_at k d at n) v ≡ body_octets (suc l) d v at n) (λ at fit. octets_none k l at)
      (λ at n rest fit. let f = fit_step d k at n fit in octets_more k l at n (node_octets k l at n below f.0) (rest f.1))

  body_octets_lem : (k l at n : ℕ) → k < l → FitBody (body_at k d at n) → body_size (body_at k d at n) v ≡ body_octets l d v at n
  unfolding inner_at FitBody
  body_octets_lem k zero at n h = absurd (omega arith)
  body_octets_lem zero (suc l) at n h = octets_items zero l (λ a m fit. absurd fit.0) at n
  body_octets_lem (suc k) (suc l) at n h = octets_items (suc k) l (λ a m fit. body_octets_lem k l a m (omega arith) fit) at n

  -- an item at most four levels deep
  pub item_octets_lem : (k at n : ℕ) → k ≤ 4 → FitNode (node_at k d at n) → item_size (node_at k d at n) v ≡ octets_of d v at
  unfolding inner_at FitBody
  item_octets_lem zero at n h = node_octets zero 4 at n (λ a m fit. absurd fit.0)
  item_octets_lem (suc k) at n h = node_octets (suc k) 4 at n (λ a m fit. body_octets_lem k 4 a m (omega arith) fit)
