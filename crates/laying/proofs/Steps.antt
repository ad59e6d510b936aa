-- A body is its first item and the rest; so are the tables. Assumes nothing.
use Prim.Native.Nat.{ℕ, zero, suc, ◌+◌, ◌-◌, ◌<◌}
use mathlib.Core.Path.{◌≡◌, refl, ◌∙◌, ap, sym}
use mathlib.Core.List.{List}
use native.Mathlib.Omega.{arith}
use Rattle.meaning.specs.Description.{fields_at, nested}
use Rattle.meaning.specs.Layout.{more, done, no_more, body_of, body_at, tables_of, table_at}
use Rattle.laying.specs.Tree.{inner_at, node_at}

-- items that stand inside an item before them may be passed over at once, of whatever is counted item by item
pub at_once : {A : Type 0} (F : (n skip at : ℕ) → A) → ((s at : ℕ) → F 0 s at ≡ F 0 0 (at + s)) → ((n s at : ℕ) → F (suc n) (suc s) at ≡ F n s (at + 1))
    → (n s at : ℕ) → F n s at ≡ F (n - s) 0 (at + s)
at_once F none over zero s at = let e : 0 - s ≡ 0 = omega arith in rw e (none s at)
at_once F none over (suc n) zero at =
    let e : suc n - 0 ≡ suc n = omega arith in
    let f : at + 0 ≡ at = omega arith in rw (e, f)
at_once F none over (suc n) (suc s) at =
    let e : suc n - suc s ≡ n - s = omega arith in
    let f : at + suc s ≡ at + 1 + s = omega arith in over n s at ∙ rw (e, f) (at_once F none over n s (at + 1))

pub at_depth_lem : (k : ℕ) (d : List ℕ) (at n : ℕ) → body_at k d at n ≡ body_of (inner_at k d) d n zero at
unfolding body_at inner_at
at_depth_lem zero d at n = refl
at_depth_lem (suc k) d at n = refl

-- a body of no items
pub body_none : (k : ℕ) (d : List ℕ) (at : ℕ) → body_at k d at 0 ≡ done
unfolding body_of
body_none k d at = at_depth_lem k d at 0

-- a body of n + 1 items is its first item, and what follows what stands inside that
pub body_step : (k : ℕ) (d : List ℕ) (at n : ℕ)
    → body_at k d at (suc n) ≡ more (node_at k d at n) (body_at k d (at + 1 + nested (fields_at d at)) (n - nested (fields_at d at)))
unfolding body_of
body_step k d at n =
    let u = nested (fields_at d at) in
    at_depth_lem k d at (suc n) ∙ ap (more (node_at k d at n)) (at_once (body_of (inner_at k d) d) (λ s at. refl) (λ n s at. refl) n u (at + 1) ∙ sym (at_depth_lem k d (at + 1 + u) (n - u)))

-- no tables
pub tables_none : (d : List ℕ) (at : ℕ) → tables_of d 0 0 at ≡ no_more
unfolding tables_of
tables_none d at = refl

-- the tables of n + 1 items are the first, and those that follow what stands inside it
pub tables_step : (d : List ℕ) (at n : ℕ)
    → tables_of d (suc n) 0 at ≡ table_at d (fields_at d at) at n (tables_of d (n - nested (fields_at d at)) 0 (at + 1 + nested (fields_at d at)))
unfolding tables_of
tables_step d at n = ap (table_at d (fields_at d at) at n) (at_once (tables_of d) (λ s at. refl) (λ n s at. refl) n (nested (fields_at d at)) (at + 1))

-- BY THE ITEMS OF A BODY: what is true of none, and of an item and the rest where it is true of the rest, is true of any number
pub by_items : (d : List ℕ) (P : (at n : ℕ) → Type 0) → ((at : ℕ) → P at 0)
    → ((at n : ℕ) → P (at + 1 + nested (fields_at d at)) (n - nested (fields_at d at)) → P at (suc n)) → (at n : ℕ) → P at n
by_items d P none step at n = go (n + 1) at n (omega arith)
  where
    -- of fewer than m
    go : (m at n : ℕ) → n < m → P at n
    go zero at n few = absurd (omega arith)
    go (suc m) at zero few = none at
    go (suc m) at (suc n) few = step at n (go m (at + 1 + nested (fields_at d at)) (n - nested (fields_at d at)) (omega arith))
