-- Table 00 and DATA_ORDER come first: of a passed description laid out, the standard's table 00 is there, the first element is the image's first octet, and it
-- sets a slot. What is laid after the first element, and after the first table, doesn't change that. Assumes nothing.
use Prim.Native.Nat.{ℕ, suc, ◌+◌, ◌-◌, ◌<◌, ◌≤◌}
use mathlib.Core.Path.{◌≡◌, refl, subst}
use mathlib.Core.Bool.{true, false, ◌&&◌, and-eq-true_iff, false≢true}
use mathlib.Core.List.{List, [], ◌∷◌}
use mathlib.Core.Option.{some}
use lib.ListN.{length}
use borrow.Author.Tests.{ltb-true, eqb-true, eq-eqb, le-ltb, le-leb}
use native.Mathlib.Omega.{arith}
use Rattle.meaning.specs.Basics.{◌=?◌, ◌<?◌, ◌≤?◌}
use Rattle.meaning.specs.declared.Fields.{Fields}
use Rattle.meaning.specs.Description.{item_count, fields_at, is_table, is_table_named, is_table00, is_data_order, is_dimension, nested}
use Rattle.meaning.specs.Layout.{Body, Tables, leaf, more, table, branches_of, node_of, body_of, body_at, table_at, tables_of, tree_of, leaf_octets}
use Rattle.meaning.specs.Layout.{Slots, Placed, short, Laid, laid, stopped, also, and_then, valued, in_image, placed, lay_body}
use Rattle.meaning.specs.Layout.{Seat, Layout, laid_out, stopped_at, before, seated, lay_tables, lay_out, table_named}
use Rattle.meaning.specs.Passed.{Passes, PassedLaws}
use Rattle.meaning.proofs.Passed.{passed_laws}
use Rattle.meaning.proofs.Ranges.{fields_range}
use Rattle.meaning.proofs.Either.{tested}
use Rattle.laying.proofs.Nodes.{node_cases}

-- THE ELEMENTS
-- the first is octet 0, and sets a slot
abbrev pub Ordered : List Placed → Type 0
Ordered [] = ⊥
Ordered (e ∷ es) = (0 < e.slot) × (e.start ≡ 0) × (e.size ≡ 1)

-- table 00 is among the tables
pub record HasTable00 (ts : List Seat) : Type 0 where
  pub seat : Seat
  pub found : table_named 0 0 ts ≡ some seat

-- laid out, so it is
abbrev Begins : Layout → Type 0
Begins (laid_out ts es s n) = HasTable00 ts × Ordered es
Begins (stopped_at es x) = Unit {0}

-- table 00 begins with that element, whatever follows: after the table
module _ (e : Placed) (h : Ordered (e ∷ [])) where
  begins_before : (t : Seat) → t.manufacturer ≡ 0 → t.number ≡ 0 → (es : List Placed) (o : Layout) → Begins (before t (e ∷ es) o)
  unfolding table_named
  begins_before t m k es (laid_out ts qs s n) = (record { seat = t; found = rw (eq-eqb t.manufacturer 0 m, eq-eqb t.number 0 k) }, h)
  begins_before t m k es (stopped_at qs x) = tt

  -- and in it
  begins_seated : (i : ℕ) (f : Fields) (p : ℕ) → f.manufacturer ≡ 0 → f.number ≡ 0 → (o : Laid) (g : Slots → ℕ → Layout)
      → Begins (seated i f p (also (e ∷ []) o) g)
  unfolding seated
  begins_seated i f p m k (laid es s q) g = begins_before _ m k es (g s q)
  begins_seated i f p m k (stopped es x) g = tt

-- of one octet, at octet 0
begins_tables : (f g : Fields) → f.manufacturer ≡ 0 → f.number ≡ 0 → 0 < g.sets → g.slot ≡ 0 → g.octets ≡ 1
    → (b : Body) (rest : Tables) (img : List ℕ) (s : Slots) → Begins (lay_tables (table 0 f (more (leaf 1 g) b) rest) img s 0)
unfolding lay_tables lay_body valued leaf_octets in_image placed and_then seated
begins_tables f g m k h e o b rest img s =
    rw (le-ltb 0 g.slot (omega arith))
    (tested (λ x. Begins (seated 0 f 0 (and_then x (λ t q. lay_body b img false t q)) (λ t q. lay_tables rest img t q))) (0 + g.octets ≤? length img)
    _ (stopped [] (short 1 0)) (λ l. begins_seated _ (h, refl, o) 0 f 0 m k (lay_body b img false _ _) _) (λ l. tt))

-- THE TREE
module _ (d : List ℕ) where
  -- what sets a slot is a UINT
  dimension_node : (inner : ℕ → ℕ → Body) (at m : ℕ) → 0 < (fields_at d at).sets → node_of inner (fields_at d at) (branches_of d at) at m ≡ leaf at (fields_at d at)
  dimension_node inner at m h =
      let f = fields_at d at in
      let r = fields_range d at in
      let k = r.dimension h in
      node_cases (λ n. n ≡ leaf at f) inner d at m (λ no. absurd (no (omega (arith, r.whole (omega arith) (omega arith))) (rw k)))
      (λ l a b. refl) (λ l e. absurd (omega arith)) (λ l e. absurd (false≢true (rw k at e)))

  -- the first table, of at least one item, begins with item 1
  first_table : (n m : ℕ) → is_table (fields_at d 0) ≡ true → (fields_at d 0).first ≡ suc m → suc m ≤ n → 0 < (fields_at d 1).sets
      → tables_of d (suc n) 0 0
      ≡ table 0 (fields_at d 0) (more (leaf 1 (fields_at d 1)) (body_of (body_at 3 d) d m (nested (fields_at d 1)) 2)) (tables_of d n (nested (fields_at d 0)) 1)
  unfolding tables_of table_at body_at body_of
  first_table n m t e l h = rw (t, e, le-leb (suc m) n l, dimension_node (body_at 3 d) 1 m h)

  -- a passed description laid out begins so
  begins_layout : PassedLaws d → (img : List ℕ) → Begins (lay_out d img)
  unfolding lay_out tree_of is_table00 is_data_order
  begins_layout p img =
      let n = item_count d - 1 in
      let f = fields_at d 0 in
      let g = fields_at d 1 in
      let b = (and-eq-true_iff (is_table_named f 0 0) (0 <? f.first)).0 p.begins in
      let c = (and-eq-true_iff (is_table f && f.manufacturer =? 0) (f.number =? 0)).0 b.0 in
      let t = (and-eq-true_iff (is_table f) (f.manufacturer =? 0)).0 c.0 in
      let o = (and-eq-true_iff (is_dimension g) (g.octets =? 1)).0 p.ordered in
      let sets = ltb-true 0 g.sets o.0 in
      let some = ltb-true 0 f.first b.1 in
      let two = p.two in
      let all : item_count d ≡ suc n = omega arith in
      let first = first_table n (f.first - 1) t.0 (omega arith) (omega (arith, p.nest.whole 0 (omega arith))) sets in
      let owns = (fields_range d 1).owns (omega (arith, (fields_range d 1).dimension sets)) in
      rw (all, first) (begins_tables f g (eqb-true f.manufacturer 0 t.1) (eqb-true f.number 0 c.1) sets owns (eqb-true g.octets 1 o.1) _ _ img _)

-- of a passed description laid out
module _ (d img : List ℕ) (ts : List Seat) (es : List Placed) (s : Slots) (total : ℕ) (h : Passes d) (e : lay_out d img ≡ laid_out ts es s total) where
  begins_all : HasTable00 ts × Ordered es
  begins_all = subst Begins e (begins_layout d (passed_laws d h) img)

  -- table 00 is there
  pub table_00 : HasTable00 ts
  table_00 = begins_all.0

  -- the first element is octet 0, and sets a slot
  pub first_ordered : Ordered es
  first_ordered = begins_all.1
