-- In the tree of any description, item numbers rise: the items of a body, and of what stands inside it, lie between its first and its last, the items of one
-- item before those of the next; arrays stand at most 4 deep round an element; and each element's item is the one of its number. Assumes nothing.
use Prim.Native.Nat.{ℕ, zero, suc, ◌+◌, ◌<◌, ◌≤◌, min}
use mathlib.Core.Path.{refl}
use mathlib.Core.Bool.{◌&&◌, and-eq-true_iff}
use mathlib.Core.List.{List}
use borrow.Author.Tests.{leb-true, le-ltb, ne_eqb}
use native.Mathlib.Omega.{arith}
use Rattle.meaning.specs.Basics.{◌≤?◌}
use Rattle.meaning.specs.declared.Fields.{Fields}
use Rattle.meaning.specs.Description.{item_count, fields_at, is_table, nested, kind_of}
use Rattle.meaning.specs.Layout.{Node, Body, Arms, Tables, leaf, array, choice, stray, done, more, last_arm, arm, no_more, table, stray_table}
use Rattle.meaning.specs.Layout.{Branches, otherwise, branch, branches_of, arms_of, node_of, body_of, body_at, table_at, tables_of, tree_of, leaf_octets}
use Rattle.meaning.proofs.Ranges.{fields_range}
use Rattle.laying.specs.Own.{OfItem}
use Rattle.laying.specs.Tree.{inner_at, node_at}
use Rattle.laying.proofs.Branches.{Within, branches_within}
use Rattle.meaning.proofs.Either.{tested}
use Rattle.laying.proofs.Nodes.{node_cases}

module _ (d : List ℕ) where
  -- a UINT, BLOCK or SET of item i, from lo up to hi, with n arrays round it
  pub record Leaf (n lo hi i : ℕ) (f : Fields) : Type 0 where
    pub few : n ≤ 4
    pub low : lo ≤ i
    pub high : i < hi
    pub own : (x : ℕ) → OfItem d i f.sets (leaf_octets f x)

  unfoldable mutual
    -- with n arrays round it: items from lo up to hi, the first item's before the rest
    pub RisesBody : (n lo hi : ℕ) → Body → Type 0
    RisesBody n lo hi done = Unit {0}
    RisesBody n lo hi (more x b) = (mid : ℕ) × (lo ≤ mid) × (mid ≤ hi) × RisesNode n lo mid x × RisesBody n mid hi b

    -- an array counts in n
    pub RisesNode : (n lo hi : ℕ) → Node → Type 0
    RisesNode n lo hi (leaf i f) = Leaf n lo hi i f
    RisesNode n lo hi (array i f b) = RisesBody (n + 1) lo hi b
    RisesNode n lo hi (choice i f arms) = RisesArms n lo hi arms
    RisesNode n lo hi (stray i) = Unit {0}

    pub RisesArms : (n lo hi : ℕ) → Arms → Type 0
    RisesArms n lo hi (last_arm b) = RisesBody n lo hi b
    RisesArms n lo hi (arm t b arms) = RisesBody n lo hi b × RisesArms n lo hi arms

  -- the item after table i's last
  abbrev pub after_table : (i : ℕ) → ℕ
  after_table i = i + 1 + (fields_at d i).first

  -- a table's items are as many as its item says, all of the description; the next table comes after them
  unfoldable pub RisesTables : (lo : ℕ) → Tables → Type 0
  RisesTables lo no_more = Unit {0}
  RisesTables lo (table i f body rest) =
      (lo ≤ i) × (after_table i ≤ item_count d) × RisesBody 0 (i + 1) (after_table i) body × RisesTables (after_table i) rest
  RisesTables lo (stray_table i) = Unit {0}

  -- what the description says of a UINT, BLOCK or SET is true of it
  of_item : (i : ℕ) → i < item_count d → 2 ≤ kind_of (fields_at d i) → kind_of (fields_at d i) ≤ 4 → (x : ℕ) → OfItem d i (fields_at d i).sets (leaf_octets (fields_at d i) x)
  unfolding leaf_octets
  of_item i h a b x =
      record {
        there = h;
        inner = ne_eqb (kind_of (fields_at d i)) 1 (λ e. omega arith);
        sets = refl;
        long = λ k. rw (le-ltb 0 (fields_at d i).slot (omega (arith, (fields_range d i).owns k)));
      }

  -- m items from `at` on, of which the first `skip` don't count, have room between lo and hi
  abbrev pub Room : (skip at m lo hi : ℕ) → Type 0
  Room skip at m lo hi = (lo ≤ at + skip) × (at + m ≤ hi) × (hi ≤ item_count d)

  -- where the bodies one level down rise, with one array more at most round them
  module _ (inner : ℕ → ℕ → Body) (n : ℕ) (few : n ≤ 4) (deeper : (k at m lo hi : ℕ) → k ≤ n + 1 → Room 0 at m lo hi → RisesBody k lo hi (inner at m)) where
    -- so do the arms of a choice whose items have room
    rises_arms : (at m lo hi : ℕ) → Room 0 (at + 1) m lo hi → (b : Branches) → Within m b → RisesArms n lo hi (arms_of inner at b)
    unfolding RisesArms arms_of Within
    rises_arms at m lo hi r (otherwise c) h = deeper n _ c.items lo hi (omega arith) (omega arith)
    rises_arms at m lo hi r (branch t c rest) h = (deeper n _ c.items lo hi (omega arith) (omega (arith, h.0)), rises_arms at m lo hi r rest h.1)

    -- and so does an item
    rises_node : (at m lo hi : ℕ) → Room 0 at (1 + min m (nested (fields_at d at))) lo hi → RisesNode n lo hi (node_of inner (fields_at d at) (branches_of d at) at m)
    unfolding RisesNode
    rises_node at m lo hi r =
        let f = fields_at d at in
        node_cases (RisesNode n lo hi) inner d at m (λ s. tt)
        (λ l a b. record { few = few; low = omega arith; high = omega arith; own = of_item at (omega arith) a b })
        (λ l k. deeper (n + 1) (at + 1 + 0) f.first lo hi (omega arith) (omega arith))
        (λ l k. rises_arms at (nested f) lo hi (omega arith) (branches_of d at) (branches_within d at))

    -- and a body
    rises_of : (m skip at lo hi : ℕ) → Room skip at m lo hi → RisesBody n lo hi (body_of inner d m skip at)
    unfolding RisesBody body_of
    rises_of zero skip at lo hi r = tt
    rises_of (suc m) (suc skip) at lo hi r = rises_of m skip (at + 1) lo hi (omega arith)
    rises_of (suc m) zero at lo hi r =
        let u = nested (fields_at d at) in
        let mid = at + 1 + min m u in
        (mid, omega arith, omega arith, rises_node at m lo mid (omega arith), rises_of m u (at + 1) mid hi (omega arith))

  -- the m items from `at` on, with depth and arrays round them at most 4 together
  pub rises_body : (k n at m lo hi : ℕ) → n + k ≤ 4 → Room 0 at m lo hi → RisesBody n lo hi (body_at k d at m)
  unfolding RisesBody body_at
  rises_body zero n at m lo hi h r = rises_of _ n (omega arith) (λ j a c from to s t. (from, omega arith, omega arith, tt, tt)) m 0 at lo hi r
  rises_body (suc k) n at m lo hi h r =
      rises_of (body_at k d) n (omega arith) (λ j a c from to s t. rises_body k j a c from to (omega arith) t) m 0 at lo hi r

  -- an item by its number, with m items after it in its body
  pub rises_at : (k n at m lo hi : ℕ) → n + k ≤ 4 → Room 0 at (1 + min m (nested (fields_at d at))) lo hi → RisesNode n lo hi (node_at k d at m)
  unfolding RisesBody inner_at
  rises_at zero n at m lo hi h r = rises_node _ n (omega arith) (λ j a c from to s t. (from, omega arith, omega arith, tt, tt)) at m lo hi r
  rises_at (suc k) n at m lo hi h r = rises_node (body_at k d) n (omega arith) (λ j a c from to s t. rises_body k j a c from to (omega arith) t) at m lo hi r

  -- the tables among m items
  rises_tables : (m skip at lo : ℕ) → Room skip at m lo (item_count d) → RisesTables lo (tables_of d m skip at)
  unfolding RisesTables tables_of table_at
  rises_tables zero skip at lo r = tt
  rises_tables (suc m) (suc skip) at lo r = rises_tables m skip (at + 1) lo (omega arith)
  rises_tables (suc m) zero at lo r =
      let f = fields_at d at in
      let rest = rises_tables m (nested f) (at + 1) (after_table at) (omega arith) in
      tested (RisesTables lo) (is_table f && f.first ≤? m) _ _ (λ t.
      let fits = leb-true f.first m ((and-eq-true_iff (is_table f) (f.first ≤? m)).0 t).1 in
      (omega arith, omega arith, rises_body 4 0 (at + 1) f.first (at + 1) (after_table at) (omega arith) (omega arith), rest)) (λ t. tt)

  -- a description's tables
  pub rises_tree : RisesTables 0 (tree_of d)
  unfolding tree_of
  rises_tree = rises_tables (item_count d) 0 0 0 (omega arith)
