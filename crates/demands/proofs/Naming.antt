-- The elements of a passed description's tree by name, where slots have the numbers v: in the tree's order, each is one that the items round it allow, each name that they allow is
-- there, and those earlier in the list stand earlier by their ways. Body by body: of the items from `at` on. Assumes nothing.
use Rattle.std.specs.Prelude.{if◌then◌else◌}
use Prim.Native.Nat.{ℕ, zero, suc, ◌+◌, ◌-◌, ◌<◌, ◌≤◌}
use mathlib.Core.Path.{◌≡◌, refl, ◌∙◌, ap, sym}
use mathlib.Core.Logic.{inl, inr}
use mathlib.Core.Bool.{Bool, true, false, and-eq-true_iff, or-true, false≢true}
use mathlib.Core.List.{List, [], ◌∷◌, ◌++◌}
use lib.ListN.{length}
use borrow.Author.Tests.{ltb-true, lt-ltb, leb-true, le-leb, eqb-true}
use native.Mathlib.Decide.{dec_lt, ℕ_discrete}
use native.Mathlib.Omega.{arith}
use Rattle.meaning.specs.Basics.{◌<?◌}
use Rattle.meaning.specs.declared.Fields.{Fields}
use Rattle.meaning.specs.Description.{item_count, fields_at, is_element, is_array, is_choice, nests, nested, kind_of}
use Rattle.meaning.specs.Layout.{Node, Body, Arms, Tables, leaf, array, choice, stray, done, more, last_arm, arm, no_more, table, stray_table, leaf_octets}
use Rattle.meaning.specs.Layout.{Branches, otherwise, branch, branches_in, if_branches, branches_of, taken, body_in, arms_of, body_at, Numbers, value}
use Rattle.meaning.specs.Passed.{BodiesNest, end_of}
use Rattle.meaning.proofs.Either.{tested}
use Rattle.meaning.proofs.Ranges.{fields_range}
use Rattle.laying.specs.Every.{Every}
use Rattle.laying.specs.Sound.{FitBody, FitNode}
use Rattle.laying.specs.Tree.{inner_at, node_at}
use Rattle.laying.proofs.Among.{Among, among_left, among_right}
use Rattle.laying.proofs.Arms.{picked, taken_body, taken_fit}
use Rattle.laying.proofs.Every.{every_map, every_append}
use Rattle.laying.proofs.Nodes.{node_cases, choice_no_array}
use Rattle.laying.proofs.Steps.{body_none, body_step, by_items}
use Rattle.demands.specs.Walk.{arrays_of, in_chosen, all_chosen, all_below, way, Earlier}
use Rattle.demands.proofs.Around.{body_taken, fit_room, fit_step, nests_from, from_here, from_nest, from_range, from_after, from_second}

-- THE NAMES, each with how long its element is
pub record Name : Type 0 where
  pub item : ℕ
  pub subscripts : List ℕ
  pub octets : ℕ

abbrev pub subscripted : (j : ℕ) → Name → Name
subscripted j n = record { item = n.item; subscripts = j ∷ n.subscripts; octets = n.octets }

unfoldable pub under_names : (j : ℕ) → List Name → List Name
under_names j [] = []
under_names j (n ∷ ns) = subscripted j n ∷ under_names j ns

-- of c elements of an array from subscript j on
unfoldable pub repeat_names : (c j : ℕ) → List Name → List Name
repeat_names zero j ns = []
repeat_names (suc c) j ns = under_names j ns ++ repeat_names c (j + 1) ns

unfoldable mutual
  pub names_body : Body → Numbers → List Name
  names_body done v = []
  names_body (more n b) v = names_node n v ++ names_body b v

  pub names_node : Node → Numbers → List Name
  names_node (leaf i f) v = record { item = i; subscripts = []; octets = leaf_octets f (value v f) } ∷ []
  names_node (array i f b) v = repeat_names (value v f) 0 (names_body b v)
  names_node (choice i f arms) v = names_arms arms (value v f) v
  names_node (stray i) v = []

  pub names_arms : Arms → (value : ℕ) → Numbers → List Name
  names_arms (last_arm b) x v = names_body b v
  names_arms (arm t b arms) x v = if t x then names_body b v else names_arms arms x v

unfoldable pub names_tables : Tables → Numbers → List Name
names_tables no_more v = []
names_tables (table i f body rest) v = names_body body v ++ names_tables rest v
names_tables (stray_table i) v = []

-- by the body of the branch taken
pub taken_names : (inner : ℕ → ℕ → Body) (at x : ℕ) (b : Branches) (v : Numbers) → names_arms (arms_of inner at b) x v ≡ names_body (taken_body inner at x b) v
unfolding arms_of taken names_arms
taken_names inner at x (otherwise c) v = refl
taken_names inner at x (branch t c rest) v = picked (λ c. names_body (body_in inner at c) v) (t x) c _ (taken_names inner at x rest v)

-- an IF is no element
pub choice_no_element : (f : Fields) → is_choice f ≡ true → is_element f ≡ false
choice_no_element f is = let six = eqb-true (kind_of f) 6 is in rw six

-- an element from an item on that is none stands after it
pub element_after : (d : List ℕ) (at i : ℕ) → is_element (fields_at d at) ≡ false → at ≤ i → is_element (fields_at d i) ≡ true → at + 1 ≤ i
element_after d at i other l is = go (ℕ_discrete i at)
  where
    go : Dec (i ≡ at) → at + 1 ≤ i
    go (yes e) = absurd (false≢true (sym other ∙ rw e at is))
    go (no e) = omega arith

-- WAYS
-- the first number of a way lies from lo up to hi
abbrev Starts : (lo hi : ℕ) → List ℕ → Type 0
Starts lo hi [] = ⊥
Starts lo hi (x ∷ xs) = (lo ≤ x) × (x < hi)

starts_earlier : (lo mid hi : ℕ) (p q : List ℕ) → Starts lo mid p → Starts mid hi q → Earlier p q
unfolding Earlier
starts_earlier lo mid hi [] q h k = absurd h
starts_earlier lo mid hi (x ∷ xs) [] h k = absurd k
starts_earlier lo mid hi (x ∷ xs) (y ∷ ys) h k = inl (omega (arith, h.1, k.0))

module _ (d : List ℕ) (v : Numbers) where
  -- WHAT THE ITEMS js ROUND ITEM i SAY OF ITS SUBSCRIPTS
  pub record Named (js : List ℕ) (i : ℕ) (xs : List ℕ) : Type 0 where
    pub many : length xs ≡ length (arrays_of d js)
    pub below : all_below d v (arrays_of d js) xs ≡ true
    pub chosen : all_chosen d v i js ≡ true

  starts_way : (lo hi i : ℕ) (js xs : List ℕ) → lo ≤ i → i < hi → Every (λ j. (lo ≤ j) × (j < i)) js → Starts lo hi (way (arrays_of d js) xs i)
  unfolding arrays_of way Every
  starts_way lo hi i [] xs a b h = (a, b)
  starts_way lo hi i (j ∷ js) xs a b h = tested (λ l. Starts lo hi (way l xs i)) (is_array (fields_at d j)) _ _ (λ t. first xs) (λ t. starts_way lo hi i js xs a b h.1)
    where
      first : (xs : List ℕ) → Starts lo hi (way (j ∷ arrays_of d js) xs i)
      first [] = (a, b)
      first (x ∷ xs) = (h.0.0, omega (arith, h.0.1))

  -- A LIST OF NAMES from item `at` up to e
  pub record Allowed (at e : ℕ) (n : Name) : Type 0 where
    pub low : at ≤ n.item
    pub high : n.item < e
    pub element : is_element (fields_at d n.item) ≡ true
    pub named : Named (nests_from d at n.item) n.item n.subscripts
    pub long : n.octets ≡ leaf_octets (fields_at d n.item) (value v (fields_at d n.item))

  pub record HasName (i : ℕ) (xs : List ℕ) (ns : List Name) : Type 0 where
    pub name : Name
    pub among : Among name ns
    pub item : name.item ≡ i
    pub subscripts : name.subscripts ≡ xs

  abbrev pub way_from : (at : ℕ) → Name → List ℕ
  way_from at n = way (arrays_of d (nests_from d at n.item)) n.subscripts n.item

  unfoldable pub Sorted : (at : ℕ) → List Name → Type 0
  Sorted at [] = Unit {0}
  Sorted at (n ∷ ns) = Every (λ m. Earlier (way_from at n) (way_from at m)) ns × Sorted at ns

  pub record Names (at e : ℕ) (ns : List Name) : Type 0 where
    pub each : Every (Allowed at e) ns
    pub all : (i : ℕ) (xs : List ℕ) → at ≤ i → i < e → is_element (fields_at d i) ≡ true → Named (nests_from d at i) i xs → HasName i xs ns
    pub sorted : Sorted at ns

  -- ONE AFTER ANOTHER
  has_left : (i : ℕ) (xs : List ℕ) (ns ms : List Name) → HasName i xs ns → HasName i xs (ns ++ ms)
  has_left i xs ns ms h = record { name = h.name; among = among_left h.name ns ms h.among; item = h.item; subscripts = h.subscripts }

  has_right : (i : ℕ) (xs : List ℕ) (ns ms : List Name) → HasName i xs ms → HasName i xs (ns ++ ms)
  has_right i xs ns ms h = record { name = h.name; among = among_right h.name ns ms h.among; item = h.item; subscripts = h.subscripts }

  -- what all of the first list is to all of the second
  sorted_append : (at : ℕ) (P Q : Name → Type 0) → ((n m : Name) → P n → Q m → Earlier (way_from at n) (way_from at m)) → (ns ms : List Name)
      → Every P ns → Every Q ms → Sorted at ns → Sorted at ms → Sorted at (ns ++ ms)
  unfolding Sorted Every
  sorted_append at P Q f [] ms h k s t = t
  sorted_append at P Q f (n ∷ ns) ms h k s t =
      (every_append _ ns ms s.0 (every_map Q _ (λ m q. f n m h.0 q) ms k), sorted_append at P Q f ns ms h.1 k s.1 t)

  -- from another item on, where the ways are the same
  sorted_as : (at from : ℕ) (P : Name → Type 0) → ((n : Name) → P n → way_from at n ≡ way_from from n) → (ns : List Name) → Every P ns → Sorted from ns → Sorted at ns
  unfolding Sorted Every
  sorted_as at from P same [] h s = tt
  sorted_as at from P same (n ∷ ns) h s = (go ns h.1 s.0, sorted_as at from P same ns h.1 s.1)
    where
      go : (ms : List Name) → Every P ms → Every (λ m. Earlier (way_from from n) (way_from from m)) ms → Every (λ m. Earlier (way_from at n) (way_from at m)) ms
      go [] k t = tt
      go (m ∷ ms) k t = (rw (same n h.0, same m k.0) t.0, go ms k.1 t.1)

  -- or where the same stands round the items
  sorted_from : (at from e : ℕ) (ns : List Name) → ((i : ℕ) → from ≤ i → i < e → nests_from d at i ≡ nests_from d from i) → Every (Allowed from e) ns → Sorted from ns → Sorted at ns
  sorted_from at from e ns same = sorted_as at from (Allowed from e) (λ n h. rw (same n.item h.low h.high)) ns

  -- what is allowed among the items from `from` up to b is allowed among more of them, if what stands round them says so
  allowed_as : (at from b e : ℕ) (n : Name) → at ≤ from → b ≤ e
      → (from ≤ n.item → n.item < b → Named (nests_from d from n.item) n.item n.subscripts → Named (nests_from d at n.item) n.item n.subscripts) → Allowed from b n → Allowed at e n
  allowed_as at from b e n l m say k =
      record { low = omega (arith, k.low); high = omega (arith, k.high); element = k.element; named = say k.low k.high k.named; long = k.long }

  -- or if it is the same
  allowed_from : (at from e : ℕ) → at ≤ from → ((i : ℕ) → from ≤ i → i < e → nests_from d at i ≡ nests_from d from i) → (n : Name) → Allowed from e n → Allowed at e n
  allowed_from at from e l same n = allowed_as at from e e n l (omega arith) (λ x y k. rw (same n.item x y) k)

  -- names from `from` on are names from `at` on
  pub names_from : (at from e : ℕ) (ns : List Name) → at ≤ from → ((i : ℕ) → from ≤ i → i < e → nests_from d at i ≡ nests_from d from i)
      → ((i : ℕ) → at ≤ i → i < e → is_element (fields_at d i) ≡ true → from ≤ i) → Names from e ns → Names at e ns
  names_from at from e ns l same none h =
      record {
        each = every_map (Allowed from e) (Allowed at e) (allowed_from at from e l same) ns h.each;
        all = λ i xs a b element k. let c = none i a b element in h.all i xs c b element (rw (same i c b) at k);
        sorted = sorted_from at from e ns same h.each h.sorted;
      }

  -- names before item mid, then names from it on
  pub names_append : (at mid e : ℕ) (ns ms : List Name) → at ≤ mid → mid ≤ e → ((i : ℕ) → mid ≤ i → i < e → nests_from d at i ≡ nests_from d mid i)
      → Names at mid ns → Names mid e ms → Names at e (ns ++ ms)
  names_append at mid e ns ms a b same h k =
      record {
        each = every_append (Allowed at e) ns ms
            (every_map (Allowed at mid) (Allowed at e) (λ n. allowed_as at at mid e n (omega arith) b (λ x y k. k)) ns h.each)
            (every_map (Allowed mid e) (Allowed at e) (allowed_from at mid e a same) ms k.each);
        all = λ i xs x y element g. go i xs x y element g (dec_lt i mid);
        sorted = sorted_append at (Allowed at mid) (Allowed mid e) (λ n m x y. starts_earlier at mid e _ _
            (starts_way at mid n.item _ n.subscripts x.low x.high (from_range d (n.item - at) at n.item (omega (arith, x.low))))
            (rw (same m.item y.low y.high) (starts_way mid e m.item _ m.subscripts y.low y.high (from_range d (m.item - mid) mid m.item (omega (arith, y.low))))))
            ns ms h.each k.each h.sorted (sorted_from at mid e ms same k.each k.sorted);
      }
    where
      go : (i : ℕ) (xs : List ℕ) → at ≤ i → i < e → is_element (fields_at d i) ≡ true → Named (nests_from d at i) i xs → Dec (i < mid) → HasName i xs (ns ++ ms)
      go i xs x y element g (yes l) = has_left i xs ns ms (h.all i xs x l element g)
      go i xs x y element g (no l) = has_right i xs ns ms (k.all i xs (omega arith) y element (rw (same i (omega arith) y) at g))

  -- AN ARRAY at item `at`, its body up to e
  module _ (at e : ℕ) (is : is_array (fields_at d at) ≡ true) (inside : (i : ℕ) → at + 1 ≤ i → i < e → nests_from d at i ≡ at ∷ nests_from d (at + 1) i) where
    -- a name with that subscript in front
    way_under : (j : ℕ) (n : Name) → Allowed (at + 1) e n → way_from at (subscripted j n) ≡ at ∷ j ∷ way_from (at + 1) n
    unfolding arrays_of way
    way_under j n h = rw (inside n.item h.low h.high, is)

    named_under : (j i : ℕ) (xs : List ℕ) → j < value v (fields_at d at) → Named (nests_from d (at + 1) i) i xs → Named (at ∷ nests_from d (at + 1) i) i (j ∷ xs)
    unfolding arrays_of all_below all_chosen
    named_under j i xs l h = record { many = rw is (ap suc h.many); below = rw (is, lt-ltb _ _ l) h.below; chosen = rw is h.chosen }

    -- and without it
    named_over : (j i : ℕ) (xs : List ℕ) → Named (at ∷ nests_from d (at + 1) i) i (j ∷ xs) → (j < value v (fields_at d at)) × Named (nests_from d (at + 1) i) i xs
    unfolding arrays_of all_below all_chosen
    named_over j i xs h =
        let b = (and-eq-true_iff (j <? value v (fields_at d at)) (all_below d v (arrays_of d (nests_from d (at + 1) i)) xs)).0 (rw is at h.below) in
        (ltb-true j (value v (fields_at d at)) b.0, record { many = let m = rw is at h.many in omega (arith, m); below = b.1; chosen = rw is at h.chosen })

    -- an item in the ARRAY has a subscript
    no_subscripts : (i : ℕ) → ◌≡◌ {A = ℕ} 0 (length (arrays_of d (at ∷ nests_from d (at + 1) i))) → ⊥
    unfolding arrays_of
    no_subscripts i e = let m = rw is at e in omega (arith, m)

    -- a name whose first subscript is j or more
    record Led (j : ℕ) (n : Name) : Type 0 where
      allowed : Allowed at e n
      subscript : ℕ
      rest : List ℕ
      goes : way_from at n ≡ at ∷ subscript ∷ rest
      from : j ≤ subscript

    led_under : (j : ℕ) → j < value v (fields_at d at) → (n : Name) → Allowed (at + 1) e n → Led j (subscripted j n)
    led_under j l n h =
        record {
          allowed =
              record {
                low = omega (arith, h.low);
                high = h.high;
                element = h.element;
                named = rw (inside n.item h.low h.high) (named_under j n.item n.subscripts l h.named);
                long = h.long;
              };
          subscript = j;
          rest = way_from (at + 1) n;
          goes = way_under j n h;
          from = omega arith;
        }

    every_under : (j : ℕ) (P Q : Name → Type 0) → ((n : Name) → P n → Q (subscripted j n)) → (ns : List Name) → Every P ns → Every Q (under_names j ns)
    unfolding Every under_names
    every_under j P Q f [] h = tt
    every_under j P Q f (n ∷ ns) h = (f n h.0, every_under j P Q f ns h.1)

    sorted_under : (j : ℕ) (ns : List Name) → Every (Allowed (at + 1) e) ns → Sorted (at + 1) ns → Sorted at (under_names j ns)
    unfolding Sorted Every under_names Earlier
    sorted_under j [] h s = tt
    sorted_under j (n ∷ ns) h s = (go ns h.1 s.0, sorted_under j ns h.1 s.1)
      where
        go : (ms : List Name) → Every (Allowed (at + 1) e) ms → Every (λ m. Earlier (way_from (at + 1) n) (way_from (at + 1) m)) ms
            → Every (λ m. Earlier (way_from at (subscripted j n)) (way_from at m)) (under_names j ms)
        go [] k t = tt
        go (m ∷ ms) k t = (rw (way_under j n h.0, way_under j m k.0) (inr (refl, inr (refl, t.0))), go ms k.1 t.1)

    among_under : (j : ℕ) (n : Name) (ns : List Name) → Among n ns → Among (subscripted j n) (under_names j ns)
    unfolding Among under_names
    among_under j n [] m = absurd m
    among_under j n (x ∷ ns) (inl e) = inl (ap (subscripted j) e)
    among_under j n (x ∷ ns) (inr m) = inr (among_under j n ns m)

    has_under : (j i : ℕ) (xs : List ℕ) (ns : List Name) → HasName i xs ns → HasName i (j ∷ xs) (under_names j ns)
    has_under j i xs ns h =
        record {
          name = subscripted j h.name;
          among = among_under j h.name ns h.among;
          item = h.item;
          subscripts = ap (λ (xs : List ℕ). j ∷ xs) h.subscripts;
        }

    module _ {ns : List Name} (body : Names (at + 1) e ns) where
      -- c elements from subscript j on
      record Repeats (c j : ℕ) (ms : List Name) : Type 0 where
        each : Every (Led j) ms
        all : (i x : ℕ) (xs : List ℕ) → at + 1 ≤ i → i < e → is_element (fields_at d i) ≡ true → Named (nests_from d (at + 1) i) i xs → j ≤ x → x < j + c → HasName i (x ∷ xs) ms
        sorted : Sorted at ms

      repeats : (c j : ℕ) → j + c ≤ value v (fields_at d at) → Repeats c j (repeat_names c j ns)
      unfolding repeat_names Every Sorted Earlier
      repeats zero j l = record { each = tt; all = λ i x xs a b element h p q. absurd (omega arith); sorted = tt }
      repeats (suc c) j l =
          let more = repeats c (j + 1) (omega arith) in
          let here = every_under j (Allowed (at + 1) e) (Led j) (led_under j (omega arith)) ns body.each in
          let exactly = every_under j (Allowed (at + 1) e) (λ n. (p : List ℕ) × (way_from at n ≡ at ∷ j ∷ p)) (λ n h. (way_from (at + 1) n, way_under j n h)) ns body.each in
          record {
            each = every_append (Led j) (under_names j ns) (repeat_names c (j + 1) ns) here
                (every_map (Led (j + 1)) (Led j) (λ n h. record { allowed = h.allowed; subscript = h.subscript; rest = h.rest; goes = h.goes; from = omega (arith, h.from) }) (repeat_names c (j + 1) ns) more.each);
            all = λ i x xs a b element h p q. go i x xs (ℕ_discrete x j) a b element h p q (more.all i x xs a b element h);
            sorted = sorted_append at (λ n. (p : List ℕ) × (way_from at n ≡ at ∷ j ∷ p)) (Led (j + 1))
                (λ n m x y. rw (x.1, y.goes) (inr (refl, inl (omega (arith, y.from))))) (under_names j ns) (repeat_names c (j + 1) ns) exactly more.each
                (sorted_under j ns body.each body.sorted) more.sorted;
          }
        where
          go : (i x : ℕ) (xs : List ℕ) → Dec (x ≡ j) → at + 1 ≤ i → i < e → is_element (fields_at d i) ≡ true → Named (nests_from d (at + 1) i) i xs → j ≤ x → x < j + suc c
              → (j + 1 ≤ x → x < j + 1 + c → HasName i (x ∷ xs) (repeat_names c (j + 1) ns)) → HasName i (x ∷ xs) (under_names j ns ++ repeat_names c (j + 1) ns)
          go i x xs (yes e) a b element h p q later = rw e (has_left i (j ∷ xs) (under_names j ns) _ (has_under j i xs ns (body.all i xs a b element h)))
          go i x xs (no e) a b element h p q later = has_right i (x ∷ xs) (under_names j ns) _ (later (omega arith) (omega arith))

      names_array : at < e → is_element (fields_at d at) ≡ false → Names at e (repeat_names (value v (fields_at d at)) 0 ns)
      names_array l other =
          let r = repeats (value v (fields_at d at)) 0 (omega arith) in
          record {
            each = every_map (Led 0) (Allowed at e) (λ n h. h.allowed) _ r.each;
            all = λ i xs a b element h. let l = element_after d at i other a element in first i xs l b element (rw (inside i l b) at h) r;
            sorted = r.sorted;
          }
        where
          -- a name without subscripts has no ARRAY round it
          first : (i : ℕ) (xs : List ℕ) → at + 1 ≤ i → i < e → is_element (fields_at d i) ≡ true → Named (at ∷ nests_from d (at + 1) i) i xs
              → Repeats (value v (fields_at d at)) 0 (repeat_names (value v (fields_at d at)) 0 ns) → HasName i xs (repeat_names (value v (fields_at d at)) 0 ns)
          first i [] a b element h r = absurd (no_subscripts i h.many)
          first i (x ∷ xs) a b element h r = let k = named_over x i xs h in r.all i x xs a b element k.1 (omega arith) (omega (arith, k.0))

  -- ONE ELEMENT
  names_leaf : (at : ℕ) → is_element (fields_at d at) ≡ true
      → Names at (at + 1) (record { item = at; subscripts = []; octets = leaf_octets (fields_at d at) (value v (fields_at d at)) } ∷ [])
  unfolding Every Sorted Among arrays_of all_below all_chosen
  names_leaf at is =
      record {
        each = (record { low = omega arith; high = omega arith; element = is; named = rw (from_here d at) (record { many = refl; below = refl; chosen = refl }); long = refl }, tt);
        all = λ i xs a b element h. go i xs (omega arith) h;
        sorted = (tt, tt);
      }
    where
      go : (i : ℕ) (xs : List ℕ) → i ≡ at → Named (nests_from d at i) i xs
          → HasName i xs (record { item = at; subscripts = []; octets = leaf_octets (fields_at d at) (value v (fields_at d at)) } ∷ [])
      go i [] e h = record { name = _; among = inl refl; item = sym e; subscripts = refl }
      go i (x ∷ xs) e h = let m = rw (e, from_here d at) at h.many in absurd (omega (arith, m))

  -- AN IF at item `at` that ends before e: of its items it takes those from b up to c
  module _ (at b c e : ℕ) (is : is_array (fields_at d at) ≡ false) (other : is_element (fields_at d at) ≡ false) (starts : at < b) (ends : c ≤ e)
      (inside : (i : ℕ) → at < i → i < e → in_chosen d v at i ≡ true → (b ≤ i) × (i < c)) (chosen : (i : ℕ) → b ≤ i → i < c → in_chosen d v at i ≡ true)
      (round : (i : ℕ) → b ≤ i → i < c → nests_from d at i ≡ at ∷ nests_from d b i) (first : (i : ℕ) → at < i → i < e → nests_from d at i ≡ at ∷ nests_from d (at + 1) i) where
    named_in : (i : ℕ) (xs : List ℕ) → b ≤ i → i < c → Named (nests_from d b i) i xs → Named (nests_from d at i) i xs
    unfolding arrays_of all_below all_chosen
    named_in i xs l r h = rw (round i l r) (record { many = rw is h.many; below = rw is h.below; chosen = rw (is, chosen i l r) h.chosen })

    -- its item is one of those taken
    taken_in : (i : ℕ) (xs : List ℕ) → at < i → i < e → Named (nests_from d at i) i xs → (b ≤ i) × (i < c)
    unfolding all_chosen
    taken_in i xs l r h =
        inside i l r ((and-eq-true_iff (in_chosen d v at i) (all_chosen d v i (nests_from d (at + 1) i))).0 (rw (first i l r, is) at h.chosen)).0

    named_out : (i : ℕ) (xs : List ℕ) → b ≤ i → i < c → Named (nests_from d at i) i xs → Named (nests_from d b i) i xs
    unfolding arrays_of all_below all_chosen
    named_out i xs l r h =
        let k = rw (round i l r) at h in
        record { many = rw is at k.many; below = rw is at k.below; chosen = rw (is, chosen i l r) at k.chosen }

    way_in : (n : Name) → b ≤ n.item → n.item < c → way_from at n ≡ way_from b n
    unfolding arrays_of
    way_in n l r = rw (round n.item l r, is)

    names_choice : {ns : List Name} → Names b c ns → Names at e ns
    names_choice {ns} h =
        record {
          each = every_map (Allowed b c) (Allowed at e) (λ n. allowed_as at b c e n (omega arith) ends (named_in n.item n.subscripts)) ns h.each;
          all = λ i xs x y element k.
              let t = taken_in i xs (omega (arith, element_after d at i other x element)) y k in
              h.all i xs t.0 t.1 element (named_out i xs t.0 t.1 k);
          sorted = sorted_as at b (Allowed b c) (λ n k. way_in n k.low k.high) ns h.each h.sorted;
        }

  -- BODIES of a passed description
  module _ (nest : BodiesNest d) where
    -- what is said of bodies one level down
    abbrev Below : (k : ℕ) → Type 0
    Below k = (a m : ℕ) → a + m ≤ item_count d → FitBody (inner_at k d a m) → Names a (a + m) (names_body (inner_at k d a m) v)

    -- the branch that an IF takes
    module _ (k at : ℕ) (below : Below k) (whole : end_of d at ≤ item_count d) (is : is_choice (fields_at d at) ≡ true) (other : is_element (fields_at d at) ≡ false) where
      abbrev x : ℕ
      x = value v (fields_at d at)

      abbrev nesting : nests (fields_at d at) ≡ true
      nesting = rw (is, or-true)

      round_first : (i : ℕ) → at < i → i < end_of d at → nests_from d at i ≡ at ∷ nests_from d (at + 1) i
      round_first i a b = from_nest d at i nesting a b

      -- its first body where the value isn't 0, else its second
      names_taken : (t : Bool) → (0 <? x) ≡ t → FitBody (body_in (inner_at k d) at (body_taken (fields_at d at) t))
          → Names at (end_of d at) (names_body (body_in (inner_at k d) at (body_taken (fields_at d at) t)) v)
      unfolding in_chosen
      names_taken true e fit =
          let z : at + 1 + 0 ≡ at + 1 = omega arith in
          names_choice at (at + 1 + 0) (at + 1 + 0 + (fields_at d at).first) (end_of d at) (choice_no_array (fields_at d at) is) other (omega arith) (omega arith)
          (λ i l r h. (omega arith, omega (arith, ltb-true i (at + 1 + (fields_at d at).first) (rw e at h)))) (λ i l r. rw e (lt-ltb i (at + 1 + (fields_at d at).first) (omega arith)))
          (λ i l r. rw z (round_first i (omega arith) (omega arith))) round_first (below _ _ (omega arith) fit)
      names_taken false e fit =
          names_choice at (at + 1 + (fields_at d at).first) (at + 1 + (fields_at d at).first + (fields_at d at).second) (end_of d at) (choice_no_array (fields_at d at) is) other (omega arith) (omega arith)
          (λ i l r h. (leb-true (at + 1 + (fields_at d at).first) i (rw e at h), omega arith)) (λ i l r. rw e (le-leb (at + 1 + (fields_at d at).first) i l))
          (λ i l r. from_second d nest at i nesting whole l r) round_first (below _ _ (omega arith) fit)

    names_node_lem : (k at n : ℕ) → Below k → at + 1 + n ≤ item_count d → FitNode (node_at k d at n) → Names at (end_of d at) (names_node (node_at k d at n) v)
    unfolding FitNode names_node branches_in if_branches taken
    names_node_lem k at n below room =
        let f = fields_at d at in
        node_cases (λ t. FitNode t → Names at (end_of d at) (names_node t v)) (inner_at k d) d at n
        (λ lost fit. absurd fit)
        (λ l two four fit.
        let end : end_of d at ≡ at + 1 = omega (arith, (fields_range d at).whole two four) in
        rw end (names_leaf at (rw (le-leb 2 (kind_of f) two, le-leb (kind_of f) 4 four))))
        (λ l five fit.
        let one = (fields_range d at).one (omega arith) in
        let z : at + 1 + 0 ≡ at + 1 = omega arith in
        let end : end_of d at ≡ at + 1 + 0 + f.first = omega arith in
        rw (end, z)
        (names_array at (at + 1 + f.first) (rw five) (λ i a b. from_nest d at i (rw five) (omega arith) (omega arith))
        (rw z at (below (at + 1 + 0) f.first (omega arith) fit)) (omega arith) (rw five)))
        (λ l is fit.
        let other : is_element f ≡ false = choice_no_element f is in
        rw (taken_names (inner_at k d) at (value v f) (branches_of d at) v)
        (names_taken k at below (omega arith) is other (0 <? value v f) refl (taken_fit (inner_at k d) at (value v f) (branches_of d at) fit)))

    names_empty : (k at : ℕ) → Names at (at + 0) (names_body (body_at k d at 0) v)
    unfolding Every Sorted names_body
    names_empty k at = rw (body_none k d at) (record { each = tt; all = λ i xs a b element h. absurd (omega arith); sorted = tt })

    -- a body is its first item and the rest
    names_more : (k at n : ℕ) → nested (fields_at d at) ≤ n → at + suc n ≤ item_count d → Names at (end_of d at) (names_node (node_at k d at n) v)
        → Names (at + 1 + nested (fields_at d at)) (at + 1 + nested (fields_at d at) + (n - nested (fields_at d at))) (names_body (body_at k d (at + 1 + nested (fields_at d at)) (n - nested (fields_at d at))) v)
        → Names at (at + suc n) (names_body (body_at k d at (suc n)) v)
    unfolding names_body
    names_more k at n l room h rest =
        let u = nested (fields_at d at) in
        let end : at + 1 + u ≡ end_of d at = omega arith in
        let last : at + suc n ≡ at + 1 + u + (n - u) = omega arith in
        rw (body_step k d at n, last)
        (names_append at (at + 1 + u) (at + 1 + u + (n - u)) (names_node (node_at k d at n) v) (names_body (body_at k d (at + 1 + u) (n - u)) v) (omega arith) (omega arith)
        (λ i a b. from_after d nest at i (omega arith) (omega arith) ∙ rw end) (rw end h) rest)

    names_items : (k : ℕ) → Below k → (at n : ℕ) → at + n ≤ item_count d → FitBody (body_at k d at n) → Names at (at + n) (names_body (body_at k d at n) v)
    names_items k below =
        by_items d (λ at n. at + n ≤ item_count d → FitBody (body_at k d at n) → Names at (at + n) (names_body (body_at k d at n) v)) (λ at room fit. names_empty k at)
        (λ at n rest room fit.
        let f = fit_step d k at n fit in
        let l = fit_room d k at n f.0 in
        names_more k at n l room (names_node_lem k at n below (omega arith) f.0) (rest (omega arith) f.1))

    pub names_body_lem : (k at n : ℕ) → at + n ≤ item_count d → FitBody (body_at k d at n) → Names at (at + n) (names_body (body_at k d at n) v)
    unfolding inner_at FitBody
    names_body_lem zero at n = names_items zero (λ a m room f. absurd f.0) at n
    names_body_lem (suc k) at n = names_items (suc k) (names_body_lem k) at n
