-- A body measured item by item: what is measured and what is left come to the whole, at the start, after each item and at the end; and an item is measured by
-- what it comes to. Assumes nothing.
use Rattle.std.specs.Prelude.{Some, None, if◌then◌else◌}
use Prim.Native.Nat.{ℕ, zero, suc, ◌+◌, ◌-◌, ◌*◌, ◌<◌, ◌≤◌}
use mathlib.Core.Path.{◌≡◌, refl, ◌∙◌, ap, ap₂, sym, subst}
use mathlib.Core.Bool.{Bool, true, false}
use mathlib.Core.List.{List, []}
use borrow.Author.Tests.{eq-eqb, le-ltb}
use native.Mathlib.Omega.{arith}
use Rattle.meaning.specs.Basics.{◌=?◌}
use Rattle.meaning.specs.declared.Fields.{Fields}
use Rattle.meaning.specs.declared.Inner.{Inner}
use Rattle.meaning.specs.Description.{fields_at, nests, is_choice, nested, count, kind_of}
use Rattle.meaning.specs.Layout.{Body, done, more, branches_of, taken, body_in, only_body, node_of, leaf_octets, body_at, Numbers, value}
use Rattle.meaning.proofs.Ranges.{fields_range}
use Rattle.laying.specs.Rows.{row, no_row, first_row, onward, body_row, item_row}
use Rattle.laying.specs.Rows as def
use Rattle.laying.specs.Sizes.{body_size, item_size}
use Rattle.laying.specs.Sound.{FitBody, FitNode}
use Rattle.laying.specs.Tree.{inner_at, node_at}
use Rattle.laying.proofs.Arms.{taken_size, taken_row, taken_fit, taken_within}
use Rattle.laying.proofs.Branches.{branches_within}
use Rattle.laying.proofs.Nodes.{node_cases, choice_no_array, leaf_is, array_is, choice_is}
use Rattle.laying.proofs.Rows.{first_none_right, first_assoc, onward_first, onward_twice, onward_nothing}
use Rattle.laying.proofs.Steps.{body_none, body_step}
use Rattle.places.specs.declared.measure.Sized.{Sized}
use Rattle.places.specs.declared.measure.Span.{Span}
use Rattle.places.specs.Measuring.{numbers_in, inner_of, leaf_span, joined, array_span, node_in, SpanAs, BodyReady, ItemReady, BodyAs, ItemAs, Going}
use Rattle.places.specs.Rows.{cut, RowAs, alone}
use Rattle.places.proofs.Numbers.{cut_mul}
use Rattle.places.proofs.RowLaws.{as_none, as_alone, as_wider, as_first, as_onward, as_array}

-- ONE AFTER ANOTHER
pub joined_as : (k : ℕ) (a b : Span) (s t : ℕ) (r q : def.Row) → SpanAs k a s r → SpanAs k b t q → SpanAs k (joined a b) (s + t) (first_row r (onward s q))
joined_as k a b s t r q h g =
    record {
      size_is = omega (arith, h.size_is, g.size_is);
      row_as = as_first k a.row _ r (onward s q) h.row_as (rw h.size_is (as_onward k s b.row q g.row_as));
    }

-- the first of three, and further on twice
rows_step : (s t : ℕ) (r q p : def.Row) → first_row (first_row r (onward s q)) (onward (s + t) p) ≡ first_row r (onward s (first_row q (onward t p)))
rows_step s t r q p = first_assoc r _ _ ∙ ap (first_row r) (rw (onward_twice s t p) (sym (onward_first s q (onward t p))))

-- an item with nothing stray in it takes no more items than follow it, and is the same however many do
pub node_within : (d : List ℕ) (k at n : ℕ) → FitNode (node_at k d at n) → nested (fields_at d at) ≤ n
unfolding FitNode
node_within d k at n =
    node_cases (λ t. FitNode t → nested (fields_at d at) ≤ n) (inner_at k d) d at n (λ lost h. absurd h) (λ l two four h. l) (λ l five h. l) (λ l choice h. l)

pub node_same : (d : List ℕ) (k at n : ℕ) → FitNode (node_at k d at n) → node_at k d at n ≡ node_in k d at
unfolding node_of
node_same d k at n h =
    let u = nested (fields_at d at) in
    let l : u ≤ u = omega arith in
    rw (le-ltb n u (node_within d k at n h), le-ltb u u l)

-- a body with items and nothing stray in it is its first item, and what follows what stands inside that
pub record FirstOf (d : List ℕ) (k at n : ℕ) : Type 0 where
  pub within : at + 1 + nested (fields_at d at) ≤ at + n
  pub is : body_at k d at n ≡ more (node_in k d at) (body_at k d (at + 1 + nested (fields_at d at)) (at + n - (at + 1 + nested (fields_at d at))))
  pub item_fit : FitNode (node_in k d at)
  pub rest_fit : FitBody (body_at k d (at + 1 + nested (fields_at d at)) (at + n - (at + 1 + nested (fields_at d at))))

pub first_of : (d : List ℕ) (k at n : ℕ) → 0 < n → FitBody (body_at k d at n) → FirstOf d k at n
unfolding FitBody
first_of d k at n some fit =
    let u = nested (fields_at d at) in
    let e : n ≡ suc (n - 1) = omega arith in
    let stepped : body_at k d at n ≡ more (node_at k d at (n - 1)) (body_at k d (at + 1 + u) (n - 1 - u)) = ap (body_at k d at) e ∙ body_step k d at (n - 1) in
    let fits = subst FitBody stepped fit in
    let within = node_within d k at (n - 1) fits.0 in
    let left : n - 1 - u ≡ at + n - (at + 1 + u) = omega arith in
    let same = node_same d k at (n - 1) fits.0 in
    record {
      within = omega arith;
      is = stepped ∙ ap₂ more same (ap (body_at k d (at + 1 + u)) left);
      item_fit = subst FitNode same fits.0;
      rest_fit = subst (λ (m : ℕ). FitBody (body_at k d (at + 1 + u) m)) left fits.1;
    }

module _ (d numbers : List ℕ) (at n k i : ℕ) where
  abbrev v : Numbers
  v = numbers_in numbers

  abbrev left : (next : ℕ) → Body
  left next = body_at k d next (at + n - next)

  -- at the start nothing is measured
  pub started : BodyReady d numbers at n k → Going d numbers at n k i (record { size = 0; row = None }) at
  unfolding first_row
  started r =
      let e : at + n - at ≡ n = omega arith in
      record {
        size = 0;
        row = no_row;
        ordered = omega arith;
        rest = rw e r;
        measured = record { size_is = omega arith; row_as = as_none k };
        sizes = rw e (omega arith);
        rows = rw e (onward_nothing _);
      }

  module _ (s : Span) (next : ℕ) (g : Going d numbers at n k i s next) where
    -- at the end all is
    pub ended : at + n ≤ next → BodyAs d numbers at n k i s
    unfolding body_size body_row onward
    ended h =
        let z : at + n - next ≡ 0 = omega arith in
        let b : left next ≡ done = rw z (body_none k d next) in
        let size : g.size ≡ body_size (body_at k d at n) v = sym (omega arith) ∙ ap (λ (x : Body). g.size + body_size x v) (sym b) ∙ g.sizes in
        let row : g.row ≡ body_row (body_at k d at n) v i =
        sym (first_none_right g.row) ∙ ap (λ (x : Body). first_row g.row (onward g.size (body_row x v i))) (sym b) ∙ g.rows in
        rw (← size, ← row) g.measured

    module _ (some : next < at + n) where
      abbrev u : ℕ
      u = nested (fields_at d next)

      opened : FirstOf d k next (at + n - next)
      opened = first_of d k next (at + n - next) (omega arith) g.rest.fit

      pub next_ready : ItemReady d numbers next k
      next_ready =
          record { few = g.rest.few; there = omega (arith, g.rest.there, opened.within); fit = opened.item_fit; deep = g.rest.deep; slots = g.rest.slots }

      module _ (one : Sized) (h : ItemAs d numbers next k i one) where
        pub less : at + n - one.next.at < at + n - next
        less = omega (arith, h.next)

        pub counted : (s.size ≤ 65536) × (one.span.size ≤ 65536)
        counted = (omega (arith, g.measured.size_is), omega (arith, h.span.size_is))

        pub stepped_on : Going d numbers at n k i (joined s one.span) one.next.at
        unfolding FitBody body_size body_row
        stepped_on =
            let z = item_size (node_in k d next) v in
            let few = opened.within in
            let end : next + (at + n - next) - (next + 1 + u) ≡ at + n - (next + 1 + u) = omega arith in
            let whole : left next ≡ more (node_in k d next) (left (next + 1 + u)) = opened.is ∙ ap (λ (m : ℕ). more (node_in k d next) (body_at k d (next + 1 + u) m)) end in
            rw h.next
            (record {
              size = g.size + z;
              row = first_row g.row (onward g.size (item_row (node_in k d next) v i));
              ordered = omega (arith, few);
              rest = record {
                few = g.rest.few;
                there = omega (arith, g.rest.there, few);
                fit = subst (λ (m : ℕ). FitBody (body_at k d (next + 1 + u) m)) end opened.rest_fit;
                deep = g.rest.deep;
                slots = g.rest.slots;
              };
              measured = joined_as k s one.span g.size z g.row _ g.measured h.span;
              sizes = omega (arith, ap (λ (b : Body). body_size b v) whole, g.sizes);
              rows = rows_step g.size z g.row _ _ ∙ ap (λ (b : Body). first_row g.row (onward g.size (body_row b v i))) (sym whole) ∙ g.rows;
            })

-- AN ITEM
-- the bodies one level down of something with nothing stray in it: a level is left for them
pub inner_fit : (d : List ℕ) (k a m : ℕ) → FitBody (inner_at k d a m) → (0 < k) × (inner_at k d a m ≡ body_at (k - 1) d a m)
unfolding inner_at FitBody
inner_fit d zero a m h = absurd h.0
inner_fit d (suc k) a m h = let e : suc k - 1 ≡ k = omega arith in (omega arith, rw e)

module _ (d numbers : List ℕ) (at k i : ℕ) (ready : ItemReady d numbers at k) where
  abbrev w : Numbers
  w = numbers_in numbers

  abbrev f : Fields
  f = fields_at d at

  abbrev x : ℕ
  x = value w f

  -- a UINT, BLOCK or SET
  pub leaf_measured : nests f ≡ false → SpanAs k (leaf_span f x at i) (item_size (node_in k d at) w) (item_row (node_in k d at) w i)
  unfolding item_size item_row leaf_span
  leaf_measured other = rw (leaf_is (inner_at k d) d at (nested f) other ready.fit) (record { size_is = refl; row_as = go (at =? i) })
    where
      go : (b : Bool) → RowAs k (if b then Some (alone (leaf_octets f x)) else None) (if b then row 0 (leaf_octets f x) [] else no_row)
      go true = as_alone k (leaf_octets f x)
      go false = as_none k

  -- what holds of an ARRAY or a choice
  module _ (some : nests f ≡ true) where
    not_leaf : 2 ≤ kind_of f → kind_of f ≤ 4 → ⊥
    not_leaf two four = let one : count (nests f) ≡ 1 = rw some in omega (arith, (fields_range d at).single two four)

    -- the body that it takes, one level down
    record Inside (c : Inner) : Type 0 where
      deeper : 0 < k
      fit : FitBody (body_at (k - 1) d (at + 1 + c.skip) c.items)
      within : c.skip + c.items ≤ nested f

    enters : (c : Inner) → FitBody (body_in (inner_at k d) at c) → c.skip + c.items ≤ nested f → Inside c
    enters c h l = let g = inner_fit d k _ _ h in record { deeper = g.0; fit = subst FitBody g.1 h; within = l }

    inside : Inside (inner_of d f (at + 1) x)
    unfolding FitNode inner_of
    inside =
        node_cases (λ t. FitNode t → Inside (inner_of d f (at + 1) x)) (inner_at k d) d at (nested f)
        (λ lost h. absurd h)
        (λ l two four h. absurd (not_leaf two four))
        (λ l five h. rw (eq-eqb (kind_of f) 5 five) (enters (only_body f) h (omega arith)))
        (λ l choice h. rw (choice_no_array f choice)
        (enters _ (taken_fit (inner_at k d) at x (branches_of d at) h) (taken_within (nested f) x (branches_of d at) (branches_within d at))))
        ready.fit

    pub deeper : 0 < k
    deeper = inside.deeper

    pub within : (inner_of d f (at + 1) x).skip + (inner_of d f (at + 1) x).items ≤ nested f
    within = inside.within

    -- it can be measured
    pub inner_ready : BodyReady d numbers (at + 1 + (inner_of d f (at + 1) x).skip) (inner_of d f (at + 1) x).items (k - 1)
    inner_ready =
        record { few = ready.few; there = omega (arith, ready.there, within); fit = inside.fit; deep = omega (arith, ready.deep); slots = ready.slots }

    module _ (b : Span) (h : BodyAs d numbers (at + 1 + (inner_of d f (at + 1) x).skip) (inner_of d f (at + 1) x).items (k - 1) i b) where
      -- an array takes count times its element's size
      pub array_measured : kind_of f ≡ 5 → SpanAs k (array_span x b) (item_size (node_in k d at) w) (item_row (node_in k d at) w i)
      unfolding FitNode item_size item_row inner_of
      array_measured five =
          let is = array_is (inner_at k d) d at (nested f) five ready.fit in
          let m : BodyAs d numbers (at + 1 + 0) f.first (k - 1) i b = rw (eq-eqb (kind_of f) 5 five) at h in
          let body = body_at (k - 1) d (at + 1 + 0) f.first in
          rw (is, (inner_fit d k _ _ (subst FitNode is ready.fit)).1)
          (record {
            size_is = ap (λ (s : ℕ). cut (x * s)) m.size_is ∙ cut_mul x (body_size body w);
            row_as = rw m.size_is (as_array (k - 1) k x (body_size body w) b.row (body_row body w i) (omega (arith, deeper)) ready.deep m.row_as);
          })

      -- a choice only the body taken
      pub choice_measured : is_choice f ≡ true → SpanAs k b (item_size (node_in k d at) w) (item_row (node_in k d at) w i)
      unfolding FitNode item_size item_row inner_of
      choice_measured choice =
          let arms = branches_of d at in
          let below = inner_at k d in
          let is = choice_is below d at (nested f) choice ready.fit in
          let fit = taken_fit below at x arms (subst FitNode is ready.fit) in
          let m : BodyAs d numbers (at + 1 + (taken arms x).skip) (taken arms x).items (k - 1) i b = rw (choice_no_array f choice) at h in
          rw (is, taken_size below at x arms w, taken_row below at x arms w i, (inner_fit d k _ _ fit).1)
          (record { size_is = m.size_is; row_as = as_wider (k - 1) k b.row _ (omega arith) m.row_as })
