-- The ARRAYs and IFs round an item, by where the search for them starts: at an item that encloses it or not, past items that end before it; and of a passed description, item by
-- item and body by body. Assumes nothing.
use Rattle.std.specs.Prelude.{if◌then◌else◌}
use Prim.Native.Nat.{ℕ, zero, suc, ◌+◌, ◌-◌, ◌<◌, ◌≤◌}
use mathlib.Core.Path.{◌≡◌, refl, ◌∙◌, ap, subst}
use mathlib.Core.Bool.{Bool, true, false, ◌&&◌, and-false}
use mathlib.Core.List.{List, [], ◌∷◌, ◌++◌, append-nil}
use lib.ListN.{length, length-append}
use borrow.Author.Tests.{lt-ltb, le-ltb}
use native.Mathlib.Decide.{dec_lt}
use native.Mathlib.Omega.{arith}
use Rattle.meaning.specs.Basics.{◌<?◌}
use Rattle.meaning.specs.declared.Fields.{Fields}
use Rattle.meaning.specs.declared.Inner.{Inner}
use Rattle.meaning.specs.Description.{item_count, fields_at, nests, nested, count, inside, round}
use Rattle.meaning.specs.Passed.{BodiesNest, end_of}
use Rattle.meaning.proofs.Either.{tested}
use Rattle.meaning.proofs.Nesting.{upward}
use Rattle.meaning.proofs.Rules.{round_none, beyond, in_first, in_second}
use Rattle.meaning.specs.Layout.{body_at}
use Rattle.laying.specs.Every.{Every}
use Rattle.laying.specs.Sound.{FitBody, FitNode}
use Rattle.laying.specs.Tree.{inner_at, node_at}
use Rattle.laying.proofs.Every.{every_map}
use Rattle.laying.proofs.Nodes.{node_cases}
use Rattle.laying.proofs.Steps.{body_step}
use Rattle.demands.specs.Walk.{encloses, nests_in, nests_round}

-- the body that an IF takes, by whether its value is nonzero
abbrev pub body_taken : Fields → Bool → Inner
body_taken f t = if t then record { skip = 0; items = f.first } else record { skip = f.first; items = f.second }

module _ (d : List ℕ) where
  -- those from item `at` on
  abbrev pub nests_from : (at i : ℕ) → List ℕ
  nests_from at i = nests_in d (i - at) at i

  pub round_from : (i : ℕ) → nests_from 0 i ≡ nests_round d i
  round_from i = let e : i - 0 ≡ i = omega arith in rw e

  pub from_here : (i : ℕ) → nests_from i i ≡ []
  unfolding nests_in
  from_here i = let e : i - i ≡ 0 = omega arith in rw e

  -- item `at` first, then those after it
  from_next : (at i : ℕ) → at < i → nests_from at i ≡ (if nests (fields_at d at) && encloses d at i then at ∷ nests_from (at + 1) i else nests_from (at + 1) i)
  unfolding nests_in
  from_next at i l = let e : i - at ≡ suc (i - (at + 1)) = omega arith in rw e

  pub encloses_yes : (j i : ℕ) → j < i → i < end_of d j → encloses d j i ≡ true
  unfolding encloses
  encloses_yes j i a b = rw (lt-ltb j i a, lt-ltb i (end_of d j) b)

  pub encloses_no : (j i : ℕ) → end_of d j ≤ i → encloses d j i ≡ false
  unfolding encloses
  encloses_no j i h = rw (le-ltb i (end_of d j) h, and-false (j <? i))

  -- an ARRAY or IF that encloses the item
  pub from_nest : (at i : ℕ) → nests (fields_at d at) ≡ true → at < i → i < end_of d at → nests_from at i ≡ at ∷ nests_from (at + 1) i
  from_nest at i n a b = from_next at i a ∙ rw (n, encloses_yes at i a b)

  -- what is no ARRAY or IF
  pub from_other : (at i : ℕ) → nests (fields_at d at) ≡ false → at < i → nests_from at i ≡ nests_from (at + 1) i
  from_other at i n a = from_next at i a ∙ rw n

  -- items that end by it
  pub from_past : (k at i : ℕ) → at + k ≤ i → ((j : ℕ) → at ≤ j → j < at + k → end_of d j ≤ i) → nests_from at i ≡ nests_from (at + k) i
  from_past zero at i l h = let e : at + 0 ≡ at = omega arith in rw e
  from_past (suc k) at i l h =
      let e : at + suc k ≡ at + 1 + k = omega arith in
      from_next at i (omega arith)
      ∙ rw (encloses_no at i (h at (omega arith) (omega arith)), and-false (nests (fields_at d at)), e) (from_past k (at + 1) i (omega arith) (λ j a b. h j (omega arith) (omega arith)))

  -- they stand from there up to it
  pub from_range : (k at i : ℕ) → i ≡ at + k → Every (λ j. (at ≤ j) × (j < i)) (nests_from at i)
  unfolding Every
  from_range zero at i e = let z : i ≡ at = omega arith in rw (z, from_here at) tt
  from_range (suc k) at i e =
      let rest = every_map (λ j. (at + 1 ≤ j) × (j < i)) (λ j. (at ≤ j) × (j < i)) (λ j h. (omega (arith, h.0), h.1)) (nests_from (at + 1) i) (from_range k (at + 1) i (omega arith)) in
      rw (from_next at i (omega arith))
      (tested (Every (λ j. (at ≤ j) × (j < i))) (nests (fields_at d at) && encloses d at i) _ _ (λ t. ((omega arith, omega arith), rest)) (λ t. rest))

  -- THOSE BEFORE ITEM `at`
  abbrev pub nests_to : (at i : ℕ) → List ℕ
  nests_to at i = nests_in d at 0 i

  -- those of n items, then those of m more
  parts : (i n m at : ℕ) → nests_in d (n + m) at i ≡ nests_in d n at i ++ nests_in d m (at + n) i
  unfolding nests_in
  parts i zero m at =
      let e : at + 0 ≡ at = omega arith in
      let f : 0 + m ≡ m = omega arith in rw (e, f)
  parts i (suc n) m at =
      let e : at + suc n ≡ at + 1 + n = omega arith in
      let f : suc n + m ≡ suc (n + m) = omega arith in
      rw (e, f) (go (nests (fields_at d at) && encloses d at i) (parts i n m (at + 1)))
    where
      go : (b : Bool) → nests_in d (n + m) (at + 1) i ≡ nests_in d n (at + 1) i ++ nests_in d m (at + 1 + n) i
          → (if b then at ∷ nests_in d (n + m) (at + 1) i else nests_in d (n + m) (at + 1) i)
          ≡ (if b then at ∷ nests_in d n (at + 1) i else nests_in d n (at + 1) i) ++ nests_in d m (at + 1 + n) i
      go true h = ap (λ (js : List ℕ). at ∷ js) h
      go false h = h

  pub to_next : (at i : ℕ) → nests_to (at + 1) i ≡ nests_to at i ++ (if nests (fields_at d at) && encloses d at i then at ∷ [] else [])
  unfolding nests_in
  to_next at i = let e : 0 + at ≡ at = omega arith in rw e at (parts i at 1 0)

  pub to_nest : (at i : ℕ) → nests (fields_at d at) ≡ true → at < i → i < end_of d at → nests_to (at + 1) i ≡ nests_to at i ++ at ∷ []
  to_nest at i n a b = to_next at i ∙ rw (n, encloses_yes at i a b)

  pub to_other : (at i : ℕ) → nests (fields_at d at) ≡ false → nests_to (at + 1) i ≡ nests_to at i
  to_other at i n = to_next at i ∙ rw n (append-nil (nests_to at i))

  -- items that end by it
  pub to_past : (at to i : ℕ) → at ≤ to → ((j : ℕ) → at ≤ j → j < to → end_of d j ≤ i) → nests_to to i ≡ nests_to at i
  to_past at to i l h =
      upward (λ k. k ≤ to → nests_to k i ≡ nests_to at i) at (λ z. refl)
      (λ k a rec z.
      to_next k i ∙ rw (encloses_no k i (h k a (omega arith)), and-false (nests (fields_at d k))) (append-nil (nests_to k i) ∙ rec (omega arith)))
      to l (omega arith)

  -- all of them, in two parts
  pub to_from : (at i : ℕ) → at ≤ i → nests_round d i ≡ nests_to at i ++ nests_from at i
  to_from at i l =
      let e : at + (i - at) ≡ i = omega arith in
      let f : 0 + at ≡ at = omega arith in
      rw (e, f) at (parts i at (i - at) 0)

  -- they are as many as the rules count
  pub to_count : (at i : ℕ) → at ≤ i → length (nests_to at i) ≡ (round d at i).nests
  unfolding nests_in inside
  to_count at i = upward (λ k. k ≤ i → length (nests_to k i) ≡ (round d k i).nests) 0 (λ z. rw (round_none d i)) more at (omega arith)
    where
      counted : (k : ℕ) (b : Bool) → nests (fields_at d k) ≡ b → k < i → i < end_of d k → length (nests_to (k + 1) i) ≡ count b + length (nests_to k i)
      counted k true n a b = ap (λ (js : List ℕ). length js) (to_nest k i n a b) ∙ length-append (nests_to k i) (k ∷ []) ∙ omega arith
      counted k false n a b = ap (λ (js : List ℕ). length js) (to_other k i n) ∙ omega arith

      more : (k : ℕ) → 0 ≤ k → (k ≤ i → length (nests_to k i) ≡ (round d k i).nests) → k + 1 ≤ i → length (nests_to (k + 1) i) ≡ (round d (k + 1) i).nests
      more k z h l = go (dec_lt i (k + 1 + (fields_at d k).first)) (dec_lt i (end_of d k))
        where
          go : Dec (i < k + 1 + (fields_at d k).first) → Dec (i < end_of d k) → length (nests_to (k + 1) i) ≡ (round d (k + 1) i).nests
          go (yes a) b = rw (in_first d k i a) (counted k (nests (fields_at d k)) refl (omega arith) (omega arith) ∙ ap (λ (n : ℕ). count (nests (fields_at d k)) + n) (h (omega arith)))
          go (no a) (yes b) = rw (in_second d k i (omega arith) b) (counted k (nests (fields_at d k)) refl (omega arith) b ∙ ap (λ (n : ℕ). count (nests (fields_at d k)) + n) (h (omega arith)))
          go (no a) (no b) =
              rw (beyond d k i (omega arith))
              (ap (λ (js : List ℕ). length js) (to_past k (k + 1) i (omega arith) (λ j x y. let z : j ≡ k = omega arith in rw z (omega arith))) ∙ h (omega arith))

  -- BODIES WITH NOTHING STRAY
  -- an item that isn't stray has room for what stands in it
  pub fit_room : (k at n : ℕ) → FitNode (node_at k d at n) → nested (fields_at d at) ≤ n
  unfolding FitNode
  fit_room k at n =
      node_cases (λ t. FitNode t → nested (fields_at d at) ≤ n) (inner_at k d) d at n (λ lost fit. absurd fit) (λ l two four fit. l) (λ l five fit. l) (λ l is fit. l)

  pub fit_step : (k at n : ℕ) → FitBody (body_at k d at (suc n))
      → FitNode (node_at k d at n) × FitBody (body_at k d (at + 1 + nested (fields_at d at)) (n - nested (fields_at d at)))
  unfolding FitBody
  fit_step k at n fit = subst FitBody (body_step k d at n) fit

  -- OF A PASSED DESCRIPTION
  module _ (nest : BodiesNest d) where
    -- what stands in an item ends with it
    pub nested_ends : (at j : ℕ) → end_of d at ≤ item_count d → at ≤ j → j < end_of d at → end_of d j ≤ end_of d at
    nested_ends at j whole a b = go (dec_lt at j) (dec_lt j (at + 1 + (fields_at d at).first))
      where
        go : Dec (at < j) → Dec (j < at + 1 + (fields_at d at).first) → end_of d j ≤ end_of d at
        go (no x) y = let z : j ≡ at = omega arith in rw z (omega arith)
        go (yes x) (yes y) = omega (arith, nest.first at j (omega arith) x y)
        go (yes x) (no y) = nest.second at j (omega arith) (omega arith) b

    -- after an item and what stands in it
    pub from_after : (at i : ℕ) → end_of d at ≤ item_count d → end_of d at ≤ i → nests_from at i ≡ nests_from (end_of d at) i
    from_after at i whole l =
        let e : at + (1 + nested (fields_at d at)) ≡ end_of d at = omega arith in
        from_past (1 + nested (fields_at d at)) at i (omega arith) (λ j a b. omega (arith, nested_ends at j whole a (omega arith))) ∙ rw e

    -- in the second body of an IF
    pub from_second : (at i : ℕ) → nests (fields_at d at) ≡ true → end_of d at ≤ item_count d → at + 1 + (fields_at d at).first ≤ i → i < end_of d at
        → nests_from at i ≡ at ∷ nests_from (at + 1 + (fields_at d at).first) i
    from_second at i n whole a b =
        from_nest at i n (omega arith) b
        ∙ ap (λ (js : List ℕ). at ∷ js) (from_past (fields_at d at).first (at + 1) i a (λ j x y. omega (arith, nest.first at j (omega arith) (omega arith) y)))
