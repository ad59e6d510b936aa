-- Of demands 1 and 3: which names have an element among those laid out is told by the description and the numbers of its dimensions; and a dimension's element has its item's name, without
-- subscripts. Assumes nothing.
use Rattle.std.specs.Prelude.{if◌then◌else◌}
use Prim.Native.Nat.{ℕ, zero, suc, ◌+◌, ◌<◌}
use mathlib.Core.Path.{◌≡◌, refl, sym, ◌∙◌}
use mathlib.Core.Bool.{Bool, true, false, ◌&&◌, true≢false, and-eq-true_iff}
use mathlib.Core.List.{List, []}
use mathlib.Core.Option.{Option, some, none}
use lib.ListN.{length}
use borrow.Author.Tests.{lt-ltb, ltb-true, eqb-true}
use Rattle.meaning.specs.Basics.{◌=?◌, ◌<?◌, ◌≤?◌}
use Rattle.meaning.specs.declared.ElementName.{ElementName}
use Rattle.meaning.specs.Causes.{subscripts_of}
use Rattle.meaning.specs.Description.{item_count, fields_at, is_element, nests}
use Rattle.meaning.specs.Layout.{Placed, Seat, Slots, element_named}
use Rattle.meaning.specs.Passed.{Passes, end_of}
use Rattle.meaning.specs.Refusals.{element_in}
use Rattle.meaning.proofs.Either.{tested, clash}
use Rattle.meaning.proofs.Ranges.{fields_range}
use Rattle.laying.proofs.Among.{every_among, ElementOf, named_among}
use Rattle.laying.proofs.LaidOut.{names_found}
use Rattle.laying.proofs.Opened.{Opens}
use Rattle.demands.specs.Replies.{alone}
use Rattle.demands.specs.Rules.{NestRound}
use Rattle.demands.specs.Walk.{encloses, nests_in, nests_round, arrays_of, arrays_round, all_chosen, is_chosen, numbers_in, all_below, has_element, exists}
use Rattle.demands.proofs.Laid.{laid_facts}
use Rattle.demands.proofs.Rules.{check_in_words}

-- THE TESTS OF A NAME, and that all hold where there is one
module _ (d : List ℕ) (v : ℕ → ℕ) (i : ℕ) (xs : List ℕ) where
  abbrev is_one : Bool
  is_one = i <? item_count d && is_element (fields_at d i)

  abbrev as_many : Bool
  as_many = length xs =? length (arrays_round d i)

  abbrev below : Bool
  below = all_below d v (arrays_round d i) xs

  name_tests : has_element d v i xs ≡ true → (is_one ≡ true) × (as_many ≡ true) × (below ≡ true) × (is_chosen d v i ≡ true)
  unfolding has_element
  name_tests h =
      let all = (and-eq-true_iff (is_one && as_many && below) (is_chosen d v i)).0 h in
      let three = (and-eq-true_iff (is_one && as_many) below).0 all.0 in
      let two = (and-eq-true_iff is_one as_many).0 three.0 in
      (two.0, two.1, three.1, all.1)

  -- it has as many subscripts as ARRAYs stand round its item
  pub name_long : has_element d v i xs ≡ true → length xs ≡ length (arrays_round d i)
  name_long h = eqb-true _ _ (name_tests h).1

-- and there is one
module _ (d : List ℕ) (v : ℕ → ℕ) (q : ElementName) where
  exists_tests : exists d v q ≡ true → ((q.count ≤? 4) ≡ true) × (has_element d v q.item (subscripts_of q) ≡ true)
  unfolding exists
  exists_tests h = (and-eq-true_iff (q.count ≤? 4) (has_element d v q.item (subscripts_of q))).0 h

  -- its item is one of the description's
  pub name_there : exists d v q ≡ true → (q.item <? item_count d) ≡ true
  name_there h =
      ((and-eq-true_iff (q.item <? item_count d) (is_element (fields_at d q.item))).0
      (name_tests d v q.item (subscripts_of q) (exists_tests h).1).0).0

-- WHAT STANDS ROUND A DIMENSION: no ARRAY or IF
module _ (d : List ℕ) where
  nests_none : (n at i : ℕ) → ((j : ℕ) → NestRound d j i → ⊥) → nests_in d n at i ≡ []
  unfolding nests_in encloses
  nests_none zero at i h = refl
  nests_none (suc n) at i h =
      tested (λ js. js ≡ []) (nests (fields_at d at) && encloses d at i) _ _
      (λ t.
      let b = (and-eq-true_iff (nests (fields_at d at)) (encloses d at i)).0 t in
      let c = (and-eq-true_iff (at <? i) (i <? end_of d at)).0 b.1 in
      absurd (h at ((ltb-true at i c.0, ltb-true i (end_of d at) c.1), b.0)))
      (λ t. nests_none n (at + 1) i h)

  pub dimension_direct : Passes d → (i : ℕ) → i < item_count d → 0 < (fields_at d i).sets → nests_round d i ≡ []
  dimension_direct p i l sets = nests_none i 0 i ((((check_in_words d).passed.0 p).keeps i l).in_place.direct sets)

  -- so its element has no subscripts
  pub dimension_exists : Passes d → (v : ℕ → ℕ) (i : ℕ) → i < item_count d → 0 < (fields_at d i).sets → exists d v (alone i) ≡ true
  unfolding exists has_element arrays_of all_below all_chosen
  dimension_exists p v i l sets =
      let kind = (fields_range d i).dimension sets in
      rw (dimension_direct p i l sets, lt-ltb i (item_count d) l, kind)

-- OF AN OPENED IMAGE
module _ {d img : List ℕ} {ts : List Seat} {es : List Placed} {s : Slots} {total : ℕ} (o : Opens d img ts es s total) where
  -- the element of a name that there is
  pub record Found (q : ElementName) : Type 0 where
    pub element : Placed
    pub of : ElementOf q.item (subscripts_of q) es element
    pub found : element_in q es ≡ some element

  pub is_found : (q : ElementName) (e : Placed) → ElementOf q.item (subscripts_of q) es e → (q.count ≤? 4) ≡ true → element_in q es ≡ some e
  unfolding element_in
  is_found q e n c = rw (c, ← n.item, ← n.subscripts) (every_among _ e es (names_found d img ts es s total o.laid) n.among)

  pub name_found : (q : ElementName) → exists d (numbers_in d img) q ≡ true → Found q
  name_found q h =
      let b = exists_tests d (numbers_in d img) q h in
      let t = (laid_facts o).all q.item (subscripts_of q) b.1 in
      let n : ElementOf q.item (subscripts_of q) es t.element = record { among = t.among; item = t.item; subscripts = t.subscripts } in
      record { element = t.element; of = n; found = is_found q t.element n b.0 }

  -- there are no others
  pub found_name : (q : ElementName) (e : Placed) → element_in q es ≡ some e → exists d (numbers_in d img) q ≡ true
  unfolding exists element_in
  found_name q e = go (q.count ≤? 4) refl
    where
      go : (b : Bool) → (q.count ≤? 4) ≡ b → (if b then element_named q.item (subscripts_of q) es else none) ≡ some e
          → (b && has_element d (numbers_in d img) q.item (subscripts_of q)) ≡ true
      go true c h =
          let n = named_among q.item (subscripts_of q) es e h in
          rw (n.item, n.subscripts) at (every_among _ e es (laid_facts o).named n.among)
      go false c h = clash (cc)

  pub none_found : (q : ElementName) → exists d (numbers_in d img) q ≡ false → element_in q es ≡ none
  none_found q h = go (element_in q es) refl
    where
      go : (x : Option Placed) → element_in q es ≡ x → x ≡ none
      go none e = refl
      go (some f) e = absurd (true≢false (sym (found_name q f e) ∙ h))
