-- Of demand 1: over an opened image, the tests by which a question is refused come to what the replies look at: whether a table and an element are found, which item the table is of, and
-- whether octets are a dimension's. Assumes nothing.
use Rattle.std.specs.Prelude.{if◌then◌else◌}
use Prim.Native.Nat.{ℕ, zero, suc, ◌+◌, ◌<◌, ◌≤◌, min, max}
use mathlib.Core.Path.{◌≡◌, refl, sym, ◌∙◌, ap}
use mathlib.Core.Bool.{Bool, true, false, not, ◌&&◌, ◌||◌, true≢false}
use mathlib.Core.List.{List, [], ◌∷◌}
use mathlib.Core.Option.{Option, some, none}
use lib.ListN.{length}
use borrow.Author.Tests.{ltb-true, ltb-false, lt-ltb}
use native.Mathlib.Decide.{dec_lt}
use native.Mathlib.Omega.{arith}
use Rattle.meaning.specs.Basics.{◌<?◌}
use Rattle.meaning.specs.Description.{item_count, fields_at, is_table_named, is_dimension, table_given}
use Rattle.meaning.specs.Layout.{Placed, Seat, Slots, table_named}
use Rattle.meaning.specs.Refusals.{any_dimension, placed_place, element_place_reply}
use Rattle.meaning.proofs.Given.{table_given_lem}
use Rattle.meaning.proofs.Passed.{passed_laws}
use Rattle.meaning.proofs.Rules.{either_false, both_false}
use Rattle.laying.proofs.Among.{Among, every_among, among_every, ElementOf}
use Rattle.laying.proofs.Dimensions.{Free, search_free, free_search}
use Rattle.laying.proofs.Found.{own}
use Rattle.laying.proofs.Opened.{Opens, where_laid}
use Rattle.demands.specs.Demand1.{table_item, meets, some_before, touches_dimension}
use Rattle.demands.specs.Replies.{ours, octets_at, alone}
use Rattle.demands.specs.Walk.{numbers_in, arrays_of, has_element}
use Rattle.demands.proofs.Elements.{name_told}
use Rattle.demands.proofs.Laid.{laid_facts}
use Rattle.demands.proofs.Names.{name_long, dimension_direct, dimension_exists, is_found}
use Rattle.demands.proofs.Tables.{TableNamed, named_is, is_named, one_table, table_found_lem, found_table}
use Rattle.meaning.proofs.Either.{clash}

-- that there is none
unfoldable pub no_seat : Option Seat → Bool
no_seat none = true
no_seat (some t) = false

-- SEARCHES
-- a TABLE that is given is an item
abbrev IsItem : (description : List ℕ) → (n m k : ℕ) → Type 0
IsItem d n m k = (i : ℕ) × (i < n) × (is_table_named (fields_at d i) m k ≡ true)

given_table : (d : List ℕ) (n m k : ℕ) → table_given d n m k ≡ true → IsItem d n m k
unfolding table_given
given_table d zero m k h = absurd (true≢false (sym h))
given_table d (suc n) m k h = go (is_table_named (fields_at d n) m k) refl h (given_table d n m k)
  where
    go : (b : Bool) → is_table_named (fields_at d n) m k ≡ b → (b || table_given d n m k) ≡ true → (table_given d n m k ≡ true → IsItem d n m k) → IsItem d (suc n) m k
    go true e g rest = (n, omega arith, e)
    go false e g rest = let r = rest g in (r.0, omega (arith, r.1), r.2)

-- a test that fails of all fails of some
none_before : (n : ℕ) (test : ℕ → Bool) → ((i : ℕ) → i < n → test i ≡ false) → some_before n test ≡ false
unfolding some_before
none_before zero test h = refl
none_before (suc n) test h = rw (h n (omega arith)) (none_before n test (λ i l. h i (omega arith)))

each_before : (n : ℕ) (test : ℕ → Bool) → some_before n test ≡ false → (i : ℕ) → i < n → test i ≡ false
unfolding some_before
each_before zero test h i l = absurd (omega arith)
each_before (suc n) test h i l = let b = either_false (test n) (some_before n test) h in go (dec_lt i n) b.0 (each_before n test b.1 i)
  where
    go : Dec (i < n) → test n ≡ false → (i < n → test i ≡ false) → test i ≡ false
    go (yes g) b rest = rest g
    go (no g) b rest = let e : i ≡ n = omega arith in rw e b

-- tests that fail where the other does are one
both_fail : (a b : Bool) → (a ≡ false → b ≡ false) → (b ≡ false → a ≡ false) → a ≡ b
both_fail true true f g = refl
both_fail true false f g = g refl
both_fail false true f g = sym (f refl)
both_fail false false f g = refl

no_more : (xs : List ℕ) → length xs ≡ 0 → xs ≡ []
no_more [] e = refl
no_more (x ∷ xs) e = absurd (omega arith)

-- octets that meet a place share one with it
module _ (p n s l : ℕ) where
  pub apart_meets : ((x : ℕ) → p ≤ x → x < p + n → s ≤ x → x < s + l → ⊥) → meets p n (octets_at s l) ≡ false
  unfolding meets
  apart_meets h = go (max p s <? min (p + n) (s + l)) refl
    where
      go : (b : Bool) → (max p s <? min (p + n) (s + l)) ≡ b → b ≡ false
      go true e = let g = ltb-true (max p s) (min (p + n) (s + l)) e in absurd (h (max p s) (omega arith) (omega arith) (omega arith) (omega arith))
      go false e = refl

  pub meets_apart : meets p n (octets_at s l) ≡ false → (x : ℕ) → p ≤ x → x < p + n → s ≤ x → x < s + l → ⊥
  unfolding meets
  meets_apart h x a b c e = omega (arith, ltb-false (max p s) (min (p + n) (s + l)) h)

-- OF AN OPENED IMAGE
module _ {d img : List ℕ} {ts : List Seat} {es : List Placed} {s : Slots} {total : ℕ} (o : Opens d img ts es s total) where
  -- the TABLE of that name is an item exactly where its table is found
  pub table_test : (m k : ℕ) → not (table_given d (item_count d) m k) ≡ no_seat (table_named m k ts)
  unfolding no_seat
  table_test m k = go (table_named m k ts) refl (table_given d (item_count d) m k) refl
    where
      go : (x : Option Seat) → table_named m k ts ≡ x → (b : Bool) → table_given d (item_count d) m k ≡ b → not b ≡ no_seat x
      go none e false g = refl
      go none e true g =
          let r = given_table d (item_count d) m k g in
          clash (cc (table_found_lem o (named_is r.1 r.2)).3)
      go (some t) e true g = refl
      go (some t) e false g =
          let i = found_table o e in
          absurd (true≢false (sym (table_given_lem d t.item m k (is_named i) (item_count d) (omega (arith, i.there))) ∙ g))

  -- and is the one that the search ends at
  item_search : {m k i : ℕ} → TableNamed d m k i → (n : ℕ) → i < n → n ≤ item_count d → table_item d n m k ≡ i
  unfolding table_item
  item_search h zero l f = absurd (omega arith)
  item_search {m} {k} {i} h (suc n) l f = go (is_table_named (fields_at d n) m k) refl (λ g. item_search h n g (omega arith))
    where
      go : (b : Bool) → is_table_named (fields_at d n) m k ≡ b → (i < n → table_item d n m k ≡ i) → (if b then n else table_item d n m k) ≡ i
      go true e rest = one_table (passed_laws d o.passes) (named_is (omega arith) e) h
      go false e rest = early (dec_lt i n)
        where
          early : Dec (i < n) → table_item d n m k ≡ i
          early (yes g) = rest g
          early (no g) = let z : i ≡ n = omega arith in absurd (true≢false (sym (is_named h) ∙ rw z e))

  pub table_item_lem : (m k : ℕ) (t : Seat) → table_named m k ts ≡ some t → table_item d (item_count d) m k ≡ t.item
  table_item_lem m k t e = let i = found_table o e in item_search i (item_count d) i.there (omega arith)

  -- A DIMENSION'S ELEMENT has no subscripts, so it is where its item's alone is
  no_subscripts : (e : Placed) → Among e es → 0 < e.slot → e.subscripts ≡ []
  unfolding has_element arrays_of
  no_subscripts e m k =
      let i = own o e m in
      let n = every_among _ e es (laid_facts o).named m in
      let direct = dimension_direct d o.passes e.item i.there (omega (arith, i.sets)) in
      no_more e.subscripts (rw direct at (name_long d (numbers_in d img) e.item e.subscripts n))

  dimension_told : (e : Placed) → Among e es → 0 < e.slot → element_place_reply d img (alone e.item) ≡ octets_at e.start e.size
  unfolding placed_place
  dimension_told e m k =
      let n : ElementOf e.item [] es e = record { among = m; item = refl; subscripts = no_subscripts e m k } in
      where_laid o (alone e.item) ∙ ap (placed_place _) (is_found o (alone e.item) e n refl)

  -- octets are a dimension's, by the items, exactly where they are by the elements
  touched : (p n : ℕ) → any_dimension es p n ≡ false → touches_dimension ours d img p n ≡ false
  unfolding touches_dimension
  touched p n h = none_before (item_count d) _ (λ i l. go i l (is_dimension (fields_at d i)) refl)
    where
      go : (i : ℕ) → i < item_count d → (b : Bool) → is_dimension (fields_at d i) ≡ b → (b && meets p n (element_place_reply d img (alone i))) ≡ false
      go i l false e = refl
      go i l true e =
          let sets = ltb-true 0 (fields_at d i).sets e in
          let r = name_told o (alone i) (dimension_exists d o.passes (numbers_in d img) i l sets) in
          let f = r.0.element in
          let m = r.0.of.among in
          let slot : (fields_at d f.item).sets ≡ (fields_at d i).sets = ap (λ j. (fields_at d j).sets) r.0.of.item in
          rw r.1 (apart_meets p n f.start f.size
          (λ x a b c g. omega (arith, every_among (Free p n) f es (search_free p n es h) m x a b c g, (own o f m).sets)))

  untouched : (p n : ℕ) → touches_dimension ours d img p n ≡ false → any_dimension es p n ≡ false
  unfolding touches_dimension
  untouched p n h = free_search p n es (among_every (Free p n) es (λ e m x a b c f. go e m x a b c f (dec_lt 0 e.slot)))
    where
      go : (e : Placed) → Among e es → (x : ℕ) → p ≤ x → x < p + n → e.start ≤ x → x < e.start + e.size → Dec (0 < e.slot) → e.slot ≡ 0
      go e m x a b c f (no k) = omega arith
      go e m x a b c f (yes k) =
          let i = own o e m in
          let t = both_false (is_dimension (fields_at d e.item)) _ (each_before (item_count d) _ h e.item i.there) (lt-ltb 0 (fields_at d e.item).sets (omega (arith, i.sets))) in
          absurd (meets_apart p n e.start e.size (rw (dimension_told e m k) at t) x a b c f)

  pub dimension_test : (p n : ℕ) → touches_dimension ours d img p n ≡ any_dimension es p n
  dimension_test p n = both_fail _ _ (untouched p n) (touched p n)
