-- DATA_ORDER ISN'T WRITTEN where no dimension is: it is item 1's, whose way is the least, so it is the image's first octet. By the demands on one family. Assumes nothing.
use Prim.Native.Nat.{ℕ, ◌+◌, ◌<◌, ◌≤◌}
use mathlib.Core.Path.{◌≡◌, refl, sym, ◌∙◌, ap}
use mathlib.Core.Logic.{◌⊎◌, inl, inr}
use mathlib.Core.Bool.{true, ◌&&◌, true≢false}
use mathlib.Core.List.{List, [], ◌∷◌}
use lib.ListN.{length}
use borrow.Author.Tests.{leb-true, eqb-true, ltb-true, lt-ltb, le-ltb}
use native.Mathlib.Decide.{dec_lt}
use native.Mathlib.Omega.{arith}
use Rattle.meaning.specs.Basics.{◌≤?◌, ◌=?◌}
use Rattle.meaning.specs.declared.ElementName.{ElementName}
use Rattle.meaning.specs.Causes.{subscripts_of}
use Rattle.meaning.specs.Description.{item_count, fields_at, is_table, is_table_named, is_table00, is_dimension, is_data_order, kind_of}
use Rattle.meaning.specs.Layout.{leaf_octets, value}
use Rattle.meaning.specs.Passed.{PassedLaws}
use Rattle.meaning.specs.Questions.{refusal_in}
use Rattle.meaning.proofs.Passed.{passed_laws}
use Rattle.meaning.proofs.Ranges.{fields_range}
use Rattle.almanac.proofs.Tests.{both_true}
use Rattle.laying.specs.Every.{Every}
use Rattle.demands.specs.Demand2.{NoDimension}
use Rattle.demands.specs.Demand3.{SameName}
use Rattle.demands.specs.Demands.{Demands}
use Rattle.demands.specs.Replies.{Replies, octets_at, alone}
use Rattle.demands.specs.Walk.{octets_in, numbers_in, arrays_round, way, way_to, Earlier}
use Rattle.demands.proofs.OnlyFirst.{check_decided}
use Rattle.demands.proofs.OnlyNames.{Element, Array, existing, arrays_are, names_compared}
use Rattle.demands.proofs.OnlyPlaces.{told_none, passed_is, element_told, number_told, Is, start, set_out}
use Rattle.demands.proofs.OnlyTiles.{Compared, earlier, same, later}
use Rattle.meaning.specs.Refusals.{place_start}
use Rattle.std.specs.Prelude.{Ok}
use Rattle.meaning.specs.declared.Answer.{Answer}

-- THE LEAST WAY
way_alone : (ks : List ℕ) (i : ℕ) → way ks [] i ≡ i ∷ []
unfolding way
way_alone [] i = refl
way_alone (k ∷ ks) i = refl

-- none is less than item 1's, for item 0 is neither an element nor an ARRAY
none_less : (d : List ℕ) → is_table (fields_at d 0) ≡ true → (ks xs : List ℕ) (i : ℕ) → Every (Array d) ks → length xs ≡ length ks → Element d i
    → Earlier (way ks xs i) (1 ∷ []) → ⊥
unfolding way Every Earlier
none_less d t [] xs i h l is (inl e) =
    let f : i ≡ 0 = omega arith in
    let least = leb-true 2 (kind_of (fields_at d i)) (both_true (2 ≤? kind_of (fields_at d i)) _ is).0 in
    omega (arith, rw f at least, eqb-true (kind_of (fields_at d 0)) 1 t)
none_less d t [] xs i h l is (inr e) = e.1
none_less d t (k ∷ ks) [] i h l is e = omega arith
none_less d t (k ∷ ks) (x ∷ xs) i h l is (inl e) =
    let f : k ≡ 0 = omega arith in
    let five = eqb-true (kind_of (fields_at d k)) 5 h.0 in
    omega (arith, rw f at five, eqb-true (kind_of (fields_at d 0)) 1 t)
none_less d t (k ∷ ks) (x ∷ xs) i h l is (inr e) = e.1

-- WHAT ITEMS 0 AND 1 ARE
pub record Begins (d : List ℕ) : Type 0 where
  pub two : 1 < item_count d
  pub table : is_table (fields_at d 0) ≡ true
  pub sets : 0 < (fields_at d 1).sets
  pub octet : (x : ℕ) → leaf_octets (fields_at d 1) x ≡ 1

begins : (d : List ℕ) → PassedLaws d → Begins d
unfolding is_table00 is_data_order leaf_octets
begins d p =
    let f = fields_at d 0 in
    let g = fields_at d 1 in
    let named = (both_true (is_table_named f 0 0) _ p.begins).0 in
    let marked = (both_true (is_table f && f.manufacturer =? 0) _ named).0 in
    let (sets, one) = both_true (is_dimension g) (g.octets =? 1) p.ordered in
    let some = ltb-true 0 g.sets sets in
    let owns = (fields_range d 1).owns (omega (arith, (fields_range d 1).dimension some)) in
    record {
      two = p.two;
      table = (both_true (is_table f) (f.manufacturer =? 0) marked).0;
      sets = some;
      octet = λ x. rw (le-ltb 0 g.slot (omega (arith, owns))) (eqb-true g.octets 1 one);
    }

-- THE IMAGE'S FIRST OCTET
module _ (R : Replies) (r : Demands R) (d img : List ℕ) where
  -- an element that there is stands after it, or is item 1's, a dimension
  first_octet : (laid : R.layout d img ≡ Ok (Answer.Total (octets_in d img))) (q : ElementName) → Is d img q → (0 < start R r d img q) ⊎ (is_dimension (fields_at d q.item) ≡ true)
  unfolding refusal_in
  first_octet laid q is =
      let b = begins d (passed_laws d (sym (check_decided d (R.check d) (r.first d img).rules) ∙ (passed_is R r d img (rw laid)).passes)) in
      let number = ((r.third d img).elements_stand _ laid).dimensions 1 b.two b.sets in
      let one = (number_told R r d img (alone 1) (rw number)).named.0 in
      go b one (names_compared d (alone 1) q (existing d (numbers_in d img) (alone 1) one) (existing d (numbers_in d img) q is))
    where
      go : Begins d → Is d img (alone 1) → Compared (Earlier (way_to d (alone 1)) (way_to d q)) (SameName (alone 1) q) (Earlier (way_to d q) (way_to d (alone 1)))
          → (0 < start R r d img q) ⊎ (is_dimension (fields_at d q.item) ≡ true)
      go b one (earlier e) = inl (omega (arith, (set_out R r d img laid).order (alone 1) q one is e, b.octet (value (numbers_in d img) (fields_at d 1))))
      go b one (same e) = inr (rw (sym e.item) (lt-ltb 0 (fields_at d 1).sets b.sets))
      go b one (later e) =
          let x = existing d (numbers_in d img) q is in
          absurd (none_less d b.table (arrays_round d q.item) (subscripts_of q) q.item (arrays_are d _) x.many x.element
          (rw (way_alone (arrays_round d 1) 1) at e))

  -- so an element that holds no dimension's octet doesn't hold it
  pub order_kept : (q : ElementName) (p n : ℕ) → R.element_place d img q ≡ octets_at p n → NoDimension R d img p n → (0 < p) ⊎ (p + n ≤ 0)
  order_kept q p n at free =
      let told = element_told R r d img q (told_none _ p n at) in
      go (dec_lt 0 p) (dec_lt 0 n) (first_octet told.layout q told.named)
    where
      go : Dec (0 < p) → Dec (0 < n) → (0 < start R r d img q) ⊎ (is_dimension (fields_at d q.item) ≡ true) → (0 < p) ⊎ (p + n ≤ 0)
      go (yes l) m h = inl l
      go (no l) (no m) h = inr (omega (arith, l, m))
      go (no l) (yes m) (inl h) = absurd (l (omega (arith, ap place_start at)))
      go (no l) (yes m) (inr h) =
          absurd (true≢false (sym h ∙ free 0 (omega (arith, l)) (omega arith) q (record { start = p; size = n; reply = at; from = omega (arith, l); to = omega arith })))
