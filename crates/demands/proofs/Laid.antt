-- What laying out comes to, in the words of specs/Walk: of an opened image and of a short one, a passed description's. Assumes nothing.
use Prim.Native.Nat.{ℕ, ◌+◌, ◌<◌, ◌≤◌}
use mathlib.Core.Path.{◌≡◌, refl, ◌∙◌, ap, sym, subst}
use mathlib.Core.Logic.{inl, inr}
use mathlib.Core.Bool.{true, ◌&&◌, and-eq-true_iff}
use mathlib.Core.List.{List, [], ◌∷◌}
use lib.ListN.{length}
use borrow.Author.Tests.{eqb-true, ltb-true, lt-ltb, eq-eqb}
use native.Mathlib.Omega.{arith}
use Rattle.meaning.specs.Basics.{◌=?◌, ◌<?◌}
use Rattle.meaning.specs.Description.{item_count, fields_at, is_element}
use Rattle.meaning.specs.Layout.{tree_of, Slots, Placed, short, Seat, stopped_at, lay_out, Numbers, slot_numbers}
use Rattle.meaning.specs.Passed.{Passes}
use Rattle.meaning.proofs.Passed.{passed_laws}
use Rattle.laying.specs.Every.{Every}
use Rattle.laying.proofs.Among.{Among, every_among}
use Rattle.laying.proofs.Cover.{Lies, Consecutive, no_more, next, consecutive_fill}
use Rattle.laying.proofs.Every.{every_map}
use Rattle.laying.proofs.LaidOut.{elements_follow, total_inside}
use Rattle.laying.proofs.Opened.{Opens}
use Rattle.demands.specs.Walk.{arrays_of, arrays_round, is_chosen, Reached, numbers_in, FirstPast, all_below, has_element, way, Earlier}
use Rattle.demands.proofs.Around.{nests_from, round_from}
use Rattle.demands.proofs.Facts.{Facts}
use Rattle.demands.proofs.InTables.{TablesWalked, WalksAll, walks_all, names_all}
use Rattle.demands.proofs.Naming.{Name, names_tables, Named, Allowed, way_from, Names, Sorted}
use Rattle.demands.proofs.Stripped.{name_in, strip}
use Rattle.demands.proofs.Walking.{FirstIn}

-- FROM NAMES BACK TO ELEMENTS
every_strip : (P : Name → Type 0) (es : List Placed) → Every P (strip es) → Every (λ e. P (name_in e)) es
unfolding strip Every
every_strip P [] h = tt
every_strip P (e ∷ es) h = (h.0, every_strip P es h.1)

-- the element of a name
among_strip : (n : Name) (es : List Placed) → Among n (strip es) → (e : Placed) × Among e es × (name_in e ≡ n)
unfolding strip Among
among_strip n [] m = absurd m
among_strip n (e ∷ es) (inl h) = (e, inl refl, h)
among_strip n (e ∷ es) (inr m) = let r = among_strip n es m in (r.0, inr r.1, r.2)

-- ways are in one order alone
earlier_one : (xs ys : List ℕ) → Earlier xs ys → Earlier ys xs → ⊥
unfolding Earlier
earlier_one [] ys h k = h
earlier_one (x ∷ xs) [] h k = h
earlier_one (x ∷ xs) (y ∷ ys) (inl a) (inl b) = omega arith
earlier_one (x ∷ xs) (y ∷ ys) (inl a) (inr b) = omega (arith, b.0)
earlier_one (x ∷ xs) (y ∷ ys) (inr a) (inl b) = omega (arith, a.0)
earlier_one (x ∷ xs) (y ∷ ys) (inr a) (inr b) = earlier_one xs ys a.1 b.1

module _ (d : List ℕ) (w : Numbers) where
  abbrev way_of : Placed → List ℕ
  way_of e = way (arrays_of d (nests_from d 0 e.item)) e.subscripts e.item

  -- an element whose way is earlier stands earlier, of elements that follow one another in the order of their ways
  stands_earlier : {x y : ℕ} {es : List Placed} → Consecutive x es y → Sorted d w 0 (strip es) → (e f : Placed) → Among e es → Among f es → Earlier (way_of e) (way_of f)
      → e.start + e.size ≤ f.start
  unfolding Among Sorted strip
  stands_earlier no_more s e f m n h = absurd m
  stands_earlier (next {e = g} at c) s e f (inl a) (inl b) h = let k = rw (← a, ← b) at h in absurd (earlier_one (way_of g) (way_of g) k k)
  stands_earlier (next {e = g} {es} at c) s e f (inl a) (inr n) h =
      omega (arith, ap (λ (z : Placed). z.start) a, ap (λ (z : Placed). z.size) a, (every_among (Lies _ _) f es (consecutive_fill c).lies n).starts)
  stands_earlier (next {e = g} {es} at c) s e f (inr m) (inl b) h =
      absurd (earlier_one (way_of e) (way_of g) (rw (← b) at h) (every_among _ e es (every_strip (λ n. Earlier (way_from d w 0 (name_in g)) (way_from d w 0 n)) es s.0) m))
  stands_earlier (next at c) s e f (inr m) (inr n) h = stands_earlier c s.1 e f m n h

-- a name that there is, by the tests and by what stands round its item
module _ (d : List ℕ) (w : Numbers) (i : ℕ) (xs : List ℕ) where
  named_has : i < item_count d → is_element (fields_at d i) ≡ true → Named d w (nests_from d 0 i) i xs → has_element d w i xs ≡ true
  unfolding has_element
  named_has l is h =
      let h = rw (round_from d i) at h in
      rw (lt-ltb i (item_count d) l, is, eq-eqb _ _ h.many, h.below) h.chosen

  has_named : has_element d w i xs ≡ true → (i < item_count d) × (is_element (fields_at d i) ≡ true) × Named d w (nests_from d 0 i) i xs
  unfolding has_element
  has_named h =
      let a = i <? item_count d in
      let b = is_element (fields_at d i) in
      let c = length xs =? length (arrays_round d i) in
      let e = all_below d w (arrays_round d i) xs in
      let h1 = (and-eq-true_iff (a && b && c && e) (is_chosen d w i)).0 h in
      let h2 = (and-eq-true_iff (a && b && c) e).0 h1.0 in
      let h3 = (and-eq-true_iff (a && b) c).0 h2.0 in
      let h4 = (and-eq-true_iff a b).0 h3.0 in
      (ltb-true i (item_count d) h4.0, h4.1, rw (round_from d i) (record { many = eqb-true _ _ h3.1; below = h2.1; chosen = h1.1 }))

-- THE FACTS
pub laid_facts : {d img : List ℕ} {ts : List Seat} {es : List Placed} {s : Slots} {total : ℕ} → Opens d img ts es s total → Facts d img ts es total
laid_facts {d} {img} {ts} {es} {s} {total} o =
    let p = passed_laws d o.passes in
    let w = numbers_in d img in
    let h : TablesWalked d img 0 (names_tables (tree_of d) w) ts es s total = subst (WalksAll d img 0 (names_tables (tree_of d) w)) o.laid (walks_all d img p) in
    let n = subst (Names d w 0 (item_count d)) (sym h.names) (names_all d img p) in
    let each = every_strip (Allowed d w 0 (item_count d)) es n.each in
    record {
      inside =
          record {
            pieces = λ i l. h.inside i (omega arith) l;
            ends = ap (λ (r : Reached). r.octet) h.here;
            inside = total_inside d img ts es s total o.laid;
          };
      starts = h.starts;
      ends = h.ends;
      named = every_map _ _ (λ e k. named_has d w e.item e.subscripts k.high k.element k.named) es each;
      long = every_map _ _ (λ e k. k.long) es each;
      all = λ i xs k.
          let a = has_named d w i xs k in
          let r = n.all i xs (omega arith) a.0 a.1 a.2 in
          let e = among_strip r.name es r.among in
          record { element = e.0; among = e.1; item = ap (λ (z : Name). z.item) e.2 ∙ r.item; subscripts = ap (λ (z : Name). z.subscripts) e.2 ∙ r.subscripts };
      order = λ e f a b k. stands_earlier d w (elements_follow d img ts es s total o.laid) n.sorted e f a b (rw (round_from d e.item, round_from d f.item) k);
      dimensions = h.dimensions;
    }

-- the numbers of the slots are those of the dimensions
pub laid_numbers : {d img : List ℕ} {ts : List Seat} {es : List Placed} {s : Slots} {total : ℕ} → Opens d img ts es s total → slot_numbers s ≡ numbers_in d img
laid_numbers {d} {img} {ts} {es} {s} {total} o =
    let w = numbers_in d img in
    let h : TablesWalked d img 0 (names_tables (tree_of d) w) ts es s total = subst (WalksAll d img 0 (names_tables (tree_of d) w)) o.laid (walks_all d img (passed_laws d o.passes)) in
    sym (ap (λ (r : Reached). r.numbers) h.here)

pub short_first : (d img : List ℕ) → Passes d → (es : List Placed) (i p : ℕ) → lay_out d img ≡ stopped_at es (short i p) → FirstPast d img i p
short_first d img passes es i p e =
    let laws = passed_laws d passes in
    let h : FirstIn d img 0 (item_count d) i p = subst (WalksAll d img 0 (names_tables (tree_of d) (numbers_in d img))) e (walks_all d img laws) in
    record { there = h.high; at = h.at; past = h.past; before = λ j l. h.before j (omega arith) l }
