-- What the replies come to, case by case. Assumes nothing.
use Rattle.std.specs.Prelude.{Ok, Err, if◌then◌else◌}
use Prim.Native.Nat.{ℕ, zero, suc, ◌+◌, ◌-◌, ◌*◌, ◌^◌, ◌/◌, ◌<◌, ◌≤◌, min}
use mathlib.Core.Path.{◌≡◌, refl, ◌∙◌, ap, sym, subst}
use mathlib.Core.Bool.{Bool, true, false, not}
use mathlib.Core.Option.{Option, some, none}
use mathlib.Core.List.{List, []}
use lib.ListN.{length}
use borrow.Author.Tests.{ltb-false, ltb-true, le-ltb, lt-ltb, le-leb, leb-true, leb-false, eqb-true, eq-eqb, ne_eqb}
use native.Mathlib.Numerals.{add-one}
use native.Mathlib.Omega.{arith}
use native.Mathlib.Nat.{pow-le-pow_right, pow-suc, div-eq_of_lt, div-eq-sub-div}
use lib.Pow.{pow-add}
use Rattle.offsets.specs.declared.TableOffset.{TableOffset}
use Rattle.meaning.specs.Basics.{◌<?◌, ◌≤?◌, ◌=?◌, octets_in}
use Rattle.meaning.specs.declared.ElementName.{ElementName}
use Rattle.meaning.specs.declared.Refusal.{Refusal}
use Rattle.meaning.specs.declared.Fields.{Fields}
use Rattle.meaning.specs.Description.{item_count, fields_at, is_table, is_dimension}
use Rattle.meaning.specs.Layout.{Placed, Seat, Slots, table_named, data_order, number_at}
use Rattle.meaning.specs.Refusals.{Opened, opened, refused, open_image, seat_place, table_place_in, table_place_reply, range_at, read_range_reply, element_place_in, element_place_reply, integer_place_reply, place_number, element_number_reply, place_verdict, image_with, image_with_number, table_around, writable, any_dimension, allowed, allowed_at, fitting, range_of, range_in, range_place, write_range_reply, write_range_image, written_in}
use Rattle.meaning.proofs.Octets.{octets_long}
use Rattle.meaning.specs.Numbers.{outside_table, not_writable, holds_dimension}
use Rattle.octets.specs.Octets.{put}
use Rattle.laying.proofs.Among.{every_among, seat_among}
use Rattle.laying.proofs.Dimensions.{element_dimension}
use Rattle.laying.proofs.Found.{for_exactly, table_ends}
use Rattle.laying.proofs.LaidOut.{tables_there, total_inside}
use Rattle.laying.proofs.Opened.{Opens, Came, opens, refuses, came, opened_image, table_laid, table_opens, where_opens}
use Rattle.offsets.specs.declared.ImageOffset.{ImageOffset}
use Rattle.items.specs.declared.Read.{Read}
use Rattle.items.specs.Read.{read_at}
use Rattle.items.proofs.ReadLaws.{fields_read, next_read}
use Rattle.places.specs.declared.RangeTable.{RangeTable}
use Rattle.places.specs.Found.{FoundRange}
use Rattle.places.specs.Opening as ranges
use Rattle.places.specs.Surveying.{held_in}
use Rattle.meaning.specs.Messages.{other_size, write_table_reply, write_table_image}
use Rattle.access.specs.declared.Part.{Part}
use Rattle.access.specs.declared.Part.TheVariants.{Range, Whole}
use Rattle.access.specs.Access.{part_start, part_fits, element_to_write, SeenAs, place_to_write, allowed_by, fitted_by}
use Rattle.meaning.specs.Values.{Place, passed, at}
use Rattle.meaning.specs.declared.Answer.{Answer}

-- THE TABLE THAT AN ITEM STANDS IN
-- one item further on
pub around_step : (d : List ℕ) (at : ℕ) → table_around d (at + 1) ≡ (if is_table (fields_at d at) then at else table_around d at)
unfolding table_around
around_step d at = rw (add-one at)

pub around_none : (d : List ℕ) → table_around d 0 ≡ 0
unfolding table_around
around_none d = refl

-- the items up to one asked for, one after another
pub record Passing (d : List ℕ) (item : ℕ) (read : Read) (at : ℕ) (latest : Fields) : Type 0 where
  pub upto : at ≤ item
  pub here : read ≡ read_at d at
  pub table : latest ≡ fields_at d (table_around d at)

module _ (d : List ℕ) (item : ℕ) (h : item < item_count d) where
  pub passing_first : (r : Read) → r ≡ read_at d 0 → Passing d item r 0 r.fields
  passing_first r e = record {
    upto = omega arith;
    here = e;
    table = fields_read d 0 (omega arith) e ∙ ap (fields_at d) (sym (around_none d));
  }

  module _ (r : Read) (at : ℕ) (t : Fields) (p : Passing d item r at t) where
    pub passing_next : at < item → (t' : Fields) → t' ≡ (if is_table r.fields then r.fields else t) → (r' : Read) → r' ≡ read_at d r.next.at → Passing d item r' (at + 1) t'
    passing_next l t' e r' g =
        record {
          upto = omega arith;
          here = g ∙ ap (read_at d) (next_read d at (omega arith) p.here);
          table = e ∙ rw (fields_read d at (omega arith) p.here, p.table) (go (is_table (fields_at d at))) ∙ ap (fields_at d) (sym (around_step d at));
        }
      where
        go : (b : Bool) → (if b then fields_at d at else fields_at d (table_around d at)) ≡ fields_at d (if b then at else table_around d at)
        go true = refl
        go false = refl

    pub passing_seen : item ≤ at → SeenAs d item (record { fields = r.fields; table = t })
    passing_seen n =
        let e : at ≡ item = omega (arith, p.upto) in
        record { fields = fields_read d at (omega arith) p.here ∙ ap (fields_at d) e; table = p.table ∙ ap (λ (i : ℕ). fields_at d (table_around d i)) e }

-- 13, THEN 14
pub allowed_is : (d img : List ℕ) (es : List Placed) (t p n : ℕ) → allowed d img es t p n ≡ allowed_by (fields_at d t).writable (any_dimension es p n) (record { 0 = p }) n
unfolding allowed writable allowed_by
allowed_is d img es t p n = go (fields_at d t).writable (any_dimension es p n)
  where
    go : (w h : Bool) → (if not w then Err not_writable else if h then Err holds_dimension else at (record { 0 = p }) n)
        ≡ (if w then (if h then Err holds_dimension else at (record { 0 = p }) n) else Err not_writable)
    go true h = refl
    go false h = refl

-- A RANGE OF A TABLE, by what a walk tells of the table
-- what is told of the octets of a range that lies in it
held_within : (o n : ℕ) (t : Seat) (es : List Placed) → o + n ≤ t.size → held_in o n (some t) es ≡ any_dimension es (t.start + o) n
unfolding held_in
held_within o n t es h = rw (le-leb (o + n) t.size h)

-- a table found is of an item of the description, and lies inside the image
pub record TableIn (d img : List ℕ) (i p l : ℕ) : Type 0 where
  pub there : i < item_count d
  pub inside : p + l ≤ length img
  pub small : length img ≤ 65535

-- the range in the table found, or none
abbrev pub RangeTold : (description image : List ℕ) → TableOffset → (n : ℕ) → FoundRange → Place → Type 0
RangeTold d img o n (Err x) v = Err x ≡ v
RangeTold d img o n (Ok a) v =
    TableIn d img a.item a.start.0 a.length
    × (v ≡ (if a.length <? o.0 + n then Err outside_table else allowed_by (fields_at d a.item).writable a.held (record { 0 = a.start.0 + o.0 }) n))

module _ (d img : List ℕ) (es : List Placed) (o : TableOffset) (n : ℕ) where
  range_none : RangeTold d img o n (ranges.range_of o.0 n none es) (range_of d img es o n none)
  unfolding range_of ranges.range_of
  range_none = refl

  range_some : (t : Seat) → TableIn d img t.item t.start t.size → RangeTold d img o n (ranges.range_of o.0 n (some t) es) (range_of d img es o n (some t))
  unfolding range_of ranges.range_of
  range_some t h = (h, go (t.size <? o.0 + n) refl)
    where
      go : (b : Bool) → (t.size <? o.0 + n) ≡ b
          → (if b then Err outside_table else allowed d img es t.item (t.start + o.0) n)
          ≡ (if b then Err outside_table else allowed_by (fields_at d t.item).writable (held_in o.0 n (some t) es) (record { 0 = t.start + o.0 }) n)
      go true e = refl
      go false e = rw (held_within o.0 n t es (ltb-false t.size (o.0 + n) e)) (allowed_is d img es t.item (t.start + o.0) n)

module _ (d img : List ℕ) (m k : ℕ) (o : TableOffset) (n : ℕ) (r : FoundRange) (is : r ≡ ranges.range_in m k o n (open_image d img)) where
  -- by cases on the image
  told : RangeTold d img o n r (range_place d img m k o n)
  unfolding range_place range_in ranges.range_in seat_place
  told = go (came d img)
    where
      -- of an image that is opened
      in_opened : (ts : List Seat) (es : List Placed) (s : Slots) (total : ℕ) → Opens d img ts es s total → (t : Option Seat) → table_named m k ts ≡ t
          → RangeTold d img o n (ranges.range_of o.0 n t es) (range_of d img es o n t)
      in_opened ts es s total h none e = range_none d img es o n
      in_opened ts es s total h (some t) e =
          let a = table_opens d img m k t.start t.size (table_laid h m k ∙ ap seat_place e) in
          range_some d img es o n t (record {
            there = every_among _ t ts (tables_there d img ts es s total h.laid) (seat_among m k ts t e).among;
            inside = omega (arith, table_ends a, total_inside d img a.seats a.elements a.slots a.total a.opens.laid);
            small = h.allowed;
          })

      go : Came d img → RangeTold d img o n r (range_place d img m k o n)
      go (refuses x e) = rw e (subst (λ (z : FoundRange). RangeTold d img o n z (Err x)) (sym (is ∙ ap (ranges.range_in m k o n) e)) refl)
      go (opens ts es s total h) =
          rw (opened_image h)
          (subst (λ (z : FoundRange). RangeTold d img o n z (range_of d img es o n (table_named m k ts))) (sym (is ∙ ap (ranges.range_in m k o n) (opened_image h)))
          (in_opened ts es s total h (table_named m k ts) refl))

  -- refused, past the table, or allowed there or not
  pub range_refused : (x : Refusal) → r ≡ Err x → Err x ≡ range_place d img m k o n
  range_refused x e = subst (λ (z : FoundRange). RangeTold d img o n z (range_place d img m k o n)) e told

  module _ (a : RangeTable) (e : r ≡ Ok a) where
    pub table_in : TableIn d img a.item a.start.0 a.length
    table_in = (subst (λ (z : FoundRange). RangeTold d img o n z (range_place d img m k o n)) e told).0

    found : range_place d img m k o n ≡ (if a.length <? o.0 + n then Err outside_table else allowed_by (fields_at d a.item).writable a.held (record { 0 = a.start.0 + o.0 }) n)
    found = (subst (λ (z : FoundRange). RangeTold d img o n z (range_place d img m k o n)) e told).1

    module _ (b : Bool) (within : b ≡ (o.0 + n ≤? a.length)) where
      pub range_past : b ≡ false → Err outside_table ≡ range_place d img m k o n
      range_past f = sym (found ∙ rw (lt-ltb a.length (o.0 + n) (leb-false (o.0 + n) a.length (sym within ∙ f))))

      pub range_there : b ≡ true → (p : ℕ) → p ≡ a.start.0 + o.0 → (f : Fields) → f ≡ fields_at d a.item → allowed_by f.writable a.held (record { 0 = p }) n ≡ range_place d img m k o n
      range_there t p g f fe = rw (g, fe) (sym (found ∙ rw (le-ltb a.length (o.0 + n) (leb-true (o.0 + n) a.length (sym within ∙ t)))))

-- READING A RANGE: by the place of the table found
abbrev table_of : FoundRange → Place
table_of (Err x) = Err x
table_of (Ok a) = at (record { 0 = a.start.0 }) a.length

module _ (d img : List ℕ) (m k : ℕ) (o : TableOffset) (n : ℕ) (r : FoundRange) (is : r ≡ ranges.range_in m k o n (open_image d img)) where
  table_told : table_place_reply d img m k ≡ table_of r
  unfolding table_place_reply table_place_in seat_place ranges.range_in ranges.range_of
  table_told = rw is (go (open_image d img))
    where
      seated : (t : Option Seat) (es : List Placed) → seat_place t ≡ table_of (ranges.range_of o.0 n t es)
      seated none es = refl
      seated (some t) es = refl

      go : (x : Opened) → table_place_in m k x ≡ table_of (ranges.range_in m k o n x)
      go (opened ts es s total) = seated (table_named m k ts) es
      go (refused x) = refl

  pub read_refused : (x : Refusal) → r ≡ Err x → Err x ≡ read_range_reply d img m k o n
  unfolding read_range_reply range_at
  read_refused x e = rw (table_told, e)

  module _ (a : RangeTable) (e : r ≡ Ok a) (b : Bool) (within : b ≡ (o.0 + n ≤? a.length)) where
    pub read_past : b ≡ false → Err outside_table ≡ read_range_reply d img m k o n
    unfolding read_range_reply range_at
    read_past f = rw (table_told, e, lt-ltb a.length (o.0 + n) (leb-false (o.0 + n) a.length (sym within ∙ f)))

    pub read_there : b ≡ true → (p : ℕ) → p ≡ a.start.0 + o.0 → at (record { 0 = p }) n ≡ read_range_reply d img m k o n
    unfolding read_range_reply range_at
    read_there t p g = rw (table_told, e, le-ltb a.length (o.0 + n) (leb-true (o.0 + n) a.length (sym within ∙ t)), g)

-- WRITING A RANGE, OR A WHOLE TABLE
-- n octets that are such a part lie in the table
pub part_within : (part : Part) (n l : ℕ) {b : Bool} → b ≡ part_fits part n l → b ≡ true → (part_start part).0 + n ≤ l
unfolding part_fits part_start
part_within (Range o) n l e t = leb-true _ _ (sym e ∙ t)
part_within Whole n l e t = omega (arith, eqb-true n l (sym e ∙ t))

module _ (part : Part) (d img : List ℕ) (m k n : ℕ) (r : FoundRange) (is : r ≡ ranges.range_in m k (part_start part) n (open_image d img)) where
  abbrev o : TableOffset
  o = part_start part

  pub place_refused : (x : Refusal) → r ≡ Err x → Err x ≡ place_to_write part d img m k n
  unfolding place_to_write other_size part_start
  place_refused x e = go part is
    where
      go : (p : Part) → r ≡ ranges.range_in m k (part_start p) n (open_image d img) → Err x ≡ place_to_write p d img m k n
      go (Range o) h = range_refused d img m k o n r h x e
      go Whole h = rw (table_told d img m k (record { 0 = 0 }) n r h, e) (range_refused d img m k (record { 0 = 0 }) n r h x e)

  module _ (a : RangeTable) (e : r ≡ Ok a) (b : Bool) (fits : b ≡ part_fits part n a.length) where
    pub place_past : b ≡ false → Err outside_table ≡ place_to_write part d img m k n
    unfolding place_to_write other_size part_start part_fits
    place_past f = go part is fits
      where
        go : (p : Part) → r ≡ ranges.range_in m k (part_start p) n (open_image d img) → b ≡ part_fits p n a.length → Err outside_table ≡ place_to_write p d img m k n
        go (Range o) h w = range_past d img m k o n r h a e b w f
        go Whole h w = rw (table_told d img m k (record { 0 = 0 }) n r h, e, sym w ∙ f)

    pub place_there : b ≡ true → (p : ℕ) → p ≡ a.start.0 + o.0 → (f : Fields) → f ≡ fields_at d a.item → allowed_by f.writable a.held (record { 0 = p }) n ≡ place_to_write part d img m k n
    unfolding place_to_write other_size part_start part_fits
    place_there t p g f fe = go part is fits g
      where
        go : (q : Part) → r ≡ ranges.range_in m k (part_start q) n (open_image d img) → b ≡ part_fits q n a.length → p ≡ a.start.0 + (part_start q).0
            → allowed_by f.writable a.held (record { 0 = p }) n ≡ place_to_write q d img m k n
        go (Range o) h w z = range_there d img m k o n r h a e b w t p z f fe
        go Whole h w z =
            let l : 0 + n ≤ a.length = omega (arith, eqb-true n a.length (sym w ∙ t)) in
            rw (table_told d img m k (record { 0 = 0 }) n r h, e, sym w ∙ t)
            (range_there d img m k (record { 0 = 0 }) n r h a e true (sym (le-leb (0 + n) a.length l)) refl p z f fe)

-- a whole table's verdict and image
module _ (d img : List ℕ) (m k : ℕ) (new : List ℕ) (v : Place) (e : v ≡ place_to_write Whole d img m k (length new)) where
  pub whole_reply : place_verdict v ≡ write_table_reply d img m k new
  unfolding place_to_write write_table_reply write_range_reply place_verdict
  whole_reply = rw e (go (other_size (length new) (table_place_reply d img m k)))
    where
      go : (b : Bool) → place_verdict (if b then Err outside_table else range_place d img m k (record { 0 = 0 }) (length new))
          ≡ (if b then Err outside_table else place_verdict (range_place d img m k (record { 0 = 0 }) (length new)))
      go true = refl
      go false = refl

  pub whole_image : image_with img new v ≡ write_table_image d img m k new
  unfolding place_to_write write_table_image write_range_image image_with
  whole_image = rw e (go (other_size (length new) (table_place_reply d img m k)))
    where
      go : (b : Bool) → image_with img new (if b then Err outside_table else range_place d img m k (record { 0 = 0 }) (length new))
          ≡ (if b then img else image_with img new (range_place d img m k (record { 0 = 0 }) (length new)))
      go true = refl
      go false = refl

-- an offset in a table inside the image is counted on from the table's start
pub counted_on : (s f n l long p : ℕ) → p ≡ min (s + f) 18446744073709551615 → s + l ≤ long → long ≤ 65535 → f + n ≤ l → p ≡ s + f
counted_on s f n l long p e h k w = omega arith

-- AN ELEMENT
-- the elements of an image that is opened
abbrev pub elements_in : Opened → List Placed
elements_in (opened ts es s n) = es
elements_in (refused r) = []

-- what is written to an element, by where it is
pub written_told : (number : Bool) (fits : ℕ → Bool) (d img : List ℕ) (q : ElementName) (o : Opened)
    → fitting fits (allowed_at d img q (elements_in o) (element_place_in number d q o)) ≡ written_in number fits d img q o
unfolding written_in element_place_in allowed_at fitting
written_told number fits d img q (opened ts es s total) = refl
written_told number fits d img q (refused r) = refl

-- 13 and 14 of an element: its octets hold one of a dimension if it is one
pub element_is : (d img : List ℕ) (q : ElementName) (p n : ℕ) → element_place_reply d img q ≡ at (record { 0 = p }) n
    → allowed d img (elements_in (open_image d img)) (table_around d q.item) p n
    ≡ allowed_by (fields_at d (table_around d q.item)).writable (is_dimension (fields_at d q.item)) (record { 0 = p }) n
element_is d img q p n e =
    let a = where_opens d img q p n e in
    allowed_is d img (elements_in (open_image d img)) (table_around d q.item) p n
    ∙ ap (λ (b : Bool). allowed_by (fields_at d (table_around d q.item)).writable b (record { 0 = p }) n) (ap (λ (o : Opened). any_dimension (elements_in o) p n) (opened_image a.opens) ∙ element_dimension a)

-- 15
fitted_is : (fits : ℕ → Bool) (w h : Bool) (p : ImageOffset) (n : ℕ) → fitted_by (fits n) (allowed_by w h p n) ≡ fitting fits (allowed_by w h p n)
unfolding fitted_by fitting allowed_by
fitted_is fits true true p n = refl
fitted_is fits true false p n = refl
fitted_is fits false h p n = refl

-- where an element is, what is written there; of one whose number is asked, or not
module _ (number : Bool) (fits : ℕ → Bool) (d img : List ℕ) (q : ElementName) (found : Place) (f : found ≡ element_place_in number d q (open_image d img)) where
  comes_to : fitting fits (allowed_at d img q (elements_in (open_image d img)) found) ≡ written_in number fits d img q (open_image d img)
  comes_to = ap (λ (v : Place). fitting fits (allowed_at d img q (elements_in (open_image d img)) v)) f ∙ written_told number fits d img q (open_image d img)

  -- refused as the place is
  pub write_refused : (r : Refusal) → found ≡ Err r → found ≡ written_in number fits d img q (open_image d img)
  unfolding allowed_at fitting
  write_refused r e = e ∙ ap (λ (v : Place). fitting fits (allowed_at d img q (elements_in (open_image d img)) v)) (sym e) ∙ comes_to

  module _ (p n : ℕ) (e : found ≡ at (record { 0 = p }) n) where
    -- 13, 14, then 15
    pub write_there : element_to_write d q.item (record { 0 = p }) n (fits n) ≡ written_in number fits d img q (open_image d img)
    unfolding allowed_at
    write_there =
        fitted_is fits _ _ (record { 0 = p }) n ∙ ap (fitting fits) (sym (element_is d img q p n ((for_exactly d img q number p n).0 (sym f ∙ e)).1))
        ∙ ap (λ (v : Place). fitting fits (allowed_at d img q (elements_in (open_image d img)) v)) (sym e) ∙ comes_to

-- A NUMBER AND SO MANY OCTETS
-- every number has its place in 8 octets or more
pub fits_eight : (x n : ℕ) → x < 18446744073709551616 → 8 ≤ n → true ≡ (x <? 256 ^ n)
fits_eight x n h e =
    let m : 256 ^ 8 ≤ 256 ^ n = pow-le-pow_right (omega arith) e in
    sym (lt-ltb x (256 ^ n) (omega arith))

-- eight bits are an octet
eight_bits : (n : ℕ) → 2 ^ (n * 8) ≡ 256 ^ n
eight_bits zero = refl
eight_bits (suc n) =
    let e : suc n * 8 ≡ n * 8 + 8 = omega arith in
    ap (λ (k : ℕ). 2 ^ k) e ∙ pow-add 2 (n * 8) 8 ∙ ap (λ (k : ℕ). k * 256) (eight_bits n) ∙ sym (pow-suc 256 n)

-- with fewer, nothing is left of it past them
pub fits_fewer : (x n : ℕ) → (x / 2 ^ (n * 8) =? 0) ≡ (x <? 256 ^ n)
fits_fewer x n = rw (eight_bits n) (go (x <? 256 ^ n) refl)
  where
    below : x < 256 ^ n → x / 256 ^ n ≡ 0
    below h = div-eq_of_lt h

    some : 0 < 256 ^ n
    some = let z : 0 ≤ n = omega arith in let m : 256 ^ 0 ≤ 256 ^ n = pow-le-pow_right (omega arith) z in omega arith

    above : 256 ^ n ≤ x → 0 < x / 256 ^ n
    above h = let d : x / 256 ^ n ≡ (x - 256 ^ n) / 256 ^ n + 1 = div-eq-sub-div some h in omega arith

    go : (b : Bool) → (x <? 256 ^ n) ≡ b → (x / 256 ^ n =? 0) ≡ b
    go true e = eq-eqb _ _ (below (ltb-true _ _ e))
    go false e = ne_eqb _ _ (λ (z : x / 256 ^ n ≡ 0). omega (arith, above (ltb-false _ _ e)))

-- AN ELEMENT'S NUMBER, by its place
module _ (d img : List ℕ) (q : ElementName) (v : Place) where
  pub number_is : (p n x : ℕ) → v ≡ integer_place_reply d img q → v ≡ at (record { 0 = p }) n → x ≡ number_at img p n → Ok (Answer.Number x) ≡ element_number_reply d img q
  unfolding element_number_reply place_number
  number_is p n x e h g = rw (← e, h, g)

-- WHAT IS WRITTEN
module _ (img new : List ℕ) (v : Place) where
  pub kept_refused : (r : Refusal) → v ≡ Err r → (Err r ≡ place_verdict v) × (img ≡ image_with img new v)
  unfolding place_verdict image_with
  kept_refused r e = (rw e, rw e)

  pub put_there : (p n : ℕ) (later : List ℕ) → v ≡ at (record { 0 = p }) n → p + length new ≤ length img → later ≡ put img p new
      → (passed ≡ place_verdict v) × (later ≡ image_with img new v)
  unfolding place_verdict image_with put
  put_there p n later e h l = (rw e, l ∙ rw (e, le-leb (p + length new) (length img) h))

-- a number's octets
module _ (img : List ℕ) (x : ℕ) (v : Place) where
  pub number_kept : (r : Refusal) → v ≡ Err r → (Err r ≡ place_verdict v) × (img ≡ image_with_number img x v)
  unfolding place_verdict image_with_number
  number_kept r e = (rw e, rw e)

  pub number_there : (p n : ℕ) (later : List ℕ) → v ≡ at (record { 0 = p }) n → p + n ≤ length img → later ≡ put img p (octets_in (data_order img) n x)
      → (passed ≡ place_verdict v) × (later ≡ image_with_number img x v)
  unfolding place_verdict image_with_number put
  number_there p n later e h l =
      let k : p + length (octets_in (data_order img) n x) ≤ length img = rw (octets_long (data_order img) n x) h in
      (rw e, l ∙ rw (e, le-leb _ _ k))
