-- What is found lies inside the image, and over a description of whole items; so a write that is accepted fits where it goes. Assumes nothing.
use Rattle.std.specs.Prelude.{if◌then◌else◌, Ok, Err}
use Prim.Native.Nat.{ℕ, ◌+◌, ◌^◌, ◌<◌, ◌≤◌, min}
use mathlib.Core.Path.{◌≡◌, refl, ◌∙◌, ap, sym, subst}
use mathlib.Core.Bool.{Bool, true, false, not}
use mathlib.Core.List.{List}
use mathlib.Core.Option.{Option, some, none}
use lib.ListN.{length}
use borrow.Author.Tests.{ltb-false, eqb-true}
use native.Mathlib.Omega.{arith}
use Rattle.offsets.specs.declared.ImageOffset.{ImageOffset}
use Rattle.offsets.specs.declared.TableOffset.{TableOffset}
use Rattle.meaning.specs.Basics.{◌<?◌, ◌=?◌}
use Rattle.meaning.specs.declared.ElementName.{ElementName}
use Rattle.meaning.specs.declared.Refusal.{Refusal}
use Rattle.meaning.specs.Description.{item_count, fields_at, is_uint, kind_of}
use Rattle.meaning.specs.Layout.{Placed, Seat, table_named, number_at}
use Rattle.meaning.specs.Refusals.{open_image, seat_place, table_place_reply, range_at, read_range_reply, element_place_reply, integer_place_reply, element_place_in, writable, any_dimension, table_around, allowed, allowed_at, fitting, range_of, range_in, range_place, written_in, octets_place_in, number_place_in, place_start}
use Rattle.meaning.proofs.Ranges.{fields_range}
use Rattle.meaning.specs.Numbers.{outside_table, not_writable, holds_dimension, wrong_size}
use Rattle.laying.proofs.LaidOut.{total_inside}
use Rattle.laying.proofs.Found.{element_own, element_ends, for_exactly, table_ends}
use Rattle.laying.proofs.Opened.{Came, opens, refuses, came, opened_image, table_laid, where_opens, table_opens}
use Rattle.octets.specs.Octets.{number_read}
use Rattle.octets.proofs.Laws.{read_there}
use Rattle.meaning.specs.Messages.{other_size}
use Rattle.meaning.proofs.Either.{tested}
use Rattle.access.specs.declared.Part.{Part}
use Rattle.access.specs.declared.Part.TheVariants.{Range, Whole}
use Rattle.access.specs.Access.{place_to_write, FitsAt, Inside}
use Rattle.access.proofs.Laws.{elements_in, written_told}
use Rattle.meaning.specs.Values.{Place, at}

-- AN ELEMENT
pub record Stands (d img : List ℕ) (q : ElementName) (p n : ℕ) : Type 0 where
  pub inside : p + n ≤ length img
  pub there : q.item < item_count d
  pub few : is_uint (fields_at d q.item) ≡ true → n ≤ 4

pub stands : (d img : List ℕ) (q : ElementName) (p n : ℕ) → element_place_reply d img q ≡ at (record { 0 = p }) n → Stands d img q p n
stands d img q p n e =
    let a = where_opens d img q p n e in
    record {
      inside = omega (arith, element_ends a, total_inside d img a.seats a.elements a.slots a.total a.opens.laid);
      there = (element_own a).there;
      few = λ u. let k = eqb-true (kind_of (fields_at d q.item)) 2 u in omega (arith, (element_own a).long (omega arith), (fields_range d q.item).integer k);
    }

pub element_inside : (d img : List ℕ) (q : ElementName) (v : Place) → v ≡ element_place_reply d img q → Inside img v
element_inside d img q (Ok w) e = (stands d img q w.start.0 w.length (sym e)).inside
element_inside d img q (Err r) e = tt

-- an integer is read as it stands
pub read_integer : (d img : List ℕ) (q : ElementName) (p n : ℕ) → integer_place_reply d img q ≡ at (record { 0 = p }) n → number_read img p n ≡ number_at img p n
unfolding integer_place_reply
read_integer d img q p n e =
    let i = (for_exactly d img q true p n).0 e in
    let s = stands d img q p n i.1 in
    read_there img p n (omega (arith, s.few (i.0 refl))) s.inside

-- A TABLE
pub table_inside : (d img : List ℕ) (m k : ℕ) (v : Place) → v ≡ table_place_reply d img m k → Inside img v
table_inside d img m k (Ok w) e =
    let a = table_opens d img m k w.start.0 w.length (sym e) in
    omega (arith, table_ends a, total_inside d img a.seats a.elements a.slots a.total a.opens.laid)
table_inside d img m k (Err r) e = tt

-- and a range that it holds
pub range_inside : (d img : List ℕ) (m k : ℕ) (o : TableOffset) (n : ℕ) (v : Place) → v ≡ read_range_reply d img m k o n → Inside img v
unfolding read_range_reply range_at
range_inside d img m k o n v e = subst (Inside img) (sym e) (go (table_place_reply d img m k) refl)
  where
    within : (p l : ℕ) → p + l ≤ length img → (b : Bool) → (l <? o.0 + n) ≡ b → Inside img (if b then Err outside_table else at (record { 0 = p + o.0 }) n)
    within p l h true f = tt
    within p l h false f = omega (arith, ltb-false l (o.0 + n) f)

    go : (w : Place) → w ≡ table_place_reply d img m k → Inside img (range_at o n w)
    go (Ok e) h = within e.start.0 e.length (table_inside d img m k (at e.start e.length) h) (e.length <? o.0 + n) refl
    go (Err r) h = tt

-- A PART stands at the first octet of its place, which the image's end doesn't cut
pub first_told : (img : List ℕ) (w : Place) (p : ImageOffset) (n : ℕ) → Inside img w → w ≡ at p n → min p.0 (length img) ≡ place_start w
first_told img w p n h e = let k : p.0 + n ≤ length img = subst (Inside img) e h in rw e (omega (arith, k))

-- AN ACCEPTED WRITE FITS WHERE IT GOES
-- what holds of every refusal, and of the octets asked about, holds of what may be written
allowed_holds : (P : Place → Type 0) → ((r : Refusal) → P (Err r)) → (d img : List ℕ) (es : List Placed) (t p n : ℕ) → P (at (record { 0 = p }) n) → P (allowed d img es t p n)
unfolding allowed
allowed_holds P refusals d img es t p n there = go (writable d img t) (any_dimension es p n)
  where
    go : (a b : Bool) → P (if not a then Err not_writable else if b then Err holds_dimension else at (record { 0 = p }) n)
    go true true = refusals _
    go true false = there
    go false b = refusals _

-- a range of a table that lies inside the image
module _ (d img : List ℕ) (es : List Placed) (o : TableOffset) (n : ℕ) where
  found_fits : (t : Option Seat) → ((u : Seat) → t ≡ some u → u.start + u.size ≤ length img) → FitsAt img n (range_of d img es o n t)
  unfolding range_of
  found_fits none f = tt
  found_fits (some t) f = go (t.size <? o.0 + n) refl
    where
      go : (b : Bool) → (t.size <? o.0 + n) ≡ b → FitsAt img n (if b then Err outside_table else allowed d img es t.item (t.start + o.0) n)
      go true e = tt
      go false e = allowed_holds (FitsAt img n) (λ r. tt) d img es t.item (t.start + o.0) n (omega (arith, ltb-false t.size (o.0 + n) e, f t refl))

pub range_fits : (d img : List ℕ) (m k : ℕ) (o : TableOffset) (n : ℕ) (v : Place) → v ≡ range_place d img m k o n → FitsAt img n v
unfolding range_place range_in seat_place
range_fits d img m k o n v e = subst (FitsAt img n) (sym e) (go (came d img))
  where
    go : Came d img → FitsAt img n (range_place d img m k o n)
    go (refuses r h) = rw h tt
    go (opens ts es s total h) =
        rw (opened_image h) (found_fits d img es o n (table_named m k ts) (λ u f.
        let a = table_opens d img m k u.start u.size (table_laid h m k ∙ ap seat_place f) in
        omega (arith, table_ends a, total_inside d img a.seats a.elements a.slots a.total a.opens.laid)))

-- the same of a part of a table
pub place_fits : (part : Part) (d img : List ℕ) (m k n : ℕ) (v : Place) → v ≡ place_to_write part d img m k n → FitsAt img n v
unfolding place_to_write
place_fits part d img m k n v e = subst (FitsAt img n) (sym e) (go part)
  where
    go : (p : Part) → FitsAt img n (place_to_write p d img m k n)
    go (Range o) = range_fits d img m k o n _ refl
    go Whole = tested (FitsAt img n) (other_size n (table_place_reply d img m k)) _ _ (λ h. tt) (λ h. range_fits d img m k (record { 0 = 0 }) n _ refl)

-- an element, where it is
module _ (d img : List ℕ) (q : ElementName) (es : List Placed) where
  octets_at_lem : (n p l : ℕ) → p + l ≤ length img → FitsAt img n (fitting (λ k. n =? k) (allowed d img es (table_around d q.item) p l))
  unfolding fitting
  octets_at_lem n p l h = allowed_holds (λ w. FitsAt img n (fitting (λ k. n =? k) w)) (λ r. tt) d img es (table_around d q.item) p l (go (n =? l) refl)
    where
      go : (b : Bool) → (n =? l) ≡ b → FitsAt img n (if b then at (record { 0 = p }) l else Err wrong_size)
      go true e = omega (arith, eqb-true n l e)
      go false e = tt

  number_at_lem : (x p l : ℕ) → p + l ≤ length img → Inside img (fitting (λ k. x <? 256 ^ k) (allowed d img es (table_around d q.item) p l))
  unfolding fitting
  number_at_lem x p l h = allowed_holds (λ w. Inside img (fitting (λ k. x <? 256 ^ k) w)) (λ r. tt) d img es (table_around d q.item) p l (go (x <? 256 ^ l))
    where
      go : (b : Bool) → Inside img (if b then at (record { 0 = p }) l else Err wrong_size)
      go true = h
      go false = tt

module _ (number : Bool) (d img : List ℕ) (q : ElementName) where
  -- where it is, as all that is known there
  pub stands_for : (p : ImageOffset) (l : ℕ) → element_place_in number d q (open_image d img) ≡ at p l → Stands d img q p.0 l
  stands_for p l h = stands d img q p.0 l ((for_exactly d img q number p.0 l).0 h).1

  write_holds : (P : Place → Type 0) → ((r : Refusal) → P (Err r)) → (fits : ℕ → Bool)
      → ((p l : ℕ) → p + l ≤ length img → P (fitting fits (allowed d img (elements_in (open_image d img)) (table_around d q.item) p l)))
      → P (written_in number fits d img q (open_image d img))
  unfolding fitting allowed_at
  write_holds P refusals fits there = subst P (written_told number fits d img q (open_image d img)) (go (element_place_in number d q (open_image d img)) refl)
    where
      go : (w : Place) → element_place_in number d q (open_image d img) ≡ w → P (fitting fits (allowed_at d img q (elements_in (open_image d img)) w))
      go (Ok e) h = there e.start.0 e.length (stands_for e.start e.length h).inside
      go (Err r) h = refusals r

pub octets_fits : (d img : List ℕ) (q : ElementName) (n : ℕ) (v : Place) → v ≡ octets_place_in d img q n (open_image d img) → FitsAt img n v
octets_fits d img q n v e = subst (FitsAt img n) (sym e) (write_holds false d img q (FitsAt img n) (λ r. tt) (λ k. n =? k) (λ p l h. octets_at_lem d img q (elements_in (open_image d img)) n p l h))

pub number_fits : (d img : List ℕ) (q : ElementName) (x : ℕ) (v : Place) → v ≡ number_place_in d img q x (open_image d img) → Inside img v
number_fits d img q x v e = subst (Inside img) (sym e) (write_holds true d img q (Inside img) (λ r. tt) (λ k. x <? 256 ^ k) (λ p l h. number_at_lem d img q (elements_in (open_image d img)) x p l h))
