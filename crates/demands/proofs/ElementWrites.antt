-- Of demands 2 and 3: the writes of an element's octets and of its number, which differ in what fits the element and in which elements there are. Assumes nothing.
use Rattle.std.specs.Prelude.{if◌then◌else◌, Ok, Err}
use Prim.Native.Nat.{ℕ, ◌+◌, ◌-◌, ◌^◌, ◌<◌, ◌≤◌}
use mathlib.Core.Path.{◌≡◌, refl, sym, ◌∙◌, ap}
use mathlib.Core.Bool.{Bool, true, false, true≢false}
use mathlib.Core.List.{List}
use lib.ListN.{length, get_or}
use borrow.Author.Tests.{eqb-true, eq-eqb, ltb-true, lt-ltb}
use native.Mathlib.Omega.{arith}
use Rattle.meaning.specs.Basics.{◌=?◌, ◌<?◌, octets_in}
use Rattle.meaning.specs.declared.ElementName.{ElementName}
use Rattle.meaning.specs.declared.Refusal.{Refusal}
use Rattle.meaning.specs.Description.{fields_at, is_uint}
use Rattle.meaning.specs.Layout.{Placed, Seat, Slots, data_order, number_at}
use Rattle.meaning.specs.Passed.{Exactly}
use Rattle.meaning.specs.Refusals.{refused, open_image, place_part, element_place_in, element_place_reply, integer_place_reply, element_part_reply, place_number, place_start, place_length}
use Rattle.meaning.specs.Refusals.{element_number_reply, place_verdict, table_around, fitting, allowed_at, written_in, octets_place_in, write_octets_reply, write_octets_image}
use Rattle.meaning.specs.Refusals.{number_place_in, write_number_reply, write_number_image}
use Rattle.meaning.proofs.Octets.{octets_long, octets_back}
use Rattle.meaning.proofs.Passed.{passed_laws}
use Rattle.meaning.proofs.Splices.{part_at}
use Rattle.meaning.specs.Numbers.{wrong_size}
use Rattle.demands.specs.Demand2.{OthersSame, ElementGood, NumberGood, OctetsWrites, NumberWrites}
use Rattle.demands.specs.Replies.{octets_at, ours}
use Rattle.demands.specs.Demand3.{StaysPut}
use Rattle.laying.proofs.Opened.{Opens, Came, opens, refuses, came, opened_image, where_opens}
use Rattle.laying.proofs.Found.{element_own, element_ends, for_exactly}
use Rattle.demands.proofs.Octets.{octets_below}
use Rattle.demands.proofs.Dimensions.{found_none, none_found}
use Rattle.demands.proofs.Writable.{round_writable, writable_round}
use Rattle.demands.proofs.Allowed.{refused_not, Open, allowed_is, allowed_only}
use Rattle.demands.proofs.Writes.{Taken, written_with, with_data, with_number, after, taken_passed, taken_after, taken_others, taken_there, taken_order, taken_stays}
use Rattle.demands.proofs.Writes.{stays_put, refused_unchanged}
use Rattle.meaning.specs.Values.{Place, passed, at}
use Rattle.meaning.specs.declared.Answer.{Answer}

-- what it comes to, of an image that is opened, and of one that isn't
written_opened : {d img : List ℕ} {ts : List Seat} {es : List Placed} {s : Slots} {total : ℕ} → Opens d img ts es s total → (number : Bool) (fits : ℕ → Bool) (q : ElementName)
    → written_in number fits d img q (open_image d img) ≡ fitting fits (allowed_at d img q es (element_place_in number d q (open_image d img)))
unfolding written_in
written_opened o number fits q = rw (opened_image o)

written_refused : (d img : List ℕ) (r : Refusal) → open_image d img ≡ refused r → (number : Bool) (fits : ℕ → Bool) (q : ElementName) → written_in number fits d img q (open_image d img) ≡ Err r
unfolding written_in
written_refused d img r e number fits q = rw e

-- ANY WRITE OF AN ELEMENT
-- what the write comes to, w, by the tests that it makes: whether an element's length fits, and whether the element is of the sort asked for
record Write (d img : List ℕ) (q : ElementName) (w : Place) (data' : ℕ → List ℕ) (Fits : ℕ → Type 0) (Sort : Type 0) : Type 0 where
  fits : ℕ → Bool
  fits_exactly : (n : ℕ) → Exactly (fits n ≡ true) (Fits n)
  long : (n : ℕ) → Fits n → length (data' n) ≡ n
  number : Bool
  sorted_exactly : Exactly Sort (number ≡ true → is_uint (fields_at d q.item) ≡ true)
  is : w ≡ written_in number fits d img q (open_image d img)

-- what fits a place is accepted only where the place is
fitting_only : (fits : ℕ → Bool) (v : Place) → place_verdict (fitting fits v) ≡ passed → place_verdict v ≡ passed
unfolding fitting place_verdict
fitting_only fits (Ok e) h = refl
fitting_only fits (Err r) h = h

-- and where it fits
fits_only : (fits : ℕ → Bool) (p n : ℕ) → place_verdict (fitting fits (octets_at p n)) ≡ passed → fits n ≡ true
unfolding fitting
fits_only fits p n = go (fits n) refl
  where
    go : (b : Bool) → fits n ≡ b → place_verdict (if b then octets_at p n else Err wrong_size) ≡ passed → fits n ≡ true
    go true e h = e
    go false e h = absurd (refused_not _ h)

-- an element's place v that may be written, of a length that fits
record Admits (d img : List ℕ) (q : ElementName) (es : List Placed) (fits : ℕ → Bool) (v : Place) : Type 0 where
  start : ℕ
  size : ℕ
  is : v ≡ octets_at start size
  fit : fits size ≡ true
  allowed : Open d img es (table_around d q.item) start size

-- an accepted write has one
admits_only : (d img : List ℕ) (q : ElementName) (es : List Placed) (fits : ℕ → Bool) (v : Place)
    → place_verdict (fitting fits (allowed_at d img q es v)) ≡ passed → Admits d img q es fits v
unfolding allowed_at fitting
admits_only d img q es fits (Ok e) h =
    let t = table_around d q.item in
    let a = allowed_only d img es t e.start.0 e.length (fitting_only fits _ h) in
    record { start = e.start.0; size = e.length; is = refl; fit = fits_only fits e.start.0 e.length (rw (allowed_is d img es t e.start.0 e.length a) at h); allowed = a }
admits_only d img q es fits (Err r) h = absurd (refused_not r h)

-- and with one the write is accepted there
admits_is : (d img : List ℕ) (q : ElementName) (es : List Placed) (fits : ℕ → Bool) (p n : ℕ) → fits n ≡ true → Open d img es (table_around d q.item) p n
    → fitting fits (allowed_at d img q es (octets_at p n)) ≡ octets_at p n
unfolding allowed_at fitting
admits_is d img q es fits p n f a = rw (allowed_is d img es (table_around d q.item) p n a, f)

module _ {d img : List ℕ} {q : ElementName} {w : Place} {data' : ℕ → List ℕ} {Fits : ℕ → Type 0} {Sort : Type 0} (k : Write d img q w data' Fits Sort) where
  -- good: the element is the write's place
  element_taken : Sort → (g : ElementGood ours d img q Fits) → Taken d img w data' g.start g.size
  element_taken sort g =
      let a = where_opens d img q g.start g.size g.exists in
      let h = a.opens in
      let there = (for_exactly d img q k.number g.start g.size).1 (k.sorted_exactly.0 sort, g.exists) in
      let free = none_found h g.start g.size g.free in
      let marked = round_writable (passed_laws d h.passes) img (element_own a) g.allowed in
      record {
        seats = a.seats;
        elements = a.elements;
        slots = a.slots;
        total = a.total;
        opens = h;
        is = k.is ∙ written_opened h k.number k.fits q
            ∙ ap (λ (y : Place). fitting k.fits (allowed_at d img q a.elements y)) there
            ∙ admits_is d img q a.elements k.fits g.start g.size ((k.fits_exactly g.size).1 g.fits) (record { marked = marked; free = free });
        long = k.long g.size g.fits;
        inside = element_ends a;
        free = free;
      }

  -- accepted: the element is good
  element_good : place_verdict w ≡ passed → Sort × ElementGood ours d img q Fits
  element_good v = go (came d img)
    where
      go : Came d img → Sort × ElementGood ours d img q Fits
      go (opens ts es s total h) =
          let r = admits_only d img q es k.fits (element_place_in k.number d q (open_image d img)) (rw (k.is, written_opened h k.number k.fits q) at v) in
          let c = (for_exactly d img q k.number r.start r.size).0 r.is in
          let there = c.1 in (
            k.sorted_exactly.1 c.0,
            record {
              start = r.start;
              size = r.size;
              exists = there;
              fits = (k.fits_exactly r.size).0 r.fit;
              allowed = writable_round (passed_laws d h.passes) img (element_own (where_opens d img q r.start r.size there)) r.allowed.marked;
              free = found_none h r.start r.size r.allowed.free;
            },
          )
      go (refuses r e) = absurd (refused_not r (rw (k.is, written_refused d img r e k.number k.fits q) at v))

  -- every table and element stands where it stood
  element_stays : StaysPut ours d img (written_with img data' w)
  element_stays = stays_put w data' (λ v. let g = element_good v in (g.1.start, g.1.size, element_taken g.0 g.1))

  -- and every other octet is the same
  element_others : (p n : ℕ) → place_verdict w ≡ passed → element_place_reply d img q ≡ octets_at p n → OthersSame img (written_with img data' w) p n
  element_others p n v e =
      let g = element_good v in
      let t = element_taken g.0 g.1 in
      let start : g.1.start ≡ p = ap place_start (sym g.1.exists ∙ e) in
      let size : g.1.size ≡ n = ap place_length (sym g.1.exists ∙ e) in
      rw (taken_after t, ← start, ← size) (taken_others t)

-- WRITE AN ELEMENT'S OCTETS: any element, as many octets as it has
module _ (d img : List ℕ) (q : ElementName) (new : List ℕ) where
  -- what the write comes to
  abbrev octets_place : Place
  octets_place = octets_place_in d img q (length new) (open_image d img)

  -- the tests that it makes
  octets_write : Write d img q octets_place (λ n. new) (λ size. length new ≡ size) (Unit {0})
  octets_write =
      record {
        fits = λ l. length new =? l;
        fits_exactly = λ n. (eqb-true (length new) n, eq-eqb (length new) n);
        long = λ n e. e;
        number = false;
        sorted_exactly = (λ x e. absurd (true≢false (sym e)), λ x. tt);
        is = refl;
      }

  -- every table and element stands where it stood
  pub octets_stay : StaysPut ours d img (write_octets_image d img q new)
  unfolding write_octets_image
  octets_stay = rw with_data (element_stays octets_write)

  -- every clause
  pub octets_writes : OctetsWrites ours d img q new
  unfolding write_octets_reply write_octets_image element_part_reply place_part
  octets_writes =
      record {
        accepted = (λ v. (element_good octets_write v).1, λ g. taken_passed (element_taken octets_write tt g));
        read_back = λ v.
            let g = (element_good octets_write v).1 in
            let t = element_taken octets_write tt g in
            rw (with_data, taken_after t, (taken_stays t).elements q, g.exists) (taken_there t);
        others = rw with_data (element_others octets_write);
        unchanged = rw with_data (refused_unchanged img octets_place (λ n. new));
      }

-- WRITE AN ELEMENT'S NUMBER: of an integer, a number of no more octets than it has
module _ (d img : List ℕ) (q : ElementName) (x : ℕ) where
  -- what the write comes to
  abbrev number_place : Place
  number_place = number_place_in d img q x (open_image d img)

  -- the sort asked for
  abbrev Integer : Type 0
  Integer = is_uint (fields_at d q.item) ≡ true

  -- the data: the number's octets, as many as the element has
  abbrev number_octets : ℕ → List ℕ
  number_octets n = octets_in (data_order img) n x

  -- the tests that it makes
  number_write : Write d img q number_place number_octets (λ size. x < 256 ^ size) Integer
  number_write =
      record {
        fits = λ l. x <? 256 ^ l;
        fits_exactly = λ n. (ltb-true x (256 ^ n), lt-ltb x (256 ^ n));
        long = λ n e. octets_long (data_order img) n x;
        number = true;
        sorted_exactly = (λ x e. x, λ x. x refl);
        is = refl;
      }

  -- a good element is the write's place
  number_taken : (g : NumberGood ours d img q x) → Taken d img number_place number_octets g.1.start g.1.size
  number_taken g = element_taken number_write g.0 g.1

  -- every table and element stands where it stood
  pub number_stays : StaysPut ours d img (write_number_image d img q x)
  unfolding write_number_image
  number_stays = rw with_number (element_stays number_write)

  -- its octets make the number again
  number_back : (g : NumberGood ours d img q x) → element_number_reply d (after (number_taken g)) q ≡ Ok (Answer.Number x)
  unfolding element_number_reply integer_place_reply place_number number_at
  number_back g =
      let t = number_taken g in
      let there = (for_exactly d (after t) q true g.1.start g.1.size).1 ((λ e. g.0), (taken_stays t).elements q ∙ g.1.exists) in
      rw (there, taken_order t, taken_there t)
      (ap (λ n. Ok (Answer.Number n)) (octets_back (data_order img) g.1.size x g.1.fits))

  -- each octet written is one
  number_octet : (g : NumberGood ours d img q x) (y : ℕ) → g.1.start ≤ y → y < g.1.start + g.1.size → get_or (after (number_taken g)) y 0 < 256
  number_octet g y a b =
      let t = number_taken g in
      let i = y - g.1.start in
      let e : g.1.start + i ≡ y = omega arith in
      rw (← e, ← part_at (after t) g.1.start g.1.size i (omega arith), taken_there t) (octets_below (data_order img) g.1.size x i)

  number_octets_lem : (p n : ℕ) → place_verdict number_place ≡ passed → element_place_reply d img q ≡ octets_at p n
      → (y : ℕ) → p ≤ y → y < p + n → get_or (written_with img number_octets number_place) y 0 < 256
  number_octets_lem p n v e y a b =
      let g = element_good number_write v in
      let start : g.1.start ≡ p = ap place_start (sym g.1.exists ∙ e) in
      let size : g.1.size ≡ n = ap place_length (sym g.1.exists ∙ e) in
      rw (taken_after (number_taken g)) (number_octet g y (omega arith) (omega arith))

  -- every clause
  pub number_writes : NumberWrites ours d img q x
  unfolding write_number_reply write_number_image
  number_writes =
      record {
        accepted = (element_good number_write, λ g. taken_passed (number_taken g));
        read_back = λ v.
            let g = element_good number_write v in
            rw (with_number, taken_after (number_taken g)) (number_back g);
        octets = rw with_number number_octets_lem;
        others = rw with_number (element_others number_write);
        unchanged = rw with_number (refused_unchanged img number_place number_octets);
      }
