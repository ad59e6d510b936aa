-- What a reply finds: an element is one of those laid out, of its item, and ends by the total; so does a table. A passed description has whole items.
-- Assumes nothing.
use Rattle.std.specs.Prelude.{if◌then◌else◌}
use Prim.Native.Nat.{ℕ, ◌+◌, ◌<◌, ◌≤◌}
use mathlib.Core.Path.{◌≡◌, refl, ◌∙◌, ap, subst, sym}
use mathlib.Core.Bool.{Bool, true, false, and-eq-true_iff}
use mathlib.Core.List.{List, [], ◌∷◌}
use mathlib.Core.Option.{Option, some, none}
use lib.ListN.{take}
use borrow.Author.Tests.{lt-ltb}
use native.Mathlib.Omega.{arith}
use Rattle.meaning.specs.Basics.{◌<?◌}
use Rattle.meaning.specs.declared.ElementName.{ElementName}
use Rattle.meaning.specs.declared.Refusal.{Refusal}
use Rattle.meaning.specs.Causes.{suits, why_none}
use Rattle.meaning.specs.Description.{item_count, fields_at, is_uint}
use Rattle.meaning.specs.Layout.{Placed, Seat, Slots, slot_numbers}
use Rattle.meaning.specs.Passed.{Exactly}
use Rattle.meaning.specs.Refusals.{open_image, element_in, element_for, placed_place, element_place_in, element_place_reply}
use Rattle.meaning.proofs.Either.{clash}
use Rattle.laying.specs.Cover.{Follow}
use Rattle.laying.specs.Every.{Every}
use Rattle.laying.specs.Own.{OfItem}
use Rattle.laying.proofs.Among.{Among, every_among, ElementOf, named_among, SeatOf, seat_among}
use Rattle.laying.proofs.Cover.{EndsBy}
use Rattle.laying.proofs.Opened.{Opens, Came, opens, refuses, came, for_laid, where_laid, ElementAt, where_opens, TableOf}
use Rattle.laying.proofs.LaidOut.{elements_own, elements_end, tables_follow_lem}
use Rattle.meaning.specs.Values.{at}

-- each element laid out is of its item
pub own : {d img : List ℕ} {ts : List Seat} {es : List Placed} {s : Slots} {total : ℕ} → Opens d img ts es s total
    → (e : Placed) → Among e es → OfItem d e.item e.slot e.size
own {d} {img} {ts} {es} {s} {total} o e m = every_among _ e es (elements_own d img ts es s total o.laid) m

-- AN ELEMENT WHOSE PLACE IS REPLIED
module _ {d img : List ℕ} {q : ElementName} {p n : ℕ} (a : ElementAt d img q p n) where
  -- it is one of those laid out, by its name
  pub element_of_lem : ElementOf q.item (take q.count q.subscripts) a.elements a.at.element
  element_of_lem = named_among q.item (take q.count q.subscripts) a.elements a.at.element a.at.found

  -- its item is one of the description's, no TABLE, and if a UINT or BLOCK as long as the element
  pub element_own : OfItem d q.item a.at.element.slot n
  element_own =
      subst (λ i. OfItem d i a.at.element.slot n) element_of_lem.item
      (subst (λ l. OfItem d a.at.element.item a.at.element.slot l) a.at.size (own a.opens a.at.element element_of_lem.among))

  -- it ends by the total
  pub element_ends : p + n ≤ a.total
  element_ends =
      omega (
        arith,
        a.at.start,
        a.at.size,
        every_among (EndsBy a.total) a.at.element a.elements
            (elements_end d img a.seats a.elements a.slots a.total a.opens.laid) element_of_lem.among,
      )

-- AN ELEMENT WHOSE NUMBER IS ASKED is a UINT, where it is anyway
-- found, it has a place, whatever the refusal else
placed_same : (why other : Refusal) (x : Option Placed) (p n : ℕ) → placed_place why x ≡ at (record { 0 = p }) n → placed_place other x ≡ at (record { 0 = p }) n
unfolding placed_place
placed_same why other none p n e = clash (cc)
placed_same why other (some x) p n e = e

module _ (d img : List ℕ) (q : ElementName) (number : Bool) (p n : ℕ) where
  abbrev Integer : Type 0
  Integer = number ≡ true → is_uint (fields_at d q.item) ≡ true

  suits_integer : suits number d q ≡ true → Integer
  suits_integer h e = ((and-eq-true_iff (q.item <? item_count d) (is_uint (fields_at d q.item))).0 (rw e at h)).1

  integer_suits : q.item < item_count d → Integer → suits number d q ≡ true
  integer_suits l h = go number refl
    where
      go : (b : Bool) → number ≡ b → suits b d q ≡ true
      go true e = rw (lt-ltb q.item (item_count d) l, h e)
      go false e = refl

  pub for_exactly : Exactly (element_place_in number d q (open_image d img) ≡ at (record { 0 = p }) n) (Integer × (element_place_reply d img q ≡ at (record { 0 = p }) n))
  unfolding element_for placed_place element_place_reply element_place_in
  for_exactly = go (came d img)
    where
      go : Came d img → Exactly (element_place_in number d q (open_image d img) ≡ at (record { 0 = p }) n) (Integer × (element_place_reply d img q ≡ at (record { 0 = p }) n))
      go (refuses r h) = (λ e. clash (cc (ap (element_place_in number d q) h)), λ c. clash (cc (c.1, ap (element_place_in false d q) h)))
      go (opens ts es s m o) = (λ e. there (suits number d q) refl (sym (for_laid o number q) ∙ e), back)
        where
          there : (b : Bool) → suits number d q ≡ b → placed_place (why_none number d (slot_numbers s) q) (if b then element_in q es else none) ≡ at (record { 0 = p }) n
              → Integer × (element_place_reply d img q ≡ at (record { 0 = p }) n)
          there true h e = (suits_integer h, where_laid o q ∙ placed_same _ _ (element_in q es) p n e)
          there false h e = clash (cc)

          back : Integer × (element_place_reply d img q ≡ at (record { 0 = p }) n) → element_place_in number d q (open_image d img) ≡ at (record { 0 = p }) n
          back c =
              let l = (element_own (where_opens d img q p n c.1)).there in
              for_laid o number q ∙ rw (integer_suits l c.0) (placed_same _ _ (element_in q es) p n (sym (where_laid o q) ∙ c.1))

-- A TABLE WHOSE PLACE IS REPLIED
-- tables that follow one another end by the last one's end
seats_end : (from to : ℕ) (ts : List Seat) → Follow from ts to → (from ≤ to) × Every (λ t. t.start + t.size ≤ to) ts
unfolding Follow Every
seats_end from to [] h = (omega arith, tt)
seats_end from to (t ∷ ts) h = let r = seats_end (t.start + t.size) to ts h.1 in (omega (arith, h.0, r.0), (r.0, r.1))

module _ {d img : List ℕ} {m k p n : ℕ} (a : TableOf d img m k p n) where
  -- it is one of those laid out, by its name
  pub seat_of_lem : SeatOf m k a.seats a.at.seat
  seat_of_lem = seat_among m k a.seats a.at.seat a.at.found

  -- it ends by the total
  pub table_ends : p + n ≤ a.total
  table_ends =
      omega (
        arith,
        a.at.start,
        a.at.size,
        every_among (λ t. t.start + t.size ≤ a.total) a.at.seat a.seats
            (seats_end 0 a.total a.seats (tables_follow_lem d img a.seats a.elements a.slots a.total a.opens.laid)).1 seat_of_lem.among,
      )
