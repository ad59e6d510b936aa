-- What the replies about an image mean: the description is passed, the image is allowed, and laying out comes to these tables and elements; or all of them
-- are refused. From laying out each reply is computed. Assumes nothing.
use Rattle.std.specs.Prelude.{if◌then◌else◌, Ok, Err}
use Prim.Native.Nat.{ℕ, ◌≤◌}
use mathlib.Core.Path.{◌≡◌, refl, ◌∙◌, ap, subst, sym}
use mathlib.Core.Bool.{Bool, true, false}
use mathlib.Core.List.{List}
use mathlib.Core.Option.{Option, some, none}
use lib.ListN.{length, take}
use borrow.Author.Tests.{ltb-false, le-ltb}
use Rattle.meaning.specs.Basics.{◌<?◌, ◌≤?◌}
use Rattle.meaning.specs.declared.ElementName.{ElementName}
use Rattle.meaning.specs.declared.Refusal.{Refusal}
use Rattle.meaning.specs.Causes.{why_none}
use Rattle.meaning.specs.Description.{check_reply}
use Rattle.meaning.specs.Passed.{Passes}
use Rattle.meaning.specs.Layout.{Placed, Seat, Slots, fault, short, Layout, laid_out, stopped_at, lay_out, element_named, table_named, slot_numbers}
use Rattle.meaning.specs.Refusals.{stop_refusal, opened, refused, open_laid, open_sound, open_image, layout_in, layout_reply, place_start, place_length}
use Rattle.meaning.specs.Refusals.{seat_place, table_place_in, table_place_reply, element_in, element_for, placed_place, element_place_in, element_place_reply}
use Rattle.meaning.specs.Numbers.{image_too_long, image_short}
use Rattle.laying.specs.Outcomes.{Lays}
use Rattle.laying.proofs.Reaches.{passed_lays}
use Rattle.meaning.proofs.Either.{clash}
use Rattle.meaning.specs.Values.{Verdict, passed, at}
use Rattle.meaning.specs.declared.Answer.{Answer}

-- THE IMAGE OPENED
-- a passed description, an image of at most 65,535 octets, and the tables, elements, slots and total that laying out comes to
pub record Opens (d img : List ℕ) (ts : List Seat) (es : List Placed) (s : Slots) (n : ℕ) : Type 0 where
  pub passes : Passes d
  pub allowed : length img ≤ 65535
  pub laid : lay_out d img ≡ laid_out ts es s n

-- opened, or refused whatever is asked
pub data Came (d img : List ℕ) : Type 0 where
  opens : (ts : List Seat) (es : List Placed) (s : Slots) (n : ℕ) → Opens d img ts es s n → Came d img
  refuses : (r : Refusal) → open_image d img ≡ refused r → Came d img

-- of a passed description and an allowed image, laying out decides
pub open_laid_lem : (d img : List ℕ) → Passes d → length img ≤ 65535 → open_image d img ≡ open_laid (lay_out d img)
unfolding open_image open_sound
open_laid_lem d img p h = rw (p, le-ltb 65535 (length img) h)

-- the image by cases: what is refused by the check, too long or short, and what opens
pub opening : (d img : List ℕ) {A : Type 0}
    → ((r : Refusal) → check_reply d ≡ Err r → open_image d img ≡ refused r → A)
    → (Passes d → (65535 <? length img) ≡ true → open_image d img ≡ refused image_too_long → A)
    → (Passes d → (65535 <? length img) ≡ false → (es : List Placed) (i p : ℕ) → lay_out d img ≡ stopped_at es (short i p) → open_image d img ≡ refused (image_short i p) → A)
    → ((ts : List Seat) (es : List Placed) (s : Slots) (n : ℕ) → Opens d img ts es s n → A) → A
unfolding open_image open_sound open_laid stop_refusal Lays
opening d img {A} unsound long cut whole = go (check_reply d) refl (65535 <? length img) refl (lay_out d img) refl
  where
    go : (v : Verdict) → check_reply d ≡ v → (b : Bool) → (65535 <? length img) ≡ b → (o : Layout) → lay_out d img ≡ o → A
    go (Err r) e b g o h = unsound r e (rw e)
    go passed e true g o h = long e g (rw (e, g))
    go passed e false g (laid_out ts es s n) h = whole ts es s n (record { passes = e; allowed = ltb-false 65535 (length img) g; laid = h })
    go passed e false g (stopped_at es (short i p)) h = cut e g es i p h (rw (e, g, h))
    go passed e false g (stopped_at es (fault x i)) h = absurd (subst Lays h (passed_lays d img e))

-- what open_image comes to
pub came : (d img : List ℕ) → Came d img
came d img = opening d img (λ r e. refuses r) (λ p l. refuses _) (λ p l es i x e. refuses _) opens

-- THE REPLIES, COMPUTED
module _ {d img : List ℕ} {ts : List Seat} {es : List Placed} {s : Slots} {n : ℕ} (o : Opens d img ts es s n) where
  -- the image opened
  pub opened_image : open_image d img ≡ opened ts es s n
  unfolding open_laid
  opened_image = open_laid_lem d img o.passes o.allowed ∙ rw o.laid

  -- the total
  pub total_laid : layout_reply d img ≡ Ok (Answer.Total n)
  unfolding layout_reply layout_in
  total_laid = rw opened_image

  -- where a table is
  pub table_laid : (m k : ℕ) → table_place_reply d img m k ≡ seat_place (table_named m k ts)
  unfolding table_place_reply table_place_in
  table_laid m k = rw opened_image

  -- where an element is, of which the number is asked or not
  pub for_laid : (number : Bool) (q : ElementName) → element_place_in number d q (open_image d img) ≡ placed_place (why_none number d (slot_numbers s) q) (element_for number d q es)
  unfolding element_place_in
  for_laid number q = rw opened_image

  pub where_laid : (q : ElementName) → element_place_reply d img q ≡ placed_place (why_none false d (slot_numbers s) q) (element_in q es)
  unfolding element_place_reply element_for
  where_laid q = for_laid false q

-- THE REPLIES, READ BACK
-- the image opened, with that total
pub record TotalOf (d img : List ℕ) (n : ℕ) : Type 0 where
  pub seats : List Seat
  pub elements : List Placed
  pub slots : Slots
  pub opens : Opens d img seats elements slots n

-- a total is replied only where the image is opened
pub total_opens : (d img : List ℕ) (n : ℕ) → layout_reply d img ≡ Ok (Answer.Total n) → TotalOf d img n
unfolding layout_reply layout_in
total_opens d img n e = go (came d img)
  where
    go : Came d img → TotalOf d img n
    go (opens ts es s m o) =
        let h : m ≡ n = cc (total_laid o) in
        subst (TotalOf d img) h (record { seats = ts; elements = es; slots = s; opens = o })
    go (refuses r h) = clash (cc (ap layout_in h))

-- an element was found, at p and n octets long
pub record FoundAt (o : Option Placed) (p n : ℕ) : Type 0 where
  pub element : Placed
  pub found : o ≡ some element
  pub start : element.start ≡ p
  pub size : element.size ≡ n

-- where a place is replied, one was
found_at : (why : Refusal) (o : Option Placed) (p n : ℕ) → placed_place why o ≡ at (record { 0 = p }) n → FoundAt o p n
unfolding placed_place
found_at why none p n e = clash (cc)
found_at why (some x) p n e = record { element = x; found = refl; start = ap place_start e; size = ap place_length e }

-- a table was found, at p and n octets long
pub record SeatAt (o : Option Seat) (p n : ℕ) : Type 0 where
  pub seat : Seat
  pub found : o ≡ some seat
  pub start : seat.start ≡ p
  pub size : seat.size ≡ n

-- where a place is replied, one was
seat_at : (o : Option Seat) (p n : ℕ) → seat_place o ≡ at (record { 0 = p }) n → SeatAt o p n
unfolding seat_place
seat_at none p n e = clash (cc)
seat_at (some t) p n e = record { seat = t; found = refl; start = ap place_start e; size = ap place_length e }

-- of an opened image: the element whose place is replied, by its item and subscripts
pub where_found : {d img : List ℕ} {ts : List Seat} {es : List Placed} {s : Slots} {total : ℕ} → Opens d img ts es s total → (q : ElementName) (p n : ℕ)
    → element_place_reply d img q ≡ at (record { 0 = p }) n → FoundAt (element_named q.item (take q.count q.subscripts) es) p n
unfolding element_in placed_place
where_found {d} {es = es} {s} o q p n e = go (q.count ≤? 4) (sym (where_laid o q) ∙ e)
  where
    go : (b : Bool) → placed_place (why_none false d (slot_numbers s) q) (if b then element_named q.item (take q.count q.subscripts) es else none) ≡ at (record { 0 = p }) n
        → FoundAt (element_named q.item (take q.count q.subscripts) es) p n
    go true h = found_at _ _ p n h
    go false h = clash (cc)

-- the image opened, and that table found
pub record TableOf (d img : List ℕ) (m k p n : ℕ) : Type 0 where
  pub seats : List Seat
  pub elements : List Placed
  pub slots : Slots
  pub total : ℕ
  pub opens : Opens d img seats elements slots total
  pub at : SeatAt (table_named m k seats) p n

-- a table's place is replied only where the image is opened and the table found
pub table_opens : (d img : List ℕ) (m k p n : ℕ) → table_place_reply d img m k ≡ at (record { 0 = p }) n → TableOf d img m k p n
unfolding table_place_reply table_place_in
table_opens d img m k p n e = go (came d img)
  where
    go : Came d img → TableOf d img m k p n
    go (opens ts es s l o) = record { seats = ts; elements = es; slots = s; total = l; opens = o; at = seat_at _ p n (sym (table_laid o m k) ∙ e) }
    go (refuses r h) = clash (cc (ap (table_place_in m k) h))

-- the image opened, and that element found
pub record ElementAt (d img : List ℕ) (q : ElementName) (p n : ℕ) : Type 0 where
  pub seats : List Seat
  pub elements : List Placed
  pub slots : Slots
  pub total : ℕ
  pub opens : Opens d img seats elements slots total
  pub at : FoundAt (element_named q.item (take q.count q.subscripts) elements) p n

-- an element's place is replied only where the image is opened and the element found
pub where_opens : (d img : List ℕ) (q : ElementName) (p n : ℕ) → element_place_reply d img q ≡ at (record { 0 = p }) n → ElementAt d img q p n
unfolding element_place_reply element_place_in
where_opens d img q p n e = go (came d img)
  where
    go : Came d img → ElementAt d img q p n
    go (opens ts es s l o) = record { seats = ts; elements = es; slots = s; total = l; opens = o; at = where_found o q p n e }
    go (refuses r h) = clash (cc (ap (element_place_in false d q) h))
