-- What one walk tells is what the replies say: the total, where two tables are, where an element is, which table a range lies in. Assumes nothing.
use Rattle.std.specs.Option.{ok_or}
use Rattle.std.specs.Prelude.{Some, None, Result, Ok, Err, IsErrAnd, MatchOption, if◌then◌else◌}
use Prim.Native.Nat.{ℕ, ◌+◌, ◌≤◌, min}
use mathlib.Core.Path.{◌≡◌, refl, ◌∙◌, ap, sym, subst}
use mathlib.Core.Bool.{Bool, true, false}
use mathlib.Core.List.{List}
use mathlib.Core.Option.{Option, some, none}
use lib.ListN.{length, take}
use native.Mathlib.Omega.{arith}
use Rattle.meaning.specs.Basics.{◌≤?◌}
use Rattle.meaning.specs.declared.ElementName.{ElementName}
use Rattle.meaning.specs.declared.Refusal.{Refusal}
use Rattle.meaning.specs.Causes.{suits, why_none}
use Rattle.meaning.specs.Layout.{Placed, Seat, Slots, element_named}
use Rattle.meaning.specs.Numbers.{no_table}
use Rattle.meaning.specs.Refusals.{Opened, opened, refused, open_image, layout_in, layout_reply, seat_place, table_place_in, table_place_reply, element_in, element_for, placed_place, element_place_in}
use Rattle.laying.specs.Rows.{no_row, onward, Spot, spot, absent, row_spot, row_of, spot_of}
use Rattle.laying.specs.Rows as def
use Rattle.laying.proofs.Among.{every_among, named_among}
use Rattle.laying.proofs.Cover.{EndsBy}
use Rattle.laying.proofs.LaidOut.{elements_end, total_inside}
use Rattle.laying.proofs.Opened.{Opens, Came, opens, refuses, came, opened_image}
use Rattle.laying.proofs.Reaches.{row_says}
use Rattle.laying.proofs.Spots.{further, row_onward}
use Rattle.offsets.specs.declared.TableOffset.{TableOffset}
use Rattle.places.specs.declared.RangeTable.{RangeTable}
use Rattle.places.specs.declared.survey.Answer.{Answer}
use Rattle.meaning.specs.declared.Answer as meant
use Rattle.places.specs.declared.survey.Asked.{Asked}
use Rattle.places.specs.declared.survey.TableSpot.{TableSpot}
use Rattle.places.specs.Found.{FoundTable, FoundRow, FoundElement, FoundRange}
use Rattle.places.specs.Opening.{spot_found, standing_found, found_by, place_or, found_place, range_of, range_in}
use Rattle.places.specs.Measuring.{numbers_in}
use Rattle.places.specs.Surveying.{table_found, held_in, StandsAs, AnswerAs}
use Rattle.places.proofs.Reach.{spot_as}
use Rattle.meaning.proofs.Either.{clash}
use Rattle.meaning.specs.Values.{Place}

-- a place in a table, and none
seat_place_lem : (t : Option Seat) → found_place (table_found t) ≡ seat_place t
unfolding found_place table_found seat_place
seat_place_lem none = refl
seat_place_lem (some t) = refl

-- WHERE AN ELEMENT IS
-- by what is found of it in the table that starts at p
found_place_lem : (why : Refusal) (p : ℕ) (e : Option Placed) (s : Spot) → spot_of e ≡ further p s → ((x : Placed) → e ≡ some x → x.start ≤ 65535)
    → place_or why (spot_found p s) ≡ placed_place why e
unfolding place_or spot_found placed_place spot_of further
found_place_lem why p none absent h small = refl
found_place_lem why p none (spot o n) h small = clash (cc)
found_place_lem why p (some x) absent h small = clash (cc)
found_place_lem why p (some x) (spot o n) h small =
    let a : x.start ≡ p + o = cc in
    let b : x.size ≡ n = cc in
    let m : min (p + o) 18446744073709551615 ≡ x.start = omega (arith, small x refl) in
    rw (m, b)

-- and so it isn't far into the table
spot_early : (p : ℕ) (e : Option Placed) (s : Spot) → spot_of e ≡ further p s → ((x : Placed) → e ≡ some x → x.start ≤ 65535) → (o m : ℕ) → s ≡ spot o m → o ≤ 65535
unfolding spot_of further
spot_early p none s h small o m e = clash (cc (h ∙ ap (further p) e))
spot_early p (some x) s h small o m e =
    let a : x.start ≡ p + o = cc (h ∙ ap (further p) e) in
    omega (arith, small x refl)

-- an element that is found starts no later than the image's end
module _ {d img : List ℕ} {ts : List Seat} {es : List Placed} {s : Slots} {n : ℕ} (o : Opens d img ts es s n) where
  early : (i : ℕ) (xs : List ℕ) (x : Placed) → element_named i xs es ≡ some x → x.start ≤ 65535
  early i xs x e =
      omega (
        arith,
        every_among (EndsBy n) x es (elements_end d img ts es s n o.laid) (named_among i xs es x e).among,
        total_inside d img ts es s n o.laid,
        o.allowed,
      )

  -- the element of a name
  module _ (why : Refusal) (q : ElementName) where
    abbrev xs : List ℕ
    xs = take q.count q.subscripts

    abbrev found : Option Placed
    found = element_named q.item xs es

    told : (p : ℕ) (r : def.Row) → row_of d img q.item ≡ onward p r → spot_of found ≡ further p (row_spot r xs)
    told p r is = row_says d img o.passes o.laid q.item xs ∙ ap (λ (z : def.Row). row_spot z xs) is ∙ row_onward p r xs

    -- if it suits
    element_is : (b : Bool) (e : FoundRow) → length q.subscripts ≡ 4 → StandsAs e (row_of d img q.item)
        → place_or why (found_by b e q) ≡ placed_place why (if b then element_in q es else none)
    unfolding element_in found_by standing_found spot_found place_or placed_place row_spot onward
    element_is false e four h = refl
    element_is true None four h = go (q.count ≤? 4)
      where
        go : (b : Bool) → Err why ≡ placed_place why (if b then found else none)
        go true = found_place_lem why 0 found absent (told 0 no_row h) (early q.item xs)
        go false = refl
    element_is true (Some e) four h =
        let here = told e.start.0 h.in_table h.is in
        rw (spot_as e.row h.in_table q h.row_as four (spot_early e.start.0 found (row_spot h.in_table xs) here (early q.item xs))) (go (q.count ≤? 4) here)
      where
        go : (b : Bool) → spot_of found ≡ further e.start.0 (row_spot h.in_table xs)
            → place_or why (spot_found e.start.0 (if b then row_spot h.in_table xs else absent)) ≡ placed_place why (if b then found else none)
        go true here = found_place_lem why e.start.0 found (row_spot h.in_table xs) here (early q.item xs)
        go false here = refl

-- A REFUSAL
module _ (d img : List ℕ) (x : Refusal) (is_refused : open_image d img ≡ refused x) where
  pub layout_refused : Err x ≡ layout_reply d img
  unfolding layout_reply layout_in
  layout_refused = rw is_refused

  pub table_refused : (m k : ℕ) → Err x ≡ table_place_reply d img m k
  unfolding table_place_reply table_place_in
  table_refused m k = rw is_refused

  pub element_refused : (number : Bool) (name : ElementName) → Err x ≡ element_place_in number d name (open_image d img)
  unfolding element_place_in
  element_refused number name = rw is_refused

  pub range_refused : (m k : ℕ) (o : TableOffset) (n : ℕ) → Err x ≡ range_in m k o n (open_image d img)
  unfolding range_in
  range_refused m k o n = rw is_refused

module _ (d img : List ℕ) (q : Asked) (r : Answer) (a : AnswerAs d img q (Ok r) (open_image d img)) where
  -- THE TOTAL
  pub layout_told : Ok (meant.Answer.Total r.total) ≡ layout_reply d img
  unfolding layout_reply layout_in
  layout_told = go (open_image d img) a
    where
      go : (o : Opened) → AnswerAs d img q (Ok r) o → Ok (meant.Answer.Total r.total) ≡ layout_in o
      go (opened ts es s n) h = rw h.total
      go (refused y) h = absurd h

  -- THE TABLES
  pub tables_told : (found_place r.first ≡ table_place_reply d img q.first.manufacturer q.first.number)
      × (found_place r.second ≡ table_place_reply d img q.second.manufacturer q.second.number)
  unfolding table_place_reply table_place_in
  tables_told = go (open_image d img) a
    where
      go : (o : Opened) → AnswerAs d img q (Ok r) o
          → (found_place r.first ≡ table_place_in q.first.manufacturer q.first.number o) × (found_place r.second ≡ table_place_in q.second.manufacturer q.second.number o)
      go (opened ts es s n) h = (rw h.first (seat_place_lem _), rw h.second (seat_place_lem _))
      go (refused y) h = absurd h

  -- THE ELEMENT
  -- by its item's row, or why there is none
  module _ (name : ElementName) (number : Bool) (same : q.item ≡ name.item) where
    element_told : length name.subscripts ≡ 4 → place_or (why_none number d (numbers_in r.numbers) name) (found_by (suits number d name) r.element name)
        ≡ element_place_in number d name (open_image d img)
    unfolding element_place_in element_for
    element_told four = go (came d img)
      where
        go : Came d img → place_or (why_none number d (numbers_in r.numbers) name) (found_by (suits number d name) r.element name)
            ≡ element_place_in number d name (open_image d img)
        go (opens ts es s n o) =
            let h : AnswerAs d img q (Ok r) (opened ts es s n) = subst (AnswerAs d img q (Ok r)) (opened_image o) a in
            rw (opened_image o, ← h.numbers) (element_is o _ name (suits number d name) r.element four (rw same at h.element))
        go (refuses y e) = absurd (subst (AnswerAs d img q (Ok r)) e a)

    module _ {suited : Bool} (suiting : suited ≡ suits number d name) {found : FoundElement} (is : (found ≡ found_by suited r.element name) × (length name.subscripts ≡ 4)) where
      -- the answer is the place found, or why there is none
      pub element_answered : {v : Place} (Why : Refusal → Type 0) → ((y : Refusal) → Why y → y ≡ why_none number d (numbers_in r.numbers) name)
          → MatchOption found (IsErrAnd v Why) (λ x. v ≡ Ok x) → v ≡ element_place_in number d name (open_image d img)
      unfolding place_or
      element_answered {v} Why tells answered = go found v answered ∙ rw (is.0, suiting) (element_told is.1)
        where
          go : (f : FoundElement) (v : Place) → MatchOption f (IsErrAnd v Why) (λ x. v ≡ Ok x) → v ≡ place_or (why_none number d (numbers_in r.numbers) name) f
          go (Some x) v h = h
          go None (Err y) h = ap Err (tells y h)
          go None (Ok x) h = absurd h

  -- THE RANGE
  -- by the table found
  abbrev in_range : TableSpot → RangeTable
  in_range t = record { item = t.item; start = t.start; length = t.length; held = r.held }

  abbrev ranged : FoundTable → FoundRange
  ranged None = Err no_table
  ranged (Some t) = Ok (in_range t)

  range_is : ranged r.first ≡ range_in q.first.manufacturer q.first.number q.from q.octets (open_image d img)
  unfolding range_in range_of table_found
  range_is = go (open_image d img) a
    where
      seated : (X : Option Seat) (es : List Placed) → r.first ≡ table_found X → r.held ≡ held_in q.from.0 q.octets X es → ranged r.first ≡ range_of q.from.0 q.octets X es
      seated none es e h = ap ranged e
      seated (some t) es e h = ap ranged e ∙ rw h

      go : (o : Opened) → AnswerAs d img q (Ok r) o → ranged r.first ≡ range_in q.first.manufacturer q.first.number q.from q.octets o
      go (opened ts es s n) h = seated _ es h.first h.held
      go (refused y) h = absurd h

  pub range_none : {v : Result TableSpot Refusal} {x : Refusal} → v ≡ ok_or r.first no_table → v ≡ Err x → Err x ≡ range_in q.first.manufacturer q.first.number q.from q.octets (open_image d img)
  range_none {v} {x} is e = go r.first (sym is ∙ e) ∙ range_is
    where
      go : (f : FoundTable) → ok_or f no_table ≡ Err x → Err x ≡ ranged f
      go None h = let y : no_table ≡ x = cc in rw y
      go (Some t) h = clash (cc)

  pub range_told : {v : Result TableSpot Refusal} {t : TableSpot} → v ≡ ok_or r.first no_table → v ≡ Ok t → Ok (in_range t) ≡ range_in q.first.manufacturer q.first.number q.from q.octets (open_image d img)
  range_told {v} {t} is e = go r.first (sym is ∙ e) ∙ range_is
    where
      go : (f : FoundTable) → ok_or f no_table ≡ Ok t → Ok (in_range t) ≡ ranged f
      go None h = clash (cc)
      go (Some u) h = let y : u ≡ t = cc in rw y
