-- Of demand 1: each reply's refusal is the first of the question's list that is given. An image is opened, and then none of 1 to 9 is given and the other tests come to what the replies
-- look at (proofs/Tests); or one of 1 to 9 is given, and every question gets it. Assumes nothing.
use Rattle.std.specs.Prelude.{if◌then◌else◌, Ok, Err, Some, None}
use Prim.Native.Nat.{ℕ, zero, suc, ◌+◌, ◌^◌, ◌<◌, ◌≤◌}
use mathlib.Core.Path.{◌≡◌, refl, sym, ◌∙◌}
use mathlib.Core.Bool.{Bool, true, false, not, ◌&&◌, ◌||◌}
use mathlib.Core.List.{List, [], ◌∷◌, ◌++◌}
use mathlib.Core.Option.{Option, some, none}
use lib.ListN.{length}
use borrow.Author.Tests.{le-ltb}
use native.Mathlib.Decide.{dec_lt}
use native.Mathlib.Omega.{arith}
use Rattle.offsets.specs.declared.TableOffset.{TableOffset}
use Rattle.meaning.specs.Basics.{◌=?◌, ◌<?◌, ◌≤?◌}
use Rattle.meaning.specs.declared.Controls.{Controls}
use Rattle.meaning.specs.declared.Date.{Date}
use Rattle.meaning.specs.declared.ElementName.{ElementName}
use Rattle.meaning.specs.declared.Moment.{Moment}
use Rattle.meaning.specs.declared.Quantity.{Quantity}
use Rattle.meaning.specs.declared.Refusal.{Refusal}
use Rattle.meaning.specs.Description.{item_count, check_reply}
use Rattle.meaning.specs.Layout.{Placed, Seat, Slots, table_named, data_order}
use Rattle.meaning.specs.Refusals.{verdict_reply, place_reply, refused, open_image, layout_in, layout_reply, seat_place, table_place_in, table_place_reply, place_part, table_part_reply, range_at, read_range_reply, place_start, place_length}
use Rattle.meaning.specs.Refusals.{opened, element_place_in, element_place_reply, integer_place_reply, place_number, element_number_reply, place_verdict}
use Rattle.meaning.specs.Refusals.{writable, any_dimension, allowed, range_of, range_in, range_place, write_range_reply, fitting, allowed_at, written_in}
use Rattle.meaning.specs.Refusals.{write_octets_reply, write_number_reply, table_around}
use Rattle.meaning.specs.Calendar.{Found, found, missing, real_date, real_time, controls_of, table54_size, missing_special}
use Rattle.meaning.specs.Calendar.{tier_from, sized, seat_octets, seats_found, calendar_in, calendar, tier_on, tier_day, tier_in, tier_reply, season_stands, seasoned_in, seasoned_reply, weekday_reply}
use Rattle.meaning.specs.Calendar.{matrix_verdict_in, matrix_verdict}
use Rattle.meaning.specs.Calendar.{tier_by_schedule, dates_of}
use Rattle.meaning.proofs.Either.{tested}
use Rattle.meaning.specs.Questions as ask
use Rattle.meaning.specs.Questions.{Question, refusal_in}
use Rattle.meaning.specs.Numbers.{image_short, no_table, outside_table, not_writable, holds_dimension, wrong_size, not_a_date, season_change_armed, no_row_or_column, not_a_calendar}
use Rattle.laying.proofs.Opened.{Opens, opening, opened_image, total_laid, table_laid}
use Rattle.laying.proofs.Found.{for_exactly}
use Rattle.demands.specs.Given.{given, first_of}
use Rattle.demands.specs.Demand1.{eight, nine_from, ten, causes_in, twelve, thirteen, table_item, fourteen, fifteen}
use Rattle.demands.specs.Demand1.{twenty, nineteen, sixteen_to_nineteen, sixteen, of_calendar, of_moment, refusals_of}
use Rattle.demands.specs.Replies.{ours, outcome_by}
use Rattle.demands.specs.Walk.{octet_before, runs_past, FirstPast}
use Rattle.demands.proofs.Laid.{laid_facts, short_first}
use Rattle.demands.proofs.Tests.{no_seat, table_test, table_item_lem, dimension_test}
use Rattle.demands.proofs.Causes.{or_else, first_append}
use Rattle.demands.proofs.Refused.{number_refusal, refused_by_lem}
use Rattle.meaning.specs.Values.{Verdict, Place, Reply, Chosen, at, entry}
use Rattle.meaning.specs.declared.Answer.{Answer}

-- the refusal of a verdict and of a place
abbrev verdict_refusal : Verdict → Option Refusal
verdict_refusal v = refusal_in (verdict_reply v)

abbrev place_refusal : Place → Option Refusal
place_refusal p = refusal_in (place_reply p)

-- and of the write that comes to that place
abbrev write_refusal : Place → Option Refusal
write_refusal p = verdict_refusal (place_verdict p)

-- no test more
none_given : none ≡ first_of {A = Refusal} []
unfolding first_of
none_given = refl

-- A TEST MORE, before others: where it holds, its refusal is told; else what the others come to
module _ {A : Type 0} (told : A → Option Refusal) (b : Bool) (r : Refusal) (x y : A) (rest : List (Option Refusal)) (e : told x ≡ some r) (f : told y ≡ first_of rest) where
  pub test_first : told (if b then x else y) ≡ first_of (given b r ∷ rest)
  unfolding first_of given
  test_first = go b
    where
      go : (b : Bool) → told (if b then x else y) ≡ first_of (given b r ∷ rest)
      go true = e
      go false = f

  -- and where it fails
  fails_first : told (if b then y else x) ≡ first_of (given (not b) r ∷ rest)
  unfolding first_of given
  fails_first = go b
    where
      go : (b : Bool) → told (if b then y else x) ≡ first_of (given (not b) r ∷ rest)
      go true = f
      go false = e

-- WHAT IS LOOKED AT ONCE THE IMAGE IS OPENED, question by question: tests in the order of the list
-- a table, an element, an integer
table_first : (x : Option Seat) → place_refusal (seat_place x) ≡ first_of (given (no_seat x) no_table ∷ [])
unfolding refusal_in place_reply seat_place first_of given no_seat
table_first none = refl
table_first (some t) = refl

-- a range of it
read_first : (o : TableOffset) (n : ℕ) (x : Option Seat)
    → place_refusal (range_at o n (seat_place x)) ≡ first_of (given (no_seat x) no_table ∷ given (place_length (seat_place x) <? o.0 + n) outside_table ∷ [])
unfolding refusal_in place_reply range_at seat_place first_of given no_seat
read_first o n none = refl
read_first o n (some t) = test_first place_refusal (t.size <? o.0 + n) outside_table _ _ [] refl refl

-- 13 and 14, and what comes behind them: a place that fits, or 15
module _ (d img : List ℕ) (es : List Placed) where
  abbrev behind : (t p n : ℕ) → List (Option Refusal) → List (Option Refusal)
  behind t p n rest = given (not (writable d img t)) not_writable ∷ given (any_dimension es p n) holds_dimension ∷ rest

  allowed_first : (t p n : ℕ) → write_refusal (allowed d img es t p n) ≡ first_of (behind t p n [])
  unfolding refusal_in verdict_reply place_verdict allowed
  allowed_first t p n =
      test_first write_refusal (not (writable d img t)) not_writable _ _ _ refl (test_first write_refusal (any_dimension es p n) holds_dimension _ _ _ refl none_given)

  fitting_first : (fits : ℕ → Bool) (t p n : ℕ)
      → write_refusal (fitting fits (allowed d img es t p n)) ≡ first_of (behind t p n (given (not (fits n)) wrong_size ∷ []))
  unfolding refusal_in verdict_reply place_verdict fitting allowed
  fitting_first fits t p n =
      test_first (λ v. write_refusal (fitting fits v)) (not (writable d img t)) not_writable _ _ _ refl
      (test_first (λ v. write_refusal (fitting fits v)) (any_dimension es p n) holds_dimension _ _ _ refl
      (fails_first write_refusal (fits n) wrong_size _ _ _ refl none_given))

  -- the three writes
  range_first : (o : TableOffset) (n i : ℕ) (x : Option Seat) → ((t : Seat) → x ≡ some t → i ≡ t.item)
      → write_refusal (range_of d img es o n x)
      ≡ first_of (given (no_seat x) no_table ∷ given (place_length (seat_place x) <? o.0 + n) outside_table ∷ behind i (place_start (seat_place x) + o.0) n [])
  unfolding range_of no_seat seat_place first_of given refusal_in verdict_reply place_verdict
  range_first o n i none h = refl
  range_first o n i (some t) h =
      rw (h t refl)
      (test_first write_refusal (t.size <? o.0 + n) outside_table _ _ (behind t.item (t.start + o.0) n []) refl (allowed_first t.item (t.start + o.0) n))

  module _ (q : ElementName) (fits : ℕ → Bool) where
    abbrev behind_element : Place → List (Option Refusal)
    behind_element x = behind (table_around d q.item) (place_start x) (place_length x) (given (not (fits (place_length x))) wrong_size ∷ [])

    -- where the element is, x; and y where its number isn't asked
    element_first : (x y : Place) → ((p n : ℕ) → x ≡ at (record { 0 = p }) n → y ≡ x)
        → write_refusal (fitting fits (allowed_at d img q es x)) ≡ or_else (place_refusal x) (first_of (behind_element y))
    unfolding allowed_at fitting refusal_in verdict_reply place_reply place_verdict or_else
    element_first (Ok e) y h = rw (h e.start.0 e.length refl) (fitting_first fits (table_around d q.item) e.start.0 e.length)
    element_first (Err r) y h = refl

-- THE CALENDAR
-- found, and none of 10 and 20 given; or one of them is
abbrev found_refusal : Found → Option Refusal
found_refusal (found o c t) = none
found_refusal (missing r) = some r

-- a table's octets
unfoldable octets_of : (image : List ℕ) → Option Seat → List ℕ
octets_of img x = place_part img (seat_place x)

unfoldable ten_and_twenty : (image : List ℕ) → (table00 table51 table54 : Option Seat) → List (Option Refusal)
ten_and_twenty img a b c =
    given (no_seat a) no_table ∷ given (no_seat b) no_table ∷ given (no_seat c) no_table ∷ twenty (data_order img) (octets_of img b) (octets_of img c) ∷ []

calendar_first : (img : List ℕ) (a b c : Option Seat) → found_refusal (seats_found img a b c) ≡ first_of (ten_and_twenty img a b c)
unfolding seats_found sized ten_and_twenty twenty octets_of place_part seat_place no_seat first_of given
calendar_first img none b c = refl
calendar_first img (some a) none c = refl
calendar_first img (some a) (some b) none = refl
calendar_first img (some a) (some b) (some c) =
    fails_first found_refusal (length (seat_octets img b) =? 9 && length (seat_octets img c) =? table54_size (controls_of (data_order img) (seat_octets img b)))
    not_a_calendar _ _ [] refl refl

matrix_found : (f : Found) → verdict_refusal (matrix_verdict_in f) ≡ found_refusal f
unfolding refusal_in verdict_reply matrix_verdict_in
matrix_found (found o c t) = refl
matrix_found (missing r) = refl

-- a tier that is told, or that none has come yet, is no refusal
tier_told : (x : Chosen) → refusal_in (tier_from x) ≡ none
unfolding refusal_in tier_from
tier_told None = refl
tier_told (Some e) = refl

-- 19
season_first : (o : ℕ) (c : Controls) (t : List ℕ) (day m : ℕ) (q : Quantity) (x : Chosen) (s : ℕ) → refusal_in (tier_on o c t day m q x s) ≡ first_of (nineteen c x s ∷ [])
unfolding refusal_in tier_on tier_by_schedule nineteen first_of
season_first o c t day m q x s = test_first refusal_in (c.seasons ≤? s || missing_special c x) no_row_or_column _ _ [] refl (tier_told _)

-- 16, 18, then that
moment_first : (o : ℕ) (c : Controls) (t : List ℕ) (w : Moment) (q : Quantity) → refusal_in (tier_in w q (found o c t)) ≡ first_of (sixteen_to_nineteen o c t w)
unfolding refusal_in tier_in tier_day sixteen_to_nineteen
moment_first o c t w q =
    test_first refusal_in (not (real_date w.year w.month w.day && real_time w.hour w.minute)) not_a_date _ _ _ refl
    (test_first refusal_in c.armed season_change_armed _ _ _ refl (season_first o c t _ _ q _ _))

-- of a date without a time
date_first : (o : ℕ) (c : Controls) (b : List ℕ) (t : Date) → refusal_in (seasoned_in t (found o c b)) ≡ first_of (sixteen t)
unfolding refusal_in seasoned_in sixteen
date_first o c b t = test_first refusal_in (not (real_date t.year t.month t.day)) not_a_date _ _ [] refl (unrefused (season_stands _ (dates_of o c b)))
  where
    unrefused : (x : Bool) → refusal_in (if x then Ok Answer.Yes else Ok Answer.No) ≡ first_of []
    unrefused x = tested (λ r. refusal_in r ≡ first_of []) x _ _ (λ e. none_given) (λ e. none_given)

-- of a date alone
weekday_first : (t : Date) → refusal_in (weekday_reply t) ≡ first_of (sixteen t)
unfolding refusal_in weekday_reply sixteen
weekday_first t = fails_first refusal_in (real_date t.year t.month t.day) not_a_date _ _ [] refl none_given

-- what is asked of a calendar that is found: the calendar's refusal where there is one, else the question's own
module _ (img : List ℕ) (reply : Found → Reply) (absent : (r : Refusal) → refusal_in (reply (missing r)) ≡ some r) (rest : ℕ → Controls → List ℕ → List (Option Refusal))
    (own : (o : ℕ) (c : Controls) (t : List ℕ) → refusal_in (reply (found o c t)) ≡ first_of (rest o c t)) where
  found_first : (a b c : Option Seat)
      → refusal_in (reply (seats_found img a b c)) ≡ first_of (ten_and_twenty img a b c ++ rest (data_order img) (controls_of (data_order img) (octets_of img b)) (octets_of img c))
  unfolding seats_found sized ten_and_twenty twenty octets_of place_part seat_place no_seat first_of given
  found_first none b c = absent no_table
  found_first (some a) none c = absent no_table
  found_first (some a) (some b) none = absent no_table
  found_first (some a) (some b) (some c) =
      let k = controls_of (data_order img) (seat_octets img b) in
      fails_first (λ f. refusal_in (reply f)) (length (seat_octets img b) =? 9 && length (seat_octets img c) =? table54_size k) not_a_calendar _ _
      (rest (data_order img) k (seat_octets img c)) (absent not_a_calendar) (own (data_order img) k (seat_octets img c))

tier_first : (img : List ℕ) (w : Moment) (q : Quantity) (a b c : Option Seat)
    → refusal_in (tier_in w q (seats_found img a b c)) ≡ first_of (ten_and_twenty img a b c ++ sixteen_to_nineteen (data_order img) (controls_of (data_order img) (octets_of img b)) (octets_of img c) w)
unfolding refusal_in tier_in
tier_first img w q = found_first img (tier_in w q) (λ r. refl) (λ o c t. sixteen_to_nineteen o c t w) (λ o c t. moment_first o c t w q)

seasoned_first : (img : List ℕ) (t : Date) (a b c : Option Seat) → refusal_in (seasoned_in t (seats_found img a b c)) ≡ first_of (ten_and_twenty img a b c ++ sixteen t)
unfolding refusal_in seasoned_in
seasoned_first img t = found_first img (seasoned_in t) (λ r. refl) (λ o c b. sixteen t) (λ o c b. date_first o c b t)

-- 9
module _ (d img : List ℕ) where
  nine_none : (n i : ℕ) → ((j : ℕ) → j < i + n → runs_past d img j ≡ false) → nine_from d img n i ≡ none
  unfolding nine_from
  nine_none zero i h = refl
  nine_none (suc n) i h = rw (h i (omega arith)) (nine_none n (i + 1) (λ j l. h j (omega arith)))

  nine_first : {i p : ℕ} → FirstPast d img i p → (n k : ℕ) → k ≤ i → i < k + n → nine_from d img n k ≡ some (image_short i p)
  unfolding nine_from
  nine_first f zero k a b = absurd (omega arith)
  nine_first {i} {p} f (suc n) k a b = go (dec_lt k i) (λ l. nine_first f n (k + 1) l (omega arith))
    where
      go : Dec (k < i) → (k + 1 ≤ i → nine_from d img n (k + 1) ≡ some (image_short i p))
          → (if runs_past d img k then some (image_short k (octet_before d img k)) else nine_from d img n (k + 1)) ≡ some (image_short i p)
      go (yes l) rest = rw (f.before k l) (rest (omega arith))
      go (no l) rest = let e : k ≡ i = omega arith in rw (e, f.past, f.at)

-- FIRST GIVEN
-- a description alone
pub sound_given : (x : Option Refusal) → x ≡ first_of (x ∷ [])
unfolding first_of
sound_given none = refl
sound_given (some r) = refl

-- each question's refusal is the first of its list
abbrev FirstGiven : (description image : List ℕ) → Question → Type 0
FirstGiven d img q = refusal_in (outcome_by ours q d img).reply ≡ first_of (refusals_of ours q d img)

-- the questions opened, up to what the image came to
unfoldable asking : Unit {0}
unfolding outcome_by refusals_of element_place_reply element_place_in element_number_reply integer_place_reply tier_reply seasoned_reply matrix_verdict calendar calendar_in
asking = tt

unfoldable writing : Unit {0}
unfolding write_range_reply range_place range_in write_octets_reply write_number_reply written_in
writing = tt

-- one of 1 to 9 given: every question about an image gets it
module _ (d img : List ℕ) (r : Refusal) (e : open_image d img ≡ refused r) (f : first_of (refusals_of ours ask.layout d img) ≡ some r) where
  refused_first : (q : Question) → FirstGiven d img q
  unfolding asking writing first_of refusal_in verdict_reply place_reply layout_reply layout_in table_place_reply table_place_in read_range_reply range_at place_number place_verdict tier_in seasoned_in matrix_verdict_in
  refused_first ask.check = sound_given (verdict_refusal (check_reply d))
  refused_first ask.layout = rw e (sym f)
  refused_first (ask.table_place m k) = rw e
  refused_first (ask.table_part m k) = rw e
  refused_first (ask.element_place q) = rw e
  refused_first (ask.element_part q) = rw e
  refused_first (ask.element_number q) = rw e
  refused_first (ask.write_range m k o new) = rw e
  refused_first (ask.write_octets q new) = rw e
  refused_first (ask.write_number q x) = rw e
  refused_first (ask.tier w q) = rw e
  refused_first ask.matrix = rw e
  refused_first (ask.seasoned t) = rw e
  refused_first (ask.read_range m k p l) = rw e
  refused_first (ask.weekday t) = weekday_first t

-- none of them given: the question's own tests
module _ {d img : List ℕ} {ts : List Seat} {es : List Placed} {s : Slots} {n : ℕ} (o : Opens d img ts es s n) where
  -- behind the layout's refusal, which there is none of
  behind_layout : (rest : List (Option Refusal)) → first_of (refusal_in (layout_reply d img) ∷ rest) ≡ first_of rest
  unfolding refusal_in first_of
  behind_layout rest = rw (total_laid o)

  layout_opened : FirstGiven d img ask.layout
  unfolding outcome_by refusals_of refusal_in first_of eight given verdict_reply
  layout_opened =
      rw (total_laid o, o.passes, le-ltb 65535 (length img) o.allowed, nine_none d img (item_count d) 0 (λ j l. (laid_facts o).inside.pieces j (omega arith)))

  -- what the tests look at
  ten_is : (m k : ℕ) → ten d m k ≡ given (no_seat (table_named m k ts)) no_table
  unfolding ten
  ten_is m k = rw (table_test o m k)

  fourteen_is : (p l : ℕ) → fourteen ours d img p l ≡ given (any_dimension es p l) holds_dimension
  unfolding fourteen
  fourteen_is p l = rw (dimension_test o p l)

  part_is : (m k : ℕ) → table_part_reply d img m k ≡ octets_of img (table_named m k ts)
  unfolding table_part_reply octets_of
  part_is m k = rw (table_laid o m k)

  -- places
  table_opened : (m k : ℕ) → place_refusal (table_place_reply d img m k) ≡ first_of (refusal_in (layout_reply d img) ∷ ten d m k ∷ [])
  table_opened m k = rw (behind_layout, ten_is m k, table_laid o m k) (table_first (table_named m k ts))

  read_opened : (m k : ℕ) (p : TableOffset) (l : ℕ) → FirstGiven d img (ask.read_range m k p l)
  unfolding outcome_by refusals_of read_range_reply twelve
  read_opened m k p l = rw (behind_layout, ten_is m k, table_laid o m k) (read_first p l (table_named m k ts))

  element_opened : (q : ElementName) → place_refusal (element_place_reply d img q) ≡ first_of (refusal_in (layout_reply d img) ∷ causes_in false d img q)
  unfolding element_place_reply
  element_opened q = rw behind_layout (refused_by_lem o false q)

  number_opened : (q : ElementName) → refusal_in (element_number_reply d img q) ≡ first_of (refusal_in (layout_reply d img) ∷ causes_in true d img q)
  unfolding element_number_reply integer_place_reply
  number_opened q = rw behind_layout (number_refusal img _ ∙ refused_by_lem o true q)

  -- the three writes
  range_opened : (m k : ℕ) (p : TableOffset) (new : List ℕ) → FirstGiven d img (ask.write_range m k p new)
  unfolding outcome_by refusals_of write_range_reply range_place range_in twelve thirteen
  range_opened m k p new =
      rw (behind_layout, ten_is m k, fourteen_is, table_laid o m k, opened_image o)
      (range_first d img es p (length new) (table_item d (item_count d) m k) (table_named m k ts) (table_item_lem o m k))

  -- of an element, behind its causes
  written_first : (number : Bool) (fits : ℕ → Bool) (q : ElementName)
      → write_refusal (written_in number fits d img q (open_image d img)) ≡ first_of (causes_in number d img q ++ behind_element d img es q fits (element_place_reply d img q))
  unfolding written_in
  written_first number fits q =
      rw (first_append, ← refused_by_lem o number q, opened_image o)
      (element_first d img es q fits (element_place_in number d q (opened ts es s n)) (element_place_reply d img q)
      (λ p l e.
      let there = ((for_exactly d img q number p l).0 (rw (opened_image o) e)).1 in
      there ∙ sym e))

  octets_opened : (q : ElementName) (new : List ℕ) → FirstGiven d img (ask.write_octets q new)
  unfolding outcome_by refusals_of write_octets_reply thirteen fifteen
  octets_opened q new = rw (behind_layout, fourteen_is) (written_first false (λ l. length new =? l) q)

  integer_opened : (q : ElementName) (x : ℕ) → FirstGiven d img (ask.write_number q x)
  unfolding outcome_by refusals_of write_number_reply thirteen fifteen
  integer_opened q x = rw (behind_layout, fourteen_is) (written_first true (λ l. x <? 256 ^ l) q)

  -- the calendar
  calendar_is : of_calendar ours d img ≡ ten_and_twenty img (table_named 0 0 ts) (table_named 0 51 ts) (table_named 0 54 ts)
  unfolding of_calendar ten_and_twenty
  calendar_is = rw (ten_is 0 0, ten_is 0 51, ten_is 0 54, part_is 0 51, part_is 0 54)

  tier_opened : (w : Moment) (q : Quantity) → FirstGiven d img (ask.tier w q)
  unfolding outcome_by refusals_of tier_reply calendar calendar_in of_moment
  tier_opened w q =
      rw (behind_layout, calendar_is, part_is 0 51, part_is 0 54, opened_image o) (tier_first img w q (table_named 0 0 ts) (table_named 0 51 ts) (table_named 0 54 ts))

  seasoned_opened : (t : Date) → FirstGiven d img (ask.seasoned t)
  unfolding outcome_by refusals_of seasoned_reply calendar calendar_in
  seasoned_opened t = rw (behind_layout, calendar_is, opened_image o) (seasoned_first img t (table_named 0 0 ts) (table_named 0 51 ts) (table_named 0 54 ts))

  matrix_opened : FirstGiven d img ask.matrix
  unfolding outcome_by refusals_of matrix_verdict calendar calendar_in
  matrix_opened =
      rw (behind_layout, calendar_is, opened_image o) (matrix_found _ ∙ calendar_first img (table_named 0 0 ts) (table_named 0 51 ts) (table_named 0 54 ts))

  opened_first : (q : Question) → FirstGiven d img q
  unfolding outcome_by refusals_of
  opened_first ask.check = sound_given (verdict_refusal (check_reply d))
  opened_first ask.layout = layout_opened
  opened_first (ask.table_place m k) = table_opened m k
  opened_first (ask.table_part m k) = table_opened m k
  opened_first (ask.element_place q) = element_opened q
  opened_first (ask.element_part q) = element_opened q
  opened_first (ask.element_number q) = number_opened q
  opened_first (ask.write_range m k p new) = range_opened m k p new
  opened_first (ask.write_octets q new) = octets_opened q new
  opened_first (ask.write_number q x) = integer_opened q x
  opened_first (ask.tier w q) = tier_opened w q
  opened_first ask.matrix = matrix_opened
  opened_first (ask.seasoned t) = seasoned_opened t
  opened_first (ask.read_range m k p l) = read_opened m k p l
  opened_first (ask.weekday t) = weekday_first t

-- each case of opening the image, with what 1 to 9 then are
pub first_given : (d img : List ℕ) (q : Question) → FirstGiven d img q
unfolding refusals_of first_of eight given refusal_in verdict_reply
first_given d img q =
    opening d img (λ r e h. refused_first d img r h (rw e) q) (λ p l h. refused_first d img _ h (rw (p, l)) q)
    (λ p l es i x e h.
    let f = short_first d img p es i x e in
    refused_first d img _ h (rw (p, l, nine_first d img f (item_count d) 0 (omega arith) (omega (arith, f.there)))) q)
    (λ ts es s n o. opened_first o q)
