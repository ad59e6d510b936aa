-- Tables laid one after another: those laid and those left come to the whole image, at the start, after each table and at the end; and what is asked for is
-- found among those laid. Assumes nothing.
use Rattle.std.specs.Prelude.{Some, None, Result, Ok, Err}
use Rattle.std.specs.Option.{option_map, option_or}
use Rattle.std.specs.Prelude as prelude
use Prim.Native.Nat.{ℕ, zero, suc, ◌+◌, ◌-◌, ◌<◌, ◌≤◌, min}
use mathlib.Core.Path.{◌≡◌, refl, ◌∙◌, ap, ap₂, sym, subst, fun_ext}
use mathlib.Core.Logic.{inl, inr}
use mathlib.Core.Bool.{Bool, true, false, cond, ◌&&◌, or-false}
use mathlib.Core.List.{List, [], ◌∷◌, ◌++◌, append_assoc, append-nil}
use mathlib.Core.Option.{Option, some, none}
use lib.ListN.{length, get_or, replicate}
use borrow.Author.Tests.{leb-true, lt-ltb, le-ltb}
use native.Mathlib.Omega.{arith}
use Rattle.meaning.specs.Basics.{◌≤?◌, ◌=?◌}
use Rattle.meaning.specs.declared.Fields.{Fields}
use Rattle.meaning.specs.declared.Refusal.{Refusal}
use Rattle.meaning.specs.Description.{item_count, fields_at, is_table, nested, check_reply}
use Rattle.meaning.specs.Passed.{Passes}
use Rattle.meaning.specs.Layout.{Body, Tables, no_more, table, table_at, tables_of, tree_of, body_at, Slots, unread, Placed, fault, short, Laid, laid, stopped, lay_body}
use Rattle.meaning.specs.Layout.{Seat, Layout, laid_out, stopped_at, before, seated, lay_tables, lay_out, table_named, number_of}
use Rattle.meaning.specs.Numbers.{image_too_long}
use Rattle.meaning.specs.Refusals.{refused, stop_refusal, open_laid, open_sound, open_image, any_dimension}
use Rattle.meaning.proofs.Passed.{passed_laws}
use Rattle.laying.specs.Every.{Every}
use Rattle.laying.specs.Rows.{Array, row, no_row, first_row, onward, row_after, walk_body, walk_tables, row_of}
use Rattle.laying.specs.Rows as def
use Rattle.laying.specs.Slots.{octets_of, Matches}
use Rattle.laying.specs.Sound.{Known, none_known, SoundBody, SoundTables, after_body}
use Rattle.laying.proofs.Among.{every_among, seat_among}
use Rattle.laying.proofs.Cover.{Lies, consecutive_fill}
use Rattle.laying.proofs.Dimensions.{no_dimension}
use Rattle.laying.proofs.Every.{every_map, every_append}
use Rattle.laying.proofs.Laying.{laying_body}
use Rattle.laying.proofs.Reaches.{Reaches, r_body}
use Rattle.laying.proofs.Rising.{RisesBody, rises_body}
use Rattle.laying.proofs.Steps.{tables_none, tables_step}
use Rattle.laying.proofs.Tops.{passed_sound, fit_body, table_one}
use Rattle.laying.proofs.Rows.{first_none_right, first_assoc}
use Rattle.offsets.specs.declared.TableStart.{TableStart}
use Rattle.places.specs.declared.rows.Row.{Row}
use Rattle.places.specs.declared.survey.Answer.{Answer}
use Rattle.places.specs.declared.survey.Asked.{Asked}
use Rattle.places.specs.declared.survey.Standing.{Standing}
use Rattle.places.specs.declared.survey.Survey.{Survey}
use Rattle.meaning.specs.declared.TableName.{TableName}
use Rattle.places.specs.declared.survey.TableSpot.{TableSpot}
use Rattle.places.specs.declared.walk.Aim.{Aim}
use Rattle.places.specs.declared.walk.Walk.{Walk}
use Rattle.places.specs.Found.{FoundTable, FoundRow}
use Rattle.places.specs.Measuring.{numbers_in}
use Rattle.places.specs.Rows.{RowAs}
use Rattle.places.specs.Surveying.{table_found, is_first, seat_in, held_in, held_after, StandsAs, before_all, Surveyed, TableReady, TableAs, AnswerAs}
use Rattle.places.specs.Walking.{WalkEnds, Ends, WalkBodyReady, WalksBody}
use Rattle.places.proofs.Held.{holds_append}
use Rattle.places.proofs.RowLaws.{as_none, said_none, said_some}
use Rattle.meaning.specs.Values.{passed}

-- WHERE THINGS ARE
-- the first of two that is found
first_seat : Option Seat → Option Seat → Option Seat
first_seat (some t) u = some t
first_seat none u = u

-- one table more among those laid
named_more : (m k : ℕ) (ts : List Seat) (t : Seat) → table_named m k (ts ++ (t ∷ [])) ≡ first_seat (table_named m k ts) (table_named m k (t ∷ []))
unfolding table_named first_seat
named_more m k [] t = refl
named_more m k (u ∷ ts) t = go (u.manufacturer =? m && u.number =? k) (named_more m k ts t)
  where
    go : (b : Bool) → table_named m k (ts ++ (t ∷ [])) ≡ first_seat (table_named m k ts) (table_named m k (t ∷ []))
        → cond b (some u) (table_named m k (ts ++ (t ∷ []))) ≡ first_seat (cond b (some u) (table_named m k ts)) (table_named m k (t ∷ []))
    go true e = refl
    go false e = e

-- a table of item i, at p, l octets long
abbrev seat_of : Fields → (i p l : ℕ) → Seat
seat_of h i p l = record { item = i; manufacturer = h.manufacturer; number = h.number; start = p; size = l }

-- and as the code has it
abbrev spot_of : (i p l : ℕ) → TableSpot
spot_of i p l = record { item = i; start = record { 0 = p }; length = l }

seat_more : (n : TableName) (ts : List Seat) (h : Fields) (i p l : ℕ)
    → table_found (table_named n.manufacturer n.number (ts ++ (seat_of h i p l ∷ [])))
    ≡ seat_in (table_found (table_named n.manufacturer n.number ts)) (is_first (table_found (table_named n.manufacturer n.number ts)) h n) (spot_of i p l)
unfolding table_named first_seat table_found is_first seat_in
seat_more n ts h i p l = rw (named_more _ _ ts (seat_of h i p l)) (go (table_named n.manufacturer n.number ts))
  where
    one : (b : Bool) → table_found (cond {A = Option Seat} b (some (seat_of h i p l)) none) ≡ cond b (Some (spot_of i p l)) None
    one true = refl
    one false = refl

    go : (x : Option Seat) → table_found (first_seat x (table_named n.manufacturer n.number (seat_of h i p l ∷ [])))
        ≡ seat_in (table_found x) (is_first (table_found x) h n) (spot_of i p l)
    go (some t) = refl
    go none = one (h.manufacturer =? n.manufacturer && h.number =? n.number)

-- which of two rows stands
standing_first : (a b : FoundRow) (r q : def.Row) → StandsAs a r → StandsAs b q → StandsAs (option_or a b) (first_row r q)
unfolding first_row
standing_first None b r q h g = rw h g
standing_first (Some a) b r q h g =
    record { in_table = h.in_table; is = rw h.is (said_some a.start.0 _ h.in_table q h.row_as.says); row_as = h.row_as; early = h.early }

-- a row, or none, in the table that starts there
abbrev pub standing_at : TableStart → Row → Standing
standing_at p c = record { start = p; row = c }

stands_here : (p : TableStart) (c : prelude.Option Row) (t r : def.Row) → r ≡ onward p.0 t → RowAs 4 c t → p.0 ≤ 65535 → StandsAs (option_map (standing_at p) c) r
unfolding onward
stands_here p None t r is h early = is ∙ rw (said_none t h.says)
stands_here p (Some c) t r is h early = record { in_table = t; is = is; row_as = h; early = early }

-- OCTETS OF DIMENSIONS. n octets from offset o on of the table of that name, among tables and elements that end by p; then a table from p to x, with elements ps
module _ (n : TableName) (o l p : ℕ) (ts : List Seat) (es ps : List Placed) (h : Fields) (i x : ℕ) (order : p ≤ x)
    (seats_end : Every (λ t. t.start + t.size ≤ p) ts) (elements_end : Every (λ e. e.start + e.size ≤ p) es) (lies : Every (Lies p x) ps) where
  abbrev new : Seat
  new = seat_of h i p (x - p)

  -- in a table that ends by p none of the new elements counts
  held_earlier : (t : Seat) → t.start + t.size ≤ p → held_in o l (some t) (es ++ ps) ≡ held_in o l (some t) es
  unfolding held_in
  held_earlier t by = go (o + l ≤? t.size) refl
    where
      go : (b : Bool) → (o + l ≤? t.size) ≡ b → (b && any_dimension (es ++ ps) (t.start + o) l) ≡ (b && any_dimension es (t.start + o) l)
      go true f =
          let fits = leb-true (o + l) t.size f in
          holds_append (t.start + o) l es ps
          ∙ rw (no_dimension (t.start + o) l ps (every_map (Lies p x) _ (λ e m. inr (omega (arith, m.starts, by, fits))) ps lies)) (or-false (any_dimension es (t.start + o) l))
      go false f = refl

  held_none : held_in o l none (es ++ ps) ≡ held_in o l none es
  unfolding held_in
  held_none = refl

  -- in the new one none of the earlier
  held_new : held_in o l (some new) (es ++ ps) ≡ (o + l ≤? x - p && any_dimension ps (p + o) l)
  unfolding held_in
  held_new = ap (λ (b : Bool). o + l ≤? x - p && b) (holds_append (p + o) l es ps ∙ rw (no_dimension (p + o) l es (every_map _ _ (λ e m. inl (omega arith)) es elements_end)))

  held_more : held_in o l (table_named n.manufacturer n.number (ts ++ (new ∷ []))) (es ++ ps)
      ≡ held_after (held_in o l (table_named n.manufacturer n.number ts) es) (is_first (table_found (table_named n.manufacturer n.number ts)) h n)
      (o + l ≤? x - p) (any_dimension ps (p + o) l)
  unfolding table_named first_seat table_found is_first held_after
  held_more = rw (named_more _ _ ts new) (go (table_named n.manufacturer n.number ts) refl)
    where
      one : (b : Bool) → held_in o l (cond {A = Option Seat} b (some new) none) (es ++ ps) ≡ cond b (o + l ≤? x - p && any_dimension ps (p + o) l) (held_in o l none es)
      one true = held_new
      one false = held_none

      go : (y : Option Seat) → table_named n.manufacturer n.number ts ≡ y
          → held_in o l (first_seat y (table_named n.manufacturer n.number (new ∷ []))) (es ++ ps)
          ≡ held_after (held_in o l y es) (is_first (table_found y) h n) (o + l ≤? x - p) (any_dimension ps (p + o) l)
      go (some t) e = held_earlier t (every_among _ t ts seats_end (seat_among _ _ ts t e).among)
      go none e = one (h.manufacturer =? n.manufacturer && h.number =? n.number)

-- WHAT WAS LAID BEFORE, THEN THE REST
before_one : (ts : List Seat) (ps : List Placed) (t : Seat) (qs : List Placed) (o : Layout) → before_all ts ps (before t qs o) ≡ before_all (ts ++ (t ∷ [])) (ps ++ qs) o
unfolding before_all
before_one ts ps t qs (laid_out us rs s n) = ap₂ (λ (a : List Seat) (b : List Placed). laid_out a b s n) (sym (append_assoc ts (t ∷ []) us)) (sym (append_assoc ps qs rs))
before_one ts ps t qs (stopped_at rs x) = ap (λ (b : List Placed). stopped_at b x) (sym (append_assoc ps qs rs))

before_none : (o : Layout) → before_all [] [] o ≡ o
unfolding before_all
before_none (laid_out us qs s n) = refl
before_none (stopped_at qs x) = refl

-- AT THE START
zeros : (n k : ℕ) → get_or (replicate {A = ℕ} n 0) k 0 ≡ 0
zeros zero k = refl
zeros (suc n) zero = refl
zeros (suc n) (suc k) = zeros n k

pub set_out : (d img : List ℕ) (q : Asked) (p z : ℕ) → p ≡ 0 → z ≡ 0 → Passes d
    → Surveyed d img q (record {
      numbers = replicate 64 0;
      start = record { 0 = p };
      next = record { at = z };
      first = None;
      second = None;
      element = None;
      held = false;
    })
unfolding lay_out row_of tree_of number_of octets_of table_named table_found held_in first_row onward Every
set_out d img q p z e f h =
    let y : item_count d - 0 ≡ item_count d = omega arith in
    rw (e, f)
    (record {
      seats = [];
      elements = [];
      slots = λ k. unread;
      known = none_known;
      row = no_row;
      numbers = fun_ext (λ k. sym (zeros 64 k));
      room = refl;
      matches = record { octets = λ k. refl };
      whole = rw y (sym (before_none (lay_tables (tables_of d (item_count d) 0 0) img (λ k. unread) 0)));
      rows = rw y;
      sound = rw y (passed_sound d h);
      ordered = omega arith;
      inside = omega arith;
      seats_end = tt;
      elements_end = tt;
      first = refl;
      second = refl;
      element = refl;
      held = refl;
    })

-- THE FIRST OF THE TABLES LEFT
record TableThere (d : List ℕ) (at n : ℕ) (rest : Tables) : Type 0 where
  is_one_lem : is_table (fields_at d at) ≡ true
  few : (fields_at d at).first ≤ n
  is : table_at d (fields_at d at) at n rest ≡ table at (fields_at d at) (body_at 4 d (at + 1) (fields_at d at).first) rest

table_there : (d : List ℕ) (κ : Known) (at n : ℕ) (rest : Tables) → SoundTables κ (table_at d (fields_at d at) at n rest) → TableThere d at n rest
unfolding table_at SoundTables
table_there d κ at n rest = go (is_table (fields_at d at)) refl ((fields_at d at).first ≤? n) refl
  where
    go : (b : Bool) → is_table (fields_at d at) ≡ b → (c : Bool) → ((fields_at d at).first ≤? n) ≡ c
        → SoundTables κ (table_at d (fields_at d at) at n rest) → TableThere d at n rest
    go true e true g f = record { is_one_lem = e; few = leb-true _ _ g; is = rw (e, g) }
    go true e false g f = absurd (rw (e, g) at f)
    go false e c g f = absurd (rw e at f)

-- ONE TABLE MORE
module _ (d img : List ℕ) (q : Asked) (s : Survey) (ready : TableReady d img q s) where
  abbrev g : Surveyed d img q s
  g = ready.surveyed

  abbrev at : ℕ
  at = s.next.at

  abbrev f : Fields
  f = fields_at d at

  abbrev after : ℕ
  after = at + 1 + f.first

  abbrev body : Body
  body = body_at 4 d (at + 1) f.first

  abbrev rest : Tables
  rest = tables_of d (item_count d - after) 0 after

  -- the tables left are this one and the rest
  record Left : Type 0 where
    few : after ≤ item_count d
    is : tables_of d (item_count d - at) 0 at ≡ table at f body rest

  left : Left
  left =
      let n = item_count d - at - 1 in
      let e : item_count d - at ≡ suc n = omega (arith, ready.more) in
      let split = ap (λ (x : ℕ). tables_of d x 0 at) e ∙ tables_step d at n in
      let there = table_there d g.known at n _ (subst (SoundTables g.known) split g.sound) in
      let one = table_one d at there.is_one_lem in
      let more = there.few in
      let same : tables_of d (n - nested f) 0 (at + 1 + nested f) ≡ rest =
      ap₂ (λ (a b : ℕ). tables_of d a 0 b) (omega (arith, ready.more)) (omega arith) in
      record { few = omega (arith, ready.more); is = split ∙ there.is ∙ ap (table at f body) same }

  sound : SoundBody true g.known body × SoundTables (after_body body g.known) rest
  unfolding SoundTables
  sound = subst (SoundTables g.known) left.is g.sound

  rises : RisesBody d 0 (at + 1) after body
  rises = rises_body d 4 0 (at + 1) f.first (at + 1) after (omega arith) (omega (arith, left.few))

  abbrev aim : Aim
  aim = record { start = s.start; wanted = q.item; from = q.from; octets = q.octets }

  -- the walk before it, at the item after the table's own
  abbrev sets_off : (next octets : ℕ) → Walk
  sets_off next octets = record { numbers = s.numbers; octets = record { 0 = octets }; row = None; held = false; next = record { at = next } }

  pub table_ready : (next octets first : ℕ) → next ≡ at + 1 → octets ≡ 0 → first ≡ f.first → WalkBodyReady d img aim (sets_off next octets) first 4
  table_ready next octets first e z i =
      rw (e, z, i)
      (record {
        ready = record {
          few = (passed_laws d ready.ready.passes).few;
          deep = omega arith;
          small = ready.ready.small;
          inside = omega (arith, g.inside);
          slots = g.room;
        };
        there = omega (arith, left.few);
        fit = fit_body true g.known body sound.0;
      })

  -- with the body laid out as o
  abbrev Whole : Laid → Type 0
  Whole o = lay_out d img ≡ before_all g.seats g.elements (seated at f s.start.0 o (λ t x. lay_tables rest img t x))

  whole_is : Whole (lay_body body img false g.slots s.start.0)
  unfolding lay_tables
  whole_is = g.whole ∙ ap (λ (x : Tables). before_all g.seats g.elements (lay_tables x img g.slots s.start.0)) left.is

  abbrev row_here : def.Row
  row_here = walk_body body img g.slots s.start.0 q.item

  rows_are : (o : Laid) → lay_body body img false g.slots s.start.0 ≡ o
      → row_of d img q.item ≡ first_row g.row (first_row row_here (row_after o (λ t x. walk_tables rest img t x q.item)))
  unfolding walk_tables
  rows_are o e =
      g.rows ∙ ap (λ (x : Tables). first_row g.row (walk_tables x img g.slots s.start.0 q.item)) left.is
      ∙ ap (λ (z : Laid). first_row g.row (first_row row_here (row_after z (λ t x. walk_tables rest img t x q.item)))) e

  module _ (next octets first : ℕ) (ne : next ≡ at + 1) (oe : octets ≡ 0) (fe : first ≡ f.first) where
    few : item_count d ≤ 512
    few = (passed_laws d ready.ready.passes).few

    -- what the walk came to
    ends : (w : Result Walk Refusal) → WalksBody d img aim (sets_off next octets) first 4 w → Ends aim no_row false w row_here (lay_body body img false g.slots s.start.0)
    ends w walks =
        let e : s.start.0 + octets ≡ s.start.0 = omega arith in
        let walked : WalksBody d img aim (sets_off (at + 1) octets) f.first 4 w = rw (ne, fe) at walks in
        subst (λ (p : ℕ). Ends aim no_row false w (walk_body body img g.slots p q.item) (lay_body body img false g.slots p)) e
        (walked.ends g.slots g.known true no_row (record { numbers = g.numbers; matches = g.matches; row_as = as_none 4 }) sound.0)

    reaches : Reaches (after_body body g.known) (λ i. walk_body body img g.slots s.start.0 i) (lay_body body img false g.slots s.start.0)
    reaches = r_body img d body true 0 (at + 1) after g.slots g.known s.start.0 g.matches sound.0 rises

    -- THE IMAGE IS SHORT in this table
    pub table_stopped : {x : Refusal} → WalksBody d img aim (sets_off next octets) first 4 (Err x) → open_laid (lay_out d img) ≡ refused x
    unfolding seated before_all open_laid stop_refusal
    table_stopped {x} walks = go (lay_body body img false g.slots s.start.0) (ends (Err x) walks) reaches whole_is
      where
        go : (o : Laid) → Ends aim no_row false (Err x) row_here o → Reaches (after_body body g.known) (λ i. walk_body body img g.slots s.start.0 i) o → Whole o
            → open_laid (lay_out d img) ≡ refused x
        go (laid ps t y) e m wh = absurd e
        go (stopped ps (fault z i)) e m wh = absurd m
        go (stopped ps (short i y)) e m wh = ap open_laid wh ∙ ap refused (sym e)

    -- OR IT IS LAID
    module _ (w : Walk) (walks : WalksBody d img aim (sets_off next octets) first 4 (Ok w)) (r : Survey) (numbers : r.numbers ≡ w.numbers) (start : r.start.0 ≡ min (s.start.0 + w.octets.0) 18446744073709551615) (goes : r.next.at ≡ min (next + first) 18446744073709551615)
        (seat : r.first ≡ seat_in s.first (is_first s.first f q.first) (spot_of at s.start.0 w.octets.0))
        (other : r.second ≡ seat_in s.second (is_first s.second f q.second) (spot_of at s.start.0 w.octets.0))
        (element : r.element ≡ option_or s.element (option_map (standing_at s.start) w.row))
        (held : r.held ≡ held_after s.held (is_first s.first f q.first) (q.from.0 + q.octets ≤? w.octets.0) w.held) where
      goes_on : r.next.at ≡ after
      goes_on = omega (arith, goes, ne, fe, left.few, few)

      -- what is told of the octets asked about, with this table
      abbrev tells : FoundTable → (before : Bool) → (length : ℕ) → (held : Bool) → Bool
      tells z b l c = held_after b (is_first z f q.first) (q.from.0 + q.octets ≤? l) c

      laid_on : (ps : List Placed) (t : Slots) (x : ℕ) → lay_body body img false g.slots s.start.0 ≡ laid ps t x → WalkEnds aim no_row false w row_here ps t x
          → Matches t (after_body body g.known) → Whole (laid ps t x) → Surveyed d img q r
      unfolding seated row_after first_row Every
      laid_on ps t x is e m wh =
          let t0 : Seat = seat_of f at s.start.0 (x - s.start.0) in
          let st : r.start.0 ≡ x = start ∙ omega (arith, e.here, walks.walked.inside, ready.ready.small) in
          let sz : w.octets.0 ≡ x - s.start.0 = omega (arith, e.here) in
          let same : tables_of d (item_count d - r.next.at) 0 r.next.at ≡ rest = ap (λ (j : ℕ). tables_of d (item_count d - j) 0 j) goes_on in
          let fill = consecutive_fill (laying_body d img body 0 (at + 1) after rises false g.slots s.start.0 is).consecutive in
          record {
            seats = g.seats ++ (t0 ∷ []);
            elements = g.elements ++ ps;
            slots = t;
            known = after_body body g.known;
            row = first_row g.row row_here;
            numbers = e.numbers ∙ ap numbers_in (sym numbers);
            room = rw numbers walks.walked.slots;
            matches = m;
            whole = wh ∙ before_one g.seats g.elements t0 ps (lay_tables rest img t x)
                ∙ ap₂ (λ (a : Tables) (b : ℕ). before_all (g.seats ++ (t0 ∷ [])) (g.elements ++ ps) (lay_tables a img t b)) (sym same) (sym st);
            rows = rows_are (laid ps t x) is ∙ sym (first_assoc g.row row_here _)
                ∙ ap₂ (λ (a : Tables) (b : ℕ). first_row (first_row g.row row_here) (walk_tables a img t b q.item)) (sym same) (sym st);
            sound = subst (SoundTables (after_body body g.known)) (sym same) sound.1;
            ordered = omega (arith, goes_on, left.few);
            inside = omega (arith, st, e.here, walks.walked.inside);
            seats_end = rw st (every_append (λ u. u.start + u.size ≤ x) g.seats (t0 ∷ [])
                (every_map (λ u. u.start + u.size ≤ s.start.0) _ (λ u h. omega (arith, fill.order)) g.seats g.seats_end) (omega (arith, fill.order), tt));
            elements_end = rw st (every_append (λ u. u.start + u.size ≤ x) g.elements ps
                (every_map (λ u. u.start + u.size ≤ s.start.0) _ (λ u h. omega (arith, fill.order)) g.elements g.elements_end)
                (every_map (Lies s.start.0 x) _ (λ u h. h.ends) ps fill.lies));
            first = seat ∙ ap₂ (λ (z : FoundTable) (l : ℕ). seat_in z (is_first z f q.first) (spot_of at s.start.0 l)) g.first sz
                ∙ sym (seat_more q.first g.seats f at s.start.0 (x - s.start.0));
            second = other ∙ ap₂ (λ (z : FoundTable) (l : ℕ). seat_in z (is_first z f q.second) (spot_of at s.start.0 l)) g.second sz
                ∙ sym (seat_more q.second g.seats f at s.start.0 (x - s.start.0));
            element = subst (λ (z : FoundRow). StandsAs z (first_row g.row row_here)) (sym element) (standing_first s.element _ g.row row_here g.element
                (stands_here s.start w.row _ _ e.row_is.is e.row_is.row_as (omega (arith, g.inside, ready.ready.small))));
            held = held ∙ ap₂ (λ (z : FoundTable) (b : Bool). tells z b w.octets.0 w.held) g.first g.held
                ∙ ap₂ (λ (l : ℕ) (b : Bool). tells (table_found (table_named q.first.manufacturer q.first.number g.seats))
                (held_in q.from.0 q.octets (table_named q.first.manufacturer q.first.number g.seats) g.elements) l b) sz e.holds
                ∙ sym (held_more q.first q.from.0 q.octets s.start.0 g.seats g.elements ps f at x
                fill.order g.seats_end g.elements_end fill.lies);
          }

      pub table_laid : TableAs d img q s (Ok r)
      table_laid = go (lay_body body img false g.slots s.start.0) refl (ends (Ok w) walks) reaches whole_is
        where
          go : (o : Laid) → lay_body body img false g.slots s.start.0 ≡ o → Ends aim no_row false (Ok w) row_here o
              → Reaches (after_body body g.known) (λ i. walk_body body img g.slots s.start.0 i) o → Whole o → TableAs d img q s (Ok r)
          go (laid ps t x) is e m wh = (laid_on ps t x is e m.matches wh, omega (arith, goes_on))
          go (stopped ps (fault z i)) is e m wh = absurd m
          go (stopped ps (short i x)) is e m wh = absurd e

-- AT THE END
pub laid_all : (d img : List ℕ) (q : Asked) (s : Survey) → Surveyed d img q s → item_count d ≤ s.next.at → (total : ℕ) → total ≡ s.start.0
    → AnswerAs d img q (Ok (record { total = total; numbers = s.numbers; first = s.first; second = s.second; element = s.element; held = s.held })) (open_laid (lay_out d img))
unfolding lay_tables walk_tables before_all open_laid
laid_all d img q s g le total e =
    let z : item_count d - s.next.at ≡ 0 = omega arith in
    let none : tables_of d (item_count d - s.next.at) 0 s.next.at ≡ no_more = ap (λ (x : ℕ). tables_of d x 0 s.next.at) z ∙ tables_none d s.next.at in
    let w : lay_out d img ≡ laid_out g.seats g.elements g.slots s.start.0 = g.whole
    ∙ ap (λ (x : Tables). before_all g.seats g.elements (lay_tables x img g.slots s.start.0)) none
    ∙ ap₂ (λ (a : List Seat) (b : List Placed). laid_out a b g.slots s.start.0) (append-nil g.seats) (append-nil g.elements) in
    let rows : g.row ≡ row_of d img q.item = sym (g.rows ∙ ap (λ (x : Tables). first_row g.row (walk_tables x img g.slots s.start.0 q.item)) none ∙ first_none_right g.row) in
    rw w (record { total = e; numbers = g.numbers; first = g.first; second = g.second; element = subst (StandsAs s.element) rows g.element; held = g.held })

-- 1 TO 9 COME FIRST
module _ (d img : List ℕ) (q : Asked) where
  pub opened_refused : (x : Refusal) → check_reply d ≡ Err x → AnswerAs d img q (Err x) (open_image d img)
  unfolding open_image open_sound
  opened_refused x e = rw e

  pub opened_long : check_reply d ≡ passed → 65535 < length img → AnswerAs d img q (Err image_too_long) (open_image d img)
  unfolding open_image open_sound
  opened_long e l = rw (e, lt-ltb 65535 (length img) l)

  pub opened_laid : (r : Result Answer Refusal) → check_reply d ≡ passed → length img ≤ 65535 → AnswerAs d img q r (open_laid (lay_out d img)) → AnswerAs d img q r (open_image d img)
  unfolding open_image open_sound
  opened_laid r e l h = rw (e, le-ltb 65535 (length img) l) h
