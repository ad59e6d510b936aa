-- Of demand 3: laid out, the tables are the TABLEs of the description, in its order, each where the reply says and where the walk has it, and they follow one another. Assumes nothing.
use Rattle.std.specs.Prelude.{if◌then◌else◌, Ok}
use Prim.Native.Nat.{ℕ, zero, suc, ◌+◌, ◌-◌, ◌<◌, ◌≤◌}
use mathlib.Core.Path.{◌≡◌, refl, ◌∙◌, ap, sym, subst}
use mathlib.Core.Logic.{inl, inr}
use mathlib.Core.Bool.{Bool, true, false, ◌&&◌, true≢false, and-eq-true_iff}
use mathlib.Core.List.{List, [], ◌∷◌}
use mathlib.Core.Option.{some}
use borrow.Author.Tests.{eqb-true, eq-eqb}
use native.Mathlib.Decide.{dec_lt}
use native.Mathlib.Omega.{arith}
use Rattle.meaning.specs.Basics.{◌=?◌}
use Rattle.meaning.specs.Description.{item_count, fields_at, is_table, is_table_named, nested, inside, round}
use Rattle.meaning.specs.Layout.{body_at, tables_of, tree_of, Placed, Slots, Laid, laid, stopped}
use Rattle.meaning.specs.Layout.{Seat, Layout, laid_out, stopped_at, before, seated, lay_tables, lay_out, lay_body, table_named}
use Rattle.meaning.specs.Passed.{PassedLaws, end_of}
use Rattle.meaning.specs.Refusals.{layout_reply, seat_place, table_place_reply}
use Rattle.meaning.proofs.Rules.{beyond, in_first, in_second}
use Rattle.meaning.proofs.Nesting.{upward}
use Rattle.meaning.proofs.Passed.{passed_laws}
use Rattle.laying.specs.Every.{Every}
use Rattle.laying.proofs.Among.{Among, every_among, seat_among}
use Rattle.laying.proofs.Every.{every_map, every_both}
use Rattle.laying.proofs.Steps.{tables_none, tables_step}
use Rattle.laying.proofs.Nested.{Run, first_keeps, first_ends, rest_body}
use Rattle.laying.proofs.Tops.{table_is, table_one, top, whole_run}
use Rattle.laying.proofs.LaidOut.{tables_follow_lem as follow-on}
use Rattle.demands.specs.Demand3.{tables_from, items_of, Told, TablesFollow, Seated, TablesStand}
use Rattle.demands.specs.Replies.{ours, octets_at}
use Rattle.laying.proofs.Opened.{Opens, table_laid, table_opens, total_opens}
use Rattle.laying.proofs.Found.{seat_of_lem}
use Rattle.demands.proofs.Laid.{laid_facts}
use Rattle.meaning.specs.declared.Answer.{Answer}

-- THE TABLES OF THE DESCRIPTION
module _ {d : List ℕ} (p : PassedLaws d) where
  -- in the body of a TABLE, that table stands round each item
  tabled_round : (at i : ℕ) → is_table (fields_at d at) ≡ true → at < i → i < at + 1 + (fields_at d at).first → 1 ≤ (round d i i).tables
  unfolding inside
  tabled_round at i t l h = upward (λ k. 1 ≤ (round d k i).tables) (at + 1) start more i (omega arith)
    where
      start : 1 ≤ (round d (at + 1) i).tables
      start = rw (in_first d at i h, t) (omega arith)

      more : (k : ℕ) → at + 1 ≤ k → 1 ≤ (round d k i).tables → 1 ≤ (round d (k + 1) i).tables
      more k m g = go (dec_lt i (k + 1 + (fields_at d k).first)) (dec_lt i (end_of d k))
        where
          go : Dec (i < k + 1 + (fields_at d k).first) → Dec (i < end_of d k) → 1 ≤ (round d (k + 1) i).tables
          go (yes a) b = rw (in_first d k i a) (omega arith)
          go (no a) (yes b) = rw (in_second d k i (omega arith) b) (omega arith)
          go (no a) (no b) = rw (beyond d k i (omega arith)) g

  -- so none of them is a TABLE
  pub body_none : (at i : ℕ) → is_table (fields_at d at) ≡ true → at < i → i < at + 1 + (fields_at d at).first → i < item_count d → is_table (fields_at d i) ≡ false
  body_none at i t l h n = (p.keeps i n).within (tabled_round at i t l h)

-- items that aren't TABLEs may be passed over
from_skip : (d : List ℕ) (k n at : ℕ) → k ≤ n → ((i : ℕ) → at ≤ i → i < at + k → is_table (fields_at d i) ≡ false)
    → tables_from d n at ≡ tables_from d (n - k) (at + k)
unfolding tables_from
from_skip d zero n at l h =
    let e : n - 0 ≡ n = omega arith in
    let f : at + 0 ≡ at = omega arith in rw (e, f)
from_skip d (suc k) zero at l h = absurd (omega arith)
from_skip d (suc k) (suc n) at l h =
    let e : suc n - suc k ≡ n - k = omega arith in
    let f : at + suc k ≡ at + 1 + k = omega arith in
    rw (h at (omega arith) (omega arith), e, f) (from_skip d k n (at + 1) (omega arith) (λ i a b. h i (omega arith) (omega arith)))

-- THE TABLES LAID OUT
-- item i is the TABLE of that manufacturer bit and number
pub record TableNamed (d : List ℕ) (m k i : ℕ) : Type 0 where
  pub there : i < item_count d
  pub is : is_table (fields_at d i) ≡ true
  pub manufacturer : (fields_at d i).manufacturer ≡ m
  pub number : (fields_at d i).number ≡ k

-- by the test
pub named_is : {d : List ℕ} {m k i : ℕ} → i < item_count d → is_table_named (fields_at d i) m k ≡ true → TableNamed d m k i
named_is {d} {m} {k} {i} l e =
    let f = fields_at d i in
    let c = (and-eq-true_iff (is_table f && f.manufacturer =? m) (f.number =? k)).0 e in
    let b = (and-eq-true_iff (is_table f) (f.manufacturer =? m)).0 c.0 in
    record { there = l; is = b.0; manufacturer = eqb-true _ _ b.1; number = eqb-true _ _ c.1 }

pub is_named : {d : List ℕ} {m k i : ℕ} → TableNamed d m k i → is_table_named (fields_at d i) m k ≡ true
is_named h = rw (h.is, eq-eqb _ _ h.manufacturer, eq-eqb _ _ h.number)

-- the table of a TABLE of the description, from item lo on
record SeatIn (d : List ℕ) (lo : ℕ) (t : Seat) : Type 0 where
  low : lo ≤ t.item
  named : TableNamed d t.manufacturer t.number t.item

-- tables in the order of their items
unfoldable Order : List Seat → Type 0
Order [] = Unit {0}
Order (t ∷ ts) = Every (λ u. t.item < u.item) ts × Order ts

-- the tables are those of these items, in order
unfoldable Seats : (description : List ℕ) → (lo : ℕ) → (items : List ℕ) → Layout → Type 0
Seats d lo is (laid_out ts es s n) = (items_of ts ≡ is) × Every (SeatIn d lo) ts × Order ts
Seats d lo is (stopped_at es x) = Unit {0}

-- a table before others
s_before : (d : List ℕ) (lo to : ℕ) (is : List ℕ) (t : Seat) (ps : List Placed) (o : Layout) → SeatIn d lo t → t.item < to → Seats d to is o
    → Seats d lo (t.item ∷ is) (before t ps o)
unfolding Seats items_of Every Order
s_before d lo to is t ps (laid_out ts qs s n) h l g = (
  ap (λ js. t.item ∷ js) g.0,
  (
    h,
    every_map (SeatIn d to) (SeatIn d lo)
        (λ u k. record { low = omega (arith, k.low, h.low); named = k.named }) ts g.1,
  ),
  (every_map (SeatIn d to) (λ u. t.item < u.item) (λ u k. omega (arith, k.low)) ts g.1, g.2),
)
s_before d lo to is t ps (stopped_at qs x) h l g = tt

-- a table, then others
s_seated : (d : List ℕ) (at to : ℕ) (is : List ℕ) (p : ℕ) (o : Laid) (f : Slots → ℕ → Layout) → at < item_count d → is_table (fields_at d at) ≡ true → at < to
    → ((s : Slots) (q : ℕ) → Seats d to is (f s q)) → Seats d at (at ∷ is) (seated at (fields_at d at) p o f)
unfolding seated Seats
s_seated d at to is p (laid ps s q) f h t l g =
    s_before d at to is _ ps (f s q) (record { low = omega arith; named = record { there = h; is = t; manufacturer = refl; number = refl } }) l (g s q)
s_seated d at to is p (stopped ps x) f h t l g = tt

-- the tables among the last n items, fewer than m, are the TABLEs there
s_tables : {d : List ℕ} → PassedLaws d → (m at n : ℕ) → n < m → at + n ≡ item_count d → Run d at (item_count d) (top d)
    → (img : List ℕ) (s : Slots) (x : ℕ) → Seats d at (tables_from d n at) (lay_tables (tables_of d n 0 at) img s x)
unfolding lay_tables Seats tables_from items_of Every Order
s_tables p zero at n few long run img s x = absurd (omega arith)
s_tables {d} p (suc m) at zero few long run img s x = rw (tables_none d at) (refl, tt, tt)
s_tables {d} p (suc m) at (suc n) few long run img s x =
    let l : at < item_count d = omega arith in
    let f = fields_at d at in
    let ends = first_ends p run l in
    let is : is_table f ≡ true = (first_keeps p run l).top refl in
    let one = table_one d at is in
    let there : at + 1 + nested f ≡ end_of d at = omega arith in
    let over = from_skip d (nested f) n (at + 1) (omega arith) (λ i a b. body_none p at i is (omega arith) (omega arith) (omega arith)) in
    let rest = s_tables p m (end_of d at) (n - nested f) (omega arith) (omega arith) (rest_body p run l) in
    rw (is, over, tables_step d at n, there, table_is d at n (tables_of d (n - nested f) 0 (end_of d at)) is (omega arith))
    (s_seated d at (end_of d at) _ x (lay_body (body_at 4 d (at + 1) f.first) img false s x) _ l is (omega arith) (λ u q. rest img u q))

-- EACH IS FOUND BY ITS NAME
module _ {d : List ℕ} (p : PassedLaws d) where
  -- there is one TABLE of a manufacturer bit and number
  pub one_table : {m k i j : ℕ} → TableNamed d m k i → TableNamed d m k j → i ≡ j
  one_table {i = i} {j} a b =
      p.names i j a.there b.there a.is (rw (a.manufacturer, a.number) (is_named b))

  -- a table is found by its name after others of other items
  found_later : (lo : ℕ) (t : Seat) (ts : List Seat) (u : Seat) → SeatIn d lo t → SeatIn d lo u → t.item < u.item
      → table_named u.manufacturer u.number ts ≡ some u → table_named u.manufacturer u.number (t ∷ ts) ≡ some u
  unfolding table_named
  found_later lo t ts u h g l e = go (t.manufacturer =? u.manufacturer) (t.number =? u.number) refl refl
    where
      go : (a b : Bool) → (t.manufacturer =? u.manufacturer) ≡ a → (t.number =? u.number) ≡ b
          → (if a && b then some t else table_named u.manufacturer u.number ts) ≡ some u
      go true true a b =
          let same = one_table (rw (eqb-true t.manufacturer u.manufacturer a, eqb-true t.number u.number b) at h.named) g.named in
          absurd (omega arith)
      go true false a b = e
      go false b a c = e

  -- so each is found by its name
  found : (lo : ℕ) (ts : List Seat) → Every (SeatIn d lo) ts → Order ts → Every (λ t. table_named t.manufacturer t.number ts ≡ some t) ts
  unfolding Every Order table_named
  found lo [] h o = tt
  found lo (t ∷ ts) h o = (
    rw (eq-eqb t.manufacturer _ refl, eq-eqb t.number _ refl),
    every_both (λ u. SeatIn d lo u × (t.item < u.item)) (λ u. table_named u.manufacturer u.number ts ≡ some u) _
        (λ u g e. found_later lo t ts u h.0 g.0 g.1 e) ts
        (every_both (SeatIn d lo) (λ u. t.item < u.item) _ (λ u a b. (a, b)) ts h.1 o.0) (found lo ts h.1 o.1),
  )

-- each TABLE of the description has a table
listed : (d : List ℕ) (n at i : ℕ) → at ≤ i → i < at + n → is_table (fields_at d i) ≡ true → Among i (tables_from d n at)
unfolding tables_from Among
listed d zero at i a b t = absurd (omega arith)
listed d (suc n) at i a b t = go (dec_lt at i) (is_table (fields_at d at)) refl (λ l. listed d n (at + 1) i l (omega arith) t)
  where
    go : Dec (at < i) → (c : Bool) → is_table (fields_at d at) ≡ c → (at + 1 ≤ i → Among i (tables_from d n (at + 1)))
        → Among i (if c then at ∷ tables_from d n (at + 1) else tables_from d n (at + 1))
    go (yes l) true e rest = inr (rest (omega arith))
    go (yes l) false e rest = rest (omega arith)
    go (no l) true e rest = inl (omega arith)
    go (no l) false e rest = let z : at ≡ i = omega arith in absurd (true≢false (sym t ∙ rw z at e))

of_item : (i : ℕ) (ts : List Seat) → Among i (items_of ts) → (t : Seat) × Among t ts × (t.item ≡ i)
unfolding items_of Among
of_item i [] m = absurd m
of_item i (t ∷ ts) (inl e) = (t, inl refl, e)
of_item i (t ∷ ts) (inr m) = let r = of_item i ts m in (r.0, inr r.1, r.2)

-- OF AN OPENED IMAGE
module _ {d img : List ℕ} {ts : List Seat} {es : List Placed} {s : Slots} {total : ℕ} (o : Opens d img ts es s total) where
  -- the description is passed
  laws : PassedLaws d
  laws = passed_laws d o.passes

  -- the tables are the TABLEs of the description
  seats : (items_of ts ≡ tables_from d (item_count d) 0) × Every (SeatIn d 0) ts × Order ts
  unfolding Seats lay_out tree_of
  seats =
      subst (Seats d 0 (tables_from d (item_count d) 0)) o.laid
      (s_tables laws (item_count d + 1) 0 (item_count d) (omega arith) (omega arith) (whole_run d) img _ 0)

  -- a table found by a name is of the TABLE of that name
  pub found_table : {m k : ℕ} {t : Seat} → table_named m k ts ≡ some t → TableNamed d m k t.item
  found_table {m} {k} {t} e =
      let f = seat_among m k ts t e in
      rw (f.manufacturer, f.number) at (every_among (SeatIn d 0) t ts seats.1 f.among).named

  -- each is found by its name
  all_found : Every (λ t. table_named t.manufacturer t.number ts ≡ some t) ts
  all_found = found laws 0 ts seats.1 seats.2

  -- and so is the table of each TABLE
  pub table_found_lem : {m k i : ℕ} → TableNamed d m k i → (t : Seat) × Among t ts × (t.item ≡ i) × (table_named m k ts ≡ some t)
  table_found_lem {m} {k} {i} h =
      let r = of_item i ts (rw seats.0 (listed d (item_count d) 0 i (omega arith) (omega (arith, h.there)) h.is)) in
      let t = r.0 in
      let n = rw r.2 at (every_among (SeatIn d 0) t ts seats.1 r.1).named in
      let same : t.manufacturer ≡ m = sym n.manufacturer ∙ h.manufacturer in
      let also : t.number ≡ k = sym n.number ∙ h.number in
      (t, r.1, r.2, rw (same, also) at (every_among _ t ts all_found r.1))

  -- each is where the reply says
  all_told : Every (Told ours d img) ts
  unfolding seat_place
  all_told =
      every_both (SeatIn d 0) (λ t. table_named t.manufacturer t.number ts ≡ some t) (Told ours d img)
      (λ t h e. record { reply = rw (h.named.manufacturer, h.named.number) (table_laid o _ _ ∙ ap seat_place e) }) ts seats.1 all_found

-- laid out, the tables follow one another up to the total
pub tables_follow_lem : (d img : List ℕ) (total : ℕ) → layout_reply d img ≡ Ok (Answer.Total total) → TablesFollow ours d img total
tables_follow_lem d img total e =
    let t = total_opens d img total e in
    let o = t.opens in
    record {
      seats = t.seats;
      all = (seats o).0;
      told = all_told o;
      follow = follow-on d img t.seats t.elements t.slots total o.laid;
    }

-- each stands from the end of the pieces before it to the end of its own
pub tables_stand_lem : (d img : List ℕ) (total : ℕ) → layout_reply d img ≡ Ok (Answer.Total total) → TablesStand ours d img
unfolding seat_place
tables_stand_lem d img total e m k p n = (told, stands)
  where
    told : table_place_reply d img m k ≡ octets_at p n → Seated d img m k p n
    told h =
        let w = table_opens d img m k p n h in
        let t = w.at.seat in
        let f = laid_facts w.opens in
        let i = found_table w.opens w.at.found in
        let m = (seat_of_lem w).among in
        record {
          item = t.item;
          there = i.there;
          is = is_named i;
          starts = every_among _ t w.seats f.starts m ∙ w.at.start;
          ends = every_among _ t w.seats f.ends m ∙ rw (w.at.start, w.at.size);
        }

    stands : Seated d img m k p n → table_place_reply d img m k ≡ octets_at p n
    stands s =
        let o = total_opens d img total e in
        let f = laid_facts o.opens in
        let r = table_found_lem o.opens (named_is s.there s.is) in
        let t = r.0 in
        let start : t.start ≡ p = sym (every_among _ t o.seats f.starts r.1) ∙ rw r.2 s.starts in
        let ends : t.start + t.size ≡ p + n = sym (every_among _ t o.seats f.ends r.1) ∙ rw r.2 s.ends in
        let size : t.size ≡ n = omega arith in
        table_laid o.opens m k ∙ rw (r.3, start, size)
