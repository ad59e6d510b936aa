-- Of demands 2 and 3: the write of a range of a table. Assumes nothing.
use Rattle.std.specs.Prelude.{if◌then◌else◌, Err}
use Prim.Native.Nat.{ℕ, ◌+◌}
use mathlib.Core.Path.{◌≡◌, refl, sym, ◌∙◌, ap}
use mathlib.Core.Bool.{Bool, true, false}
use mathlib.Core.List.{List}
use mathlib.Core.Option.{Option, some, none}
use lib.ListN.{length}
use borrow.Author.Tests.{ltb-false, le-ltb}
use native.Mathlib.Omega.{arith}
use Rattle.offsets.specs.declared.TableOffset.{TableOffset}
use Rattle.meaning.specs.Basics.{◌<?◌}
use Rattle.meaning.specs.Layout.{Placed, Seat, Slots, table_named}
use Rattle.meaning.specs.Refusals.{seat_place, place_part, table_part_reply, place_verdict, allowed, range_of, range_in, range_place, write_range_reply, write_range_image, place_start}
use Rattle.meaning.proofs.Passed.{passed_laws}
use Rattle.meaning.proofs.Splices.{part_part}
use Rattle.meaning.specs.Numbers.{outside_table}
use Rattle.demands.specs.Demand2.{RangeGood, RangeWrites}
use Rattle.demands.specs.Demand3.{StaysPut}
use Rattle.demands.specs.Replies.{ours}
use Rattle.laying.proofs.Opened.{Opens, Came, opens, refuses, came, opened_image, table_laid, table_opens}
use Rattle.laying.proofs.Found.{table_ends}
use Rattle.demands.proofs.Tables.{found_table}
use Rattle.demands.proofs.Dimensions.{found_none, none_found}
use Rattle.demands.proofs.Writable.{named_writable, writable_named}
use Rattle.demands.proofs.Allowed.{refused_not, allowed_is, allowed_only}
use Rattle.demands.proofs.Writes.{Taken, with_data, taken_passed, taken_after, taken_others, taken_there, taken_stays, stays_put, refused_unchanged}
use Rattle.meaning.specs.Values.{passed}

module _ (d img : List ℕ) (m k : ℕ) (o : TableOffset) (n : ℕ) where
  -- what the write comes to, of an opened image
  range_opened : {ts : List Seat} {es : List Placed} {s : Slots} {total : ℕ} → Opens d img ts es s total
      → range_place d img m k o n ≡ range_of d img es o n (table_named m k ts)
  unfolding range_place range_in
  range_opened h = rw (opened_image h)

  module _ {ts : List Seat} {es : List Placed} {s : Slots} {total : ℕ} (h : Opens d img ts es s total) where
    -- accepted, of a table found: the range is good
    seat_good : (t : Seat) → table_named m k ts ≡ some t → place_verdict (range_of d img es o n (some t)) ≡ passed → RangeGood ours d img m k o.0 n
    unfolding range_of seat_place
    seat_good t e = go (t.size <? o.0 + n) refl
      where
        go : (b : Bool) → (t.size <? o.0 + n) ≡ b
            → place_verdict (if b then Err outside_table else allowed d img es t.item (t.start + o.0) n) ≡ passed
            → RangeGood ours d img m k o.0 n
        go true g v = absurd (refused_not _ v)
        go false g v =
            let a = allowed_only d img es t.item (t.start + o.0) n v in
            record {
              start = t.start;
              size = t.size;
              exists = table_laid h m k ∙ ap seat_place e;
              fits = ltb-false t.size (o.0 + n) g;
              allowed = writable_named (passed_laws d h.passes) img (found_table h e) a.marked;
              free = found_none h (t.start + o.0) n a.free;
            }

    -- accepted, whatever was found
    named_good : (x : Option Seat) → table_named m k ts ≡ x → place_verdict (range_of d img es o n x) ≡ passed → RangeGood ours d img m k o.0 n
    unfolding range_of
    named_good none e v = absurd (refused_not _ v)
    named_good (some t) e v = seat_good t e v

  -- accepted: the range is good
  range_good : place_verdict (range_place d img m k o n) ≡ passed → RangeGood ours d img m k o.0 n
  unfolding range_place range_in
  range_good v = go (came d img)
    where
      go : Came d img → RangeGood ours d img m k o.0 n
      go (opens ts es s total h) = named_good h (table_named m k ts) refl (rw (range_opened h) at v)
      go (refuses r e) = absurd (refused_not r (rw e at v))

  -- good: the range is the write's place
  range_taken : (data' : ℕ → List ℕ) → length (data' n) ≡ n → (g : RangeGood ours d img m k o.0 n)
      → Taken d img (range_place d img m k o n) data' (g.start + o.0) n
  unfolding range_of
  range_taken data' long g =
      let w = table_opens d img m k g.start g.size g.exists in
      let h = w.opens in
      let t = w.at.seat in
      let free = none_found h (g.start + o.0) n g.free in
      let marked = named_writable (passed_laws d h.passes) img (found_table h w.at.found) g.allowed in
      record {
        seats = w.seats;
        elements = w.elements;
        slots = w.slots;
        total = w.total;
        opens = h;
        is = range_opened h ∙ rw (w.at.found, le-ltb t.size (o.0 + n) (omega (arith, g.fits, w.at.size)), w.at.start)
            (allowed_is d img w.elements t.item (g.start + o.0) n (record { marked = marked; free = free }));
        long = long;
        inside = omega (arith, g.fits, table_ends w);
        free = free;
      }

-- WRITE A RANGE OF A TABLE
module _ (d img : List ℕ) (m k : ℕ) (o : TableOffset) (new : List ℕ) where
  -- a good range is the write's place
  taken : (g : RangeGood ours d img m k o.0 (length new)) → Taken d img (range_place d img m k o (length new)) (λ n. new) (g.start + o.0) (length new)
  taken = range_taken d img m k o (length new) (λ n. new) refl

  -- every table and element stands where it stood
  pub range_stays : StaysPut ours d img (write_range_image d img m k o new)
  unfolding write_range_image
  range_stays =
      rw with_data (stays_put (range_place d img m k o (length new)) (λ n. new)
      (λ v. let g = range_good d img m k o (length new) v in (g.start + o.0, length new, taken g)))

  -- every clause
  pub range_writes : RangeWrites ours d img m k o new
  unfolding write_range_reply write_range_image table_part_reply place_part
  range_writes =
      record {
        accepted = (range_good d img m k o (length new), λ g. taken_passed (taken g));
        read_back = λ v.
            let g = range_good d img m k o (length new) v in
            let t = taken g in
            rw (with_data, taken_after t, (taken_stays t).tables m k, g.exists)
            (part_part _ g.start g.size o.0 (length new) g.fits ∙ taken_there t);
        others = λ p n v e.
            let g = range_good d img m k o (length new) v in
            let same : g.start ≡ p = ap place_start (sym g.exists ∙ e) in
            rw (with_data, taken_after (taken g), ← same) (taken_others (taken g));
        unchanged = rw with_data (refused_unchanged img (range_place d img m k o (length new)) (λ n. new));
      }
