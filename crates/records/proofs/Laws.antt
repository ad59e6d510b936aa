-- What records bring, case by case. Assumes nothing.
use Prim.Native.Nat.{ℕ, zero, suc, ◌+◌, ◌-◌, ◌*◌, ◌/◌, ◌%◌, ◌^◌, ◌<◌, ◌≤◌}
use mathlib.Core.Path.{◌≡◌, refl, sym, ◌∙◌, ap, ap₂, subst}
use mathlib.Core.Bool.{Bool, true, false, ◌&&◌, and-true, and-false}
use mathlib.Core.Logic.{⊎_elim}
use mathlib.Core.List.{List, [], ◌∷◌, ◌++◌}
use lib.ListN.{length, get_or, take, drop, length-drop}
use lib.Seq.{length-take-le}
use native.Mathlib.Omega.{arith}
use Rattle.std.specs.Prelude.{Option, Some, None, map, if◌then◌else◌}
use Rattle.std.specs.Simd.{first_chunks}
use borrow.Author.Tests.{le-leb, lt-leb}
use Rattle.std.proofs.lemmas.List.{map_more, drop-drop}
use Rattle.almanac.proofs.Tests.{lt_or_ge}
use Rattle.almanac.proofs.Latest.{none_later}
use Rattle.meaning.specs.Basics.{◌=?◌, ◌≤?◌, part, number_in}
use Rattle.meaning.specs.Calendar.{triple_at, triples, entry_if, or_later, latest, record_real, record_day, action, selects_season, season_entry, special_entry}
use Rattle.meaning.specs.declared.Entry.{Entry}
use Rattle.meaning.specs.declared.Triple.{Triple}
use Rattle.meaning.proofs.Splices.{part_long, part_at, part_part}
use Rattle.basics.proofs.Bits.{from_bit_0}
use Rattle.octets.specs.Octets.{number_of}
use Rattle.octets.proofs.Laws.{number_few}
use Rattle.dates.specs.Days.{day_of}
use Rattle.records.specs.declared.Wanted.{Wanted}
use Rattle.records.specs.Records.{record_date, selected, brought_to, when_of, latest_in}
use Rattle.meaning.specs.Values.{Chosen, entry}

-- A RECORD
-- the two octets of its number, cut out
pub word_is : (o : ℕ) (xs : List ℕ) (at e number : ℕ) → e ≡ at + 2 → at + 3 ≤ length xs → number ≡ number_of o (take (e - at) (drop at xs)) → number ≡ number_in o (part xs at 2)
unfolding part
word_is o xs at e number h i n =
    let z : e - at ≡ 2 = omega arith in
    let l : length (part xs at 2) ≡ 2 = part_long xs at 2 ∙ omega arith in
    n ∙ rw z (sym (number_few o (part xs at 2) (omega arith)))

-- and it fits
pub word_fits : (xs : List ℕ) (at e number : ℕ) → e ≡ at + 2 → at + 3 ≤ length xs → number < 256 ^ length (take (e - at) (drop at xs)) → number < 65536
word_fits xs at e number h i n =
    let z : length (take (e - at) (drop at xs)) ≡ 2 = length-take-le (e - at) (drop at xs) (omega (arith, length-drop at xs)) ∙ omega arith in
    subst (λ (k : ℕ). number < 256 ^ k) z n

pub action_is : (r : Triple) → r.octet % 32 ≡ action r
unfolding action
action_is r = from_bit_0 r.octet 32

-- A DATE
-- what is brought by a date, where it is due, and by what its action selects
abbrev pub dated : (due : ℕ → Bool) → (date selected : Option ℕ) → Chosen
dated due (Some w) (Some x) = if due w then entry w x else None
dated due (Some w) None = None
dated due None x = None

dated_is : (due : ℕ → Bool) (w x : ℕ) (real a b : Bool) → entry_if (real && due w && a && b) w x ≡ dated due (if real then Some w else None) (if a && b then Some x else None)
dated_is due w x false a b = refl
dated_is due w x true false b = rw and-false
dated_is due w x true true false = rw and-false
dated_is due w x true true true = simp and-true

pub season_is : (today : ℕ) (r : Triple) → season_entry today r ≡ dated (λ w. w ≤? today) (record_date r) (selected 3 18 (r.octet % 32))
unfolding season_entry selects_season record_date record_real record_day selected day_of
season_is today r = rw action_is (dated_is (λ w. w ≤? today) _ _ _ _ _)

pub special_is : (today : ℕ) (r : Triple) → special_entry today r ≡ dated (λ w. w =? today) (record_date r) (selected 19 30 (r.octet % 32))
unfolding special_entry record_date record_real record_day selected day_of
special_is today r = rw action_is (dated_is (λ w. w =? today) _ _ _ _ _)

-- RECORDS OF A TABLE, cut out of it
module _ (o : ℕ) (t : List ℕ) (at m : ℕ) (inside : at + m ≤ length t) where
  triple_part : (k : ℕ) → k + 3 ≤ m → triple_at o (part t at m) k ≡ triple_at o t (at + k)
  unfolding triple_at
  triple_part k h = let z : at + (k + 2) ≡ at + k + 2 = omega arith in rw (part_part t at m k 2 (omega arith), part_at t at m (k + 2) (omega arith), z)

  triples_part : (k n : ℕ) → k + 3 * n ≤ m → triples o (part t at m) k n ≡ triples o t (at + k) n
  unfolding triples
  triples_part k zero h = refl
  triples_part k (suc n) h =
      let z : at + k + 3 ≡ at + (k + 3) = omega arith in
      ap₂ (λ (r : Triple) (rs : List Triple). r ∷ rs) (triple_part k (omega arith)) (triples_part (k + 3) n (omega arith) ∙ ap (λ (p : ℕ). triples o t p n) (sym z))

-- THE LATEST, from the first record on
-- of two records, by one comparison
pub later_by_when : (a : Chosen) (e : Entry) → or_later a (Some e) ≡ (if when_of a ≤? e.when then Some e else a)
unfolding or_later when_of
later_by_when None e = rw (le-leb 0 e.when (omega arith))
later_by_when (Some x) e = refl

or_later_assoc : (a b c : Chosen) → or_later (or_later a b) c ≡ or_later a (or_later b c)
unfolding or_later
or_later_assoc None b c = refl
or_later_assoc (Some e) None c = refl
or_later_assoc (Some e) (Some w) None = none_later _
or_later_assoc (Some e) (Some w) (Some y) =
    ⊎_elim
    (λ p. ⊎_elim (λ q. rw (lt-leb e.when w.when p, lt-leb w.when y.when q, lt-leb e.when w.when p, lt-leb e.when y.when (omega arith))) (λ q. rw (lt-leb e.when w.when p, le-leb w.when y.when q)) (lt_or_ge y.when w.when))
    (λ p. ⊎_elim (λ q. rw (le-leb e.when w.when p, lt-leb w.when y.when q, le-leb e.when w.when p)) (λ q. rw (le-leb e.when w.when p, le-leb w.when y.when q, le-leb e.when y.when (omega arith))) (lt_or_ge y.when w.when))
    (lt_or_ge w.when e.when)

latest_more : (f : Triple → Chosen) (rs : List Triple) (r : Triple) → latest f (rs ++ r ∷ []) ≡ or_later (latest f rs) (f r)
unfolding latest or_later
latest_more f [] r = none_later (f r)
latest_more f (s ∷ rs) r = rw (latest_more f rs r) (sym (or_later_assoc (f s) (latest f rs) (f r)))

-- of whole records, the latest of the first so many
module _ (o : ℕ) (w : Wanted) where
  abbrev pub latest_of : List (List ℕ) → Chosen
  latest_of whole = latest (brought_to w) (map (λ r. triple_at o r 0) whole)

  -- one record more
  pub latest_next : (whole : List (List ℕ)) (k : ℕ) → k < length whole
      → or_later (latest_of (take k whole)) (brought_to w (triple_at o (get_or whole k []) 0)) ≡ latest_of (take (k + 1) whole)
  latest_next whole k h = rw (map_more _ whole k [] h) (sym (latest_more (brought_to w) _ _))

  -- whole records are those that a table is cut into
  records_of : (t : List ℕ) (at n : ℕ) → at + 3 * n ≤ length t → map (λ r. triple_at o r 0) (first_chunks 3 n (drop at t)) ≡ triples o t at n
  unfolding triples part
  records_of t at zero h = refl
  records_of t at (suc n) h =
      let z : at + 0 ≡ at = omega arith in
      ap₂ (λ (r : Triple) (rs : List Triple). r ∷ rs) (triple_part o t at 3 (omega arith) 0 (omega arith) ∙ ap (triple_at o t) z)
      (rw drop-drop (records_of t (at + 3) n (omega arith)))

  -- all of them
  pub latest_whole : (xs : List ℕ) → latest_of (first_chunks 3 (length xs / 3) xs) ≡ latest_in o xs w
  unfolding latest_in
  latest_whole xs = ap (latest (brought_to w)) (records_of xs 0 (length xs / 3) (omega arith))

pub latest_part : (o : ℕ) (t : List ℕ) (at n : ℕ) (w : Wanted) → at + 3 * n ≤ length t → latest_in o (part t at (3 * n)) w ≡ latest (brought_to w) (triples o t at n)
unfolding latest_in
latest_part o t at n w h =
    let l : length (part t at (3 * n)) / 3 ≡ n = ap (λ (k : ℕ). k / 3) (part_long t at (3 * n)) ∙ omega arith in
    let z : at + 0 ≡ at = omega arith in
    rw l (ap (latest (brought_to w)) (triples_part o t at (3 * n) h 0 n (omega arith) ∙ ap (λ (p : ℕ). triples o t p n) z))
