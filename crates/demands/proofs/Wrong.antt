-- The wrong programs of specs/Wrong.antt break their clauses: what a clause says of our replies doesn't mention whose they are, so it says it of theirs. Assumes nothing.
use Prim.Native.Nat.{ℕ, ◌≤◌}
use mathlib.Core.Path.{◌≡◌, refl, sym, ◌∙◌, ap, subst}
use mathlib.Core.Bool.{true, true≢false}
use mathlib.Core.List.{List, [], ◌∷◌}
use lib.ListN.{length}
use native.Mathlib.Omega.{arith}
use Rattle.meaning.specs.Basics.{part}
use Rattle.meaning.specs.declared.ElementName.{ElementName}
use Rattle.meaning.specs.declared.Date.{Date}
use Rattle.meaning.specs.declared.Moment.{Moment}
use Rattle.meaning.specs.declared.Quantity.{Quantity}
use Rattle.meaning.specs.Description.{check_reply, fields_at, is_uint, is_dimension}
use Rattle.meaning.specs.Examples.{D, D_writable, first, second, at, offset, clock, clock_image, moment, date}
use Rattle.meaning.specs.Layout.{number_at}
use Rattle.meaning.specs.Questions.{refusal_in}
use Rattle.meaning.specs.Refusals.{place_reply, layout_reply, element_place_reply, place_start, place_length}
use Rattle.meaning.specs.Calendar.{tier_reply, seasoned_reply, matrix_verdict}
use Rattle.meaning.proofs.Computing.{computing}
use Rattle.demands.specs.Demand3.{AllInside, ElementsStand, length_in}
use Rattle.demands.specs.Replies.{Replies, ours, octets_at, alone}
use Rattle.demands.specs.Walk.{numbers_in, exists}
use Rattle.demands.specs.Wrong.{TotalsOfD, CalendarRead, two_seasons, WrongPrograms}
use Rattle.demands.proofs.Calendar.{tier_says, seasoned_says}
use Rattle.demands.proofs.Demand3.{demand_3}
use Rattle.meaning.proofs.Either.{clash}
use Rattle.std.specs.Prelude.{Ok}
use Rattle.meaning.specs.Values.{passed}
use Rattle.meaning.specs.declared.Answer.{Answer}

-- OUR REPLIES, COMPUTED
D_passed : check_reply D ≡ passed
unfolding computing
D_passed = refl

first_total : layout_reply D first ≡ Ok (Answer.Total 8)
unfolding computing
first_total = refl

second_total : layout_reply D second ≡ Ok (Answer.Total 6)
unfolding computing
second_total = refl

-- six octets of zero, of which only the first two are a table's
abbrev zeros : List ℕ
zeros = 0 ∷ 0 ∷ 0 ∷ 0 ∷ 0 ∷ 0 ∷ []

zeros_total : layout_reply D zeros ≡ Ok (Answer.Total 2)
unfolding computing
zeros_total = refl

block_there : element_place_reply D first (alone 5) ≡ octets_at 2 2
unfolding computing
block_there = refl

number_there : element_place_reply D first (at 7 0) ≡ octets_at 4 2
unfolding computing
number_there = refl

half_past : tier_reply (clock 12) clock_image (moment 2024 3 5 7 30) Quantity.Summations ≡ Ok (Answer.Tier 2)
unfolding computing
half_past = refl

clock_had : matrix_verdict (clock 12) clock_image ≡ passed
unfolding computing
clock_had = refl

stands_not : seasoned_reply (clock 12) clock_image (date 2023 12 31) ≡ Ok Answer.No
unfolding computing
stands_not = refl

stands_that_day : seasoned_reply (clock 12) clock_image (date 2024 1 1) ≡ Ok Answer.Yes
unfolding computing
stands_that_day = refl

two_had : matrix_verdict (clock 15) two_seasons ≡ passed
unfolding computing
two_had = refl

day_before : tier_reply (clock 15) two_seasons (moment 2023 12 31 0 0) Quantity.Summations ≡ Ok (Answer.Tier 0)
unfolding computing
day_before = refl

that_day : tier_reply (clock 15) two_seasons (moment 2024 1 1 0 0) Quantity.Summations ≡ Ok (Answer.Tier 2)
unfolding computing
that_day = refl

-- what isn't written reads as it was
unwritten : part (part first 2 6) 0 2 ≡ 1 ∷ 2 ∷ [] → ⊥
unfolding part
unwritten e = let z : ◌≡◌ {A = ℕ} 0xAA 1 = cc in omega arith

unwritten_octets : part first 2 2 ≡ 1 ∷ 2 ∷ [] → ⊥
unfolding part
unwritten_octets e = let z : ◌≡◌ {A = ℕ} 0xAA 1 = cc in omega arith

unwritten_number : number_at first 4 2 ≡ 0x1234
unfolding computing
unwritten_number = refl

integer : is_uint (fields_at D 7) ≡ true
unfolding computing
integer = refl

dimension : is_dimension (fields_at D_writable 2) ≡ true
unfolding computing
dimension = refl

-- one place starts at one octet
place_start_lem : (p q n m : ℕ) → octets_at p n ≡ octets_at q m → p ≡ q
place_start_lem p q n m e = ap place_start e

-- D's images lay out, up to where our totals say
laid : (img : List ℕ) (n : ℕ) → length img ≤ 65535 → layout_reply D img ≡ Ok (Answer.Total n) → AllInside D img n
laid img n l e = ((demand_3 D img).total_exactly (record { passes = D_passed; allowed = l }) n).0 e

-- AN ELEMENT THAT STANDS SOMEWHERE is one that there is, and as long as its item says
module _ (R : Replies) (d img : List ℕ) (total : ℕ) (stand : ElementsStand R d img total) where
  is_there : (q : ElementName) (p n : ℕ) → R.element_place d img q ≡ octets_at p n → exists d (numbers_in d img) q ≡ true
  unfolding refusal_in place_reply
  is_there q p n e = ((stand.no_element q).granted.0 (rw e)).0

  as_long : (q : ElementName) (p n : ℕ) → R.element_place d img q ≡ octets_at p n → n ≡ length_in d (numbers_in d img) q.item
  as_long q p n e = let t = stand.there q (is_there q p n e) in ap place_length (sym e ∙ t.1)

-- D's elements stand, by our replies
D_stands : ElementsStand ours D first 8
D_stands = (demand_3 D first).elements_stand 8 first_total

number_is : exists D (numbers_in D first) (at 7 0) ≡ true
number_is = is_there ours D first 8 D_stands (at 7 0) 4 2 number_there

-- A CALENDAR READ ALIKE, which can be had, is answered as by us
module _ (R : Replies) (d img : List ℕ) (had : matrix_verdict d img ≡ passed) (c : CalendarRead R d img) where
  tier_alike : (w : Moment) (q : Quantity) (x : ℕ) → tier_reply d img w q ≡ Ok (Answer.Tier x) → R.tier d img w q ≡ Ok (Answer.Tier x)
  tier_alike w q x e =
      let told = rw (c.table51, c.table54, c.had, ← had) at (c.tier w q) in
      (told.tier x).1 (((tier_says d img w q).tier x).0 e)

  yes_alike : (t : Date) → seasoned_reply d img t ≡ Ok Answer.Yes → R.seasoned d img t ≡ Ok Answer.Yes
  yes_alike t e =
      let told = rw (c.table51, c.table54, c.had, ← had) at (c.seasoned t) in
      told.yes.1 ((seasoned_says d img t).yes.0 e)

  no_alike : (t : Date) → seasoned_reply d img t ≡ Ok Answer.No → R.seasoned d img t ≡ Ok Answer.No
  no_alike t e =
      let told = rw (c.table51, c.table54, c.had, ← had) at (c.seasoned t) in
      told.no.1 ((seasoned_says d img t).no.0 e)

module _ (R : Replies) where
  totals : TotalsOfD R → (img : List ℕ) (n : ℕ) → length img ≤ 65535 → layout_reply D img ≡ Ok (Answer.Total n) → R.layout D img ≡ Ok (Answer.Total n)
  totals t img n l e = (t.exactly img (record { passes = t.passes; allowed = l }) n).1 (laid img n l e)

  pub wrong_programs : WrongPrograms R
  wrong_programs =
      record {
        says_no = λ w c. w.no D (c.1 ((demand_3 D first).passed_exactly.0 D_passed));
        one_layout = λ w t.
            let a = totals t first 8 (omega arith) first_total in
            let b = totals t second 6 (omega arith) second_total in
            let same = w.same D first second in
            let z : ◌≡◌ {A = ℕ} 8 6 = cc in omega arith;
        not_walked = λ w t.
            let a = totals t second 6 (omega arith) second_total in
            let b = totals t zeros 2 (omega arith) zeros_total in
            let c = w.told D second in
            let e = w.told D zeros in
            let z : ◌≡◌ {A = ℕ} 6 2 = cc in omega arith;
        writes_no_range = λ w yes-said place reads writes.
            unwritten (subst (λ (xs : List ℕ). part xs 0 2 ≡ 1 ∷ 2 ∷ []) (reads.table 0 5 2 6 place)
            (subst (λ (img : List ℕ). part (R.table_part D img 0 5) 0 2 ≡ 1 ∷ 2 ∷ []) (w.range D first 0 5 (offset 0) (1 ∷ 2 ∷ [])) (writes.read_back yes-said)));
        writes_no_octets = λ w yes-said place reads writes.
            unwritten_octets (subst (λ (xs : List ℕ). xs ≡ 1 ∷ 2 ∷ []) (reads.element (alone 5) 2 2 place)
            (subst (λ (img : List ℕ). R.element_part D img (alone 5) ≡ 1 ∷ 2 ∷ []) (w.octets D first (alone 5) (1 ∷ 2 ∷ [])) (writes.read_back yes-said)));
        writes_no_number = λ w yes-said place reads writes.
            let back = subst (λ (img : List ℕ). R.element_number D img (at 7 0) ≡ Ok (Answer.Number 1)) (w.number D first (at 7 0) 1) (writes.read_back yes-said) in
            let told = reads.number (at 7 0) 4 2 place integer in
            let z : ◌≡◌ {A = ℕ} 0x1234 1 = cc (back, told, unwritten_number) in omega arith;
        padded = λ w stand. let t = stand.there (at 7 0) number_is in w.rest (at 7 0) (omega arith) _ _ t.1;
        stretched = λ w stand.
            let long = as_long R D first 8 stand (alone 5) 2 6 w.place in
            let ours-long = as_long ours D first 8 D_stands (alone 5) 2 2 block_there in
            omega (arith, long, ours-long);
        never_there = λ w stand. let t = stand.there (at 7 0) number_is in w.none D first (at 7 0) _ _ t.1;
        always_zero = λ w c.
            let told = tier_alike R (clock 12) clock_image clock_had c (moment 2024 3 5 7 30) Quantity.Summations 2 half_past in
            let zero = w.zero (clock 12) clock_image (moment 2024 3 5 7 30) Quantity.Summations 2 told in
            omega arith;
        writes_dimensions = λ w place there writes.
            let good = writes.accepted.0 w.accepted in
            let start : good.start ≡ 0 = place_start_lem good.start 0 good.size 2 (sym good.exists ∙ place) in
            true≢false (sym dimension ∙ good.free 1 (omega (arith, start)) (omega (arith, start)) (alone 2) (record { start = 1; size = 1; reply = there; from = omega arith; to = omega arith }));
        takes_earliest = λ w c.
            let told = tier_alike R (clock 15) two_seasons two_had c (moment 2023 12 31 0 0) Quantity.Summations 0 day_before in
            let wrong = w.tier Quantity.Summations in
            let z : ◌≡◌ {A = ℕ} 0 2 = cc (told, wrong) in omega arith;
        first_row = λ w c.
            let told = tier_alike R (clock 15) two_seasons two_had c (moment 2024 1 1 0 0) Quantity.Summations 2 that_day in
            let wrong = w.tier Quantity.Summations in
            let z : ◌≡◌ {A = ℕ} 2 0 = cc (told, wrong) in omega arith;
        from_the_next_day = λ w c. let told = yes_alike R (clock 12) clock_image clock_had c (date 2024 1 1) stands_that_day in let none = w.none in clash (cc (told, none));
        never_no = λ w c. w.yes (clock 12) clock_image (date 2023 12 31) (no_alike R (clock 12) clock_image clock_had c (date 2023 12 31) stands_not);
      }
