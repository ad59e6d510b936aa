-- OUR ANSWERS TO REQUESTS: refused by the first fault, else what the tables hold or 00, with the image that belongs to it. Over our tables' replies, whose refusals demand 1 tells. Assumes
-- nothing.
use Rattle.std.specs.Prelude.{if◌then◌else◌, Ok, Err}
use Prim.Native.Nat.{ℕ, zero, suc, ◌/◌, ◌%◌, ◌<◌, ◌≤◌}
use mathlib.Core.Path.{◌≡◌, refl, sym, ◌∙◌, ap, subst}
use mathlib.Core.Logic.{inl, inr}
use mathlib.Core.Bool.{Bool, true, false, not, ◌&&◌, ◌||◌}
use mathlib.Core.List.{List, [], ◌∷◌, ◌++◌, map}
use mathlib.Core.Option.{Option, some, none}
use borrow.Author.Tests.{ltb-true, ltb-false, eqb-true, ne_eqb, lt-ltb, le-ltb}
use lib.ListN.{length}
use native.Mathlib.Decide.{dec_lt}
use native.Mathlib.Omega.{arith}
use Rattle.offsets.specs.declared.TableOffset.{TableOffset}
use Rattle.meaning.specs.Basics.{◌=?◌, ◌<?◌, bits}
use Rattle.meaning.specs.declared.Fields.{Fields}
use Rattle.meaning.specs.declared.Refusal.{Refusal}
use Rattle.meaning.specs.Description.{word_at, fields_at, fields_of, table_of, uint_of, block_of, set_of, array_of, if_of, malformed, names_slot, is_table, is_table_named, table_given, item_count}
use Rattle.meaning.specs.Messages.{Request, full_read, offset_read, full_write, offset_write, RequestRead, is_request, not_request, request_in, MeterReply, refuses, reply_octets, reply_fits, sent, sent_reply}
use Rattle.meaning.specs.Messages.{other_size, write_table_reply, write_table_image, request_outcome, good_reply, code_of, unless_refused, answer_to, image_answered, serve_reply, serve_room, serve_image}
use Rattle.meaning.specs.Numbers.{image_too_long, image_short, outside_table, no_room}
use Rattle.meaning.specs.Passed.{OfRules}
use Rattle.meaning.specs.Questions as ask
use Rattle.meaning.specs.Questions.{outcome_of, refusal_in}
use Rattle.meaning.specs.Refusals.{verdict_reply, place_reply, place_length, layout_in, layout_reply, table_place_in, table_place_reply, place_part, table_part_reply, range_at, read_range_reply, read_range_part, write_range_reply, write_range_image}
use Rattle.meaning.proofs.Either.{tested, clash}
use Rattle.meaning.proofs.Passed.{check_says}
use Rattle.meaning.proofs.Splices.{part_long}
use Rattle.laying.proofs.Opened.{opening, total_laid}
use Rattle.almanac.proofs.Tests.{both_true}
use Rattle.demands.specs.Bench.{our_messages}
use Rattle.demands.specs.Given.{given, first_of}
use Rattle.demands.specs.Demand1.{ten, refusals_of}
use Rattle.demands.specs.Messages.{ReplyFits, maker_of, number_of, over_last, other_count, offset, empty, unknown, wrong_length, wrong_check, request_faults, code_in, tables_refuse, as_code, tables_faults, faults, Good, Answers, fits, does_not, WrittenReply, Serves}
use Rattle.demands.specs.Replies.{ours, outcome_by}
use Rattle.demands.proofs.Demand1.{demand_1}
use Rattle.demands.proofs.FirstGiven.{sound_given, test_first}
use Rattle.demands.proofs.Reading.{request_reads}
use Rattle.demands.proofs.Sending.{reply_written}
use Rattle.meaning.specs.Values.{Verdict, Place, Reply}
use Rattle.meaning.specs.declared.Answer.{Answer}

-- LISTS OF FAULTS: the first of two lists together
pub first_before : {A : Type 0} (xs ys : List (Option A)) (a : A) → first_of xs ≡ some a → first_of (xs ++ ys) ≡ some a
unfolding first_of
first_before [] ys a e = clash (cc)
first_before (none ∷ xs) ys a e = first_before xs ys a e
first_before (some b ∷ xs) ys a e = e

first_behind : {A : Type 0} (xs ys : List (Option A)) → first_of xs ≡ none → first_of (xs ++ ys) ≡ first_of ys
unfolding first_of
first_behind [] ys e = refl
first_behind (none ∷ xs) ys e = first_behind xs ys e
first_behind (some b ∷ xs) ys e = clash (cc)

-- and by their codes
first_coded : (xs : List (Option Refusal)) → first_of (map as_code xs) ≡ as_code (first_of xs)
unfolding first_of as_code
first_coded [] = refl
first_coded (none ∷ xs) = first_coded xs
first_coded (some r ∷ xs) = refl

coded_first : (x : Option Refusal) (xs : List (Option Refusal)) (c : ℕ) → as_code x ≡ some c → as_code (first_of (x ∷ xs)) ≡ some c
unfolding first_of as_code
coded_first none xs c e = clash (cc)
coded_first (some r) xs c e = e

-- THE TABLE OF AN ID
id_maker : (id : ℕ) → id ≤ 4095 → id / 2048 ≡ maker_of id
id_maker id h = tested (λ m. id / 2048 ≡ m) (id <? 2048) _ _ (λ e. let l = ltb-true id 2048 e in omega arith) (λ e. let l = ltb-false id 2048 e in omega arith)

id_number : (id : ℕ) → id ≤ 4095 → id % 2048 ≡ number_of id
id_number id h = tested (λ m. id % 2048 ≡ m) (id <? 2048) _ _ (λ e. let l = ltb-true id 2048 e in omega arith) (λ e. let l = ltb-false id 2048 e in omega arith)

-- a manufacturer over 1 has no table: the field is a bit
record Bit (f : Fields) : Type 0 where
  low : f.manufacturer ≤ 1

bit_of : (b : Bool) {x y : Fields} → Bit x → Bit y → Bit (if b then x else y)
bit_of true h k = h
bit_of false h k = k

none_bit : (f : Fields) → f.manufacturer ≡ 0 → Bit f
none_bit f e = record { low = omega arith }

own_bit : (b : Bool) (f : Fields) → f.manufacturer ≡ 0 → Bit (if b then f else malformed)
own_bit b f e = bit_of b (none_bit f e) (none_bit malformed refl)

table_bit : (w : ℕ) → Bit (table_of w)
unfolding table_of
table_bit w = record { low = omega arith }

maker_bit : (w : ℕ) → Bit (fields_of w)
unfolding fields_of uint_of block_of set_of array_of if_of
maker_bit w =
    let kind : ℕ → Bool = λ n. bits 31 28 w =? n in
    bit_of (kind 1) (table_bit w)
    (bit_of (kind 2) (own_bit (bits 27 26 w <? 3 && bits 19 0 w =? 0) _ refl)
    (bit_of (kind 3) (own_bit (0 <? bits 27 16 w && bits 15 0 w =? 0) _ refl)
    (bit_of (kind 4) (own_bit (names_slot w && bits 10 0 w =? 0) _ refl)
    (bit_of (kind 5) (own_bit (names_slot w && 0 <? bits 11 0 w) _ refl)
    (bit_of (kind 6) (own_bit (names_slot w && 0 <? bits 11 6 w) _ refl) (none_bit malformed refl))))))

none_named : (d : List ℕ) (n m k : ℕ) → 2 ≤ m → table_given d n m k ≡ false
unfolding table_given
none_named d zero m k h = refl
none_named d (suc j) m k h = go (is_table_named (fields_at d j) m k) refl (none_named d j m k h)
  where
    go : (b : Bool) → is_table_named (fields_at d j) m k ≡ b → table_given d j m k ≡ false → (b || table_given d j m k) ≡ false
    go false e rest = rest
    go true e rest =
        let f = fields_at d j in
        let named = (both_true (is_table f && f.manufacturer =? m) _ e).0 in
        let is = eqb-true f.manufacturer m (both_true (is_table f) _ named).1 in
        absurd (omega (arith, is, (maker_bit (word_at d j)).low))

module _ (d img : List ℕ) where
  -- where none has the manufacturer, what is asked of a table is refused, and not as 13
  none_there : (m k : ℕ) → 2 ≤ m → (rest : List (Option Refusal)) → as_code (first_of (refusal_in (layout_reply d img) ∷ ten d m k ∷ rest)) ≡ some 4
  unfolding as_code first_of refusal_in layout_reply layout_in ten given
  none_there m k h rest =
      opening d img (λ r e o. rw (o, of_rules r ((check_says d).nothing_else r e))) (λ p l o. rw o) (λ p l es i x e o. rw o)
      (λ ts es s n o. rw (total_laid o, none_named d (item_count d) m k h))
    where
      of_rules : (r : Refusal) → OfRules r → (r.number =? 13) ≡ false
      of_rules r (inl e) = rw e
      of_rules r (inr h) = ne_eqb r.number 13 (λ e. omega (arith, h.1))

  -- what is refused of a table is refused of a range written
  range_refused : (m k : ℕ) (o : TableOffset) (new : List ℕ) (r : Refusal) → table_place_reply d img m k ≡ Err r
      → refusal_in (verdict_reply (write_range_reply d img m k o new)) ≡ some r
  unfolding outcome_by refusals_of refusal_in place_reply
  range_refused m k o new r e =
      let asked = (demand_1 d img).asked in
      (asked (ask.write_range m k o new)).first
      ∙ first_before (refusal_in (layout_reply d img) ∷ ten d m k ∷ []) _ r (sym (asked (ask.table_place m k)).first ∙ rw e)

  -- A FULL WRITE: the table's own refusal, then 12, then the range's
  module _ (m k : ℕ) (new : List ℕ) where
    abbrev range : Verdict
    range = write_range_reply d img m k (offset 0) new

    abbrev refusals : Place → List (Option Refusal)
    refusals x = refusal_in (place_reply x) ∷ other_count (length new) (place_length x) ∷ refusal_in (verdict_reply range) ∷ []

    abbrev whole_refusals : List (Option Refusal)
    whole_refusals = refusals (table_place_reply d img m k)

    whole_first : refusal_in (verdict_reply (write_table_reply d img m k new)) ≡ first_of whole_refusals
    unfolding write_table_reply other_size other_count refusal_in place_reply verdict_reply first_of
    whole_first = go (table_place_reply d img m k) refl
      where
        go : (x : Place) → table_place_reply d img m k ≡ x → refusal_in (verdict_reply (if other_size (length new) x then Err outside_table else range)) ≡ first_of (refusals x)
        go (Ok w) e =
            test_first (λ v. refusal_in (verdict_reply v)) (not (length new =? w.length)) outside_table (Err outside_table) range (refusal_in (verdict_reply range) ∷ []) refl
            (sound_given (refusal_in (verdict_reply range)))
        go (Err r) e = range_refused m k (offset 0) new r e

    -- where it isn't refused, the range is written; where it is, nothing
    whole_image : refusal_in (verdict_reply (write_table_reply d img m k new)) ≡ none → write_table_image d img m k new ≡ write_range_image d img m k (offset 0) new
    unfolding write_table_reply write_table_image refusal_in verdict_reply
    whole_image e = go (other_size (length new) (table_place_reply d img m k)) e
      where
        go : (b : Bool) → refusal_in (verdict_reply (if b then Err outside_table else range)) ≡ none
            → (if b then img else write_range_image d img m k (offset 0) new) ≡ write_range_image d img m k (offset 0) new
        go true e = clash (cc)
        go false e = refl

    whole_kept : (r : Refusal) → refusal_in (verdict_reply (write_table_reply d img m k new)) ≡ some r → write_table_image d img m k new ≡ img
    unfolding write_table_reply write_table_image refusal_in verdict_reply outcome_by
    whole_kept r e = go (other_size (length new) (table_place_reply d img m k)) e
      where
        go : (b : Bool) → refusal_in (verdict_reply (if b then Err outside_table else range)) ≡ some r → (if b then img else write_range_image d img m k (offset 0) new) ≡ img
        go true e = refl
        go false e = ((demand_1 d img).asked (ask.write_range m k (offset 0) new)).unchanged r e

  -- BY THE TABLE ASKED: `told` is the first of the refusals `rest`, and never 13 where there is no such table
  record ByTable (rest : ℕ → ℕ → List (Option Refusal)) (told : ℕ → ℕ → Option Refusal) : Type 0 where
    first : (m k : ℕ) → told m k ≡ first_of (rest m k)
    absent : (m k : ℕ) → 2 ≤ m → as_code (told m k) ≡ some 4

  -- by its id: one over the last is refused with the same code
  module _ {rest : ℕ → ℕ → List (Option Refusal)} {told : ℕ → ℕ → Option Refusal} (t : ByTable rest told) (id : ℕ) where
    by_id : as_code (first_of (over_last id ∷ rest (maker_of id) (number_of id))) ≡ as_code (told (id / 2048) (id % 2048))
    unfolding over_last given first_of as_code
    by_id = go (dec_lt 4095 id)
      where
        go : Dec (4095 < id) → as_code (first_of (over_last id ∷ rest (maker_of id) (number_of id))) ≡ as_code (told (id / 2048) (id % 2048))
        go (yes l) = rw (lt-ltb 4095 id l, t.absent (id / 2048) (id % 2048) (omega arith))
        go (no l) = rw (le-ltb 4095 id (omega arith), id_maker id (omega arith), id_number id (omega arith), t.first (maker_of id) (number_of id))

    -- what isn't refused has a table
    named : told (id / 2048) (id % 2048) ≡ none → (id / 2048 ≡ maker_of id) × (id % 2048 ≡ number_of id)
    unfolding as_code
    named e = go (dec_lt 4095 id)
      where
        go : Dec (4095 < id) → (id / 2048 ≡ maker_of id) × (id % 2048 ≡ number_of id)
        go (yes l) = let c = t.absent (id / 2048) (id % 2048) (omega arith) in clash (cc)
        go (no l) = (id_maker id (omega arith), id_number id (omega arith))

  -- each request's question
  abbrev Alone : (ℕ → ℕ → Option Refusal) → Type 0
  Alone told = ByTable (λ m k. told m k ∷ []) told

  table_asked : Alone (λ m k. refusal_in (place_reply (table_place_reply d img m k)))
  unfolding outcome_by refusals_of
  table_asked = record { first = λ m k. sound_given _; absent = λ m k h. ap as_code ((demand_1 d img).asked (ask.table_place m k)).first ∙ none_there m k h [] }

  read_asked : (o n : ℕ) → Alone (λ m k. refusal_in (place_reply (read_range_reply d img m k (offset o) n)))
  unfolding outcome_by refusals_of
  read_asked o n =
      record { first = λ m k. sound_given _; absent = λ m k h. ap as_code ((demand_1 d img).asked (ask.read_range m k (offset o) n)).first ∙ none_there m k h _ }

  write_asked : (o : ℕ) (new : List ℕ) → Alone (λ m k. refusal_in (verdict_reply (write_range_reply d img m k (offset o) new)))
  unfolding outcome_by refusals_of
  write_asked o new =
      record { first = λ m k. sound_given _; absent = λ m k h. ap as_code ((demand_1 d img).asked (ask.write_range m k (offset o) new)).first ∙ none_there m k h _ }

  whole_asked : (new : List ℕ) → ByTable (λ m k. whole_refusals m k new) (λ m k. refusal_in (verdict_reply (write_table_reply d img m k new)))
  whole_asked new =
      record { first = λ m k. whole_first m k new; absent = λ m k h. ap as_code (whole_first m k new) ∙ coded_first _ _ 4 (table_asked.absent m k h) }

  -- WHAT A REQUEST COMES TO
  record Comes (q : Request) : Type 0 where
    code : as_code (first_of (tables_refuse ours d img q)) ≡ as_code (refusal_in (request_outcome d img q).reply)
    good : refusal_in (request_outcome d img q).reply ≡ none → Good ours d img q (good_reply q (request_outcome d img q).octets) (request_outcome d img q).image
    kept : (r : Refusal) → refusal_in (request_outcome d img q).reply ≡ some r → (request_outcome d img q).image ≡ img

  comes : (q : Request) → Comes q
  unfolding request_outcome outcome_of tables_refuse good_reply outcome_by
  comes (full_read id) =
      record { code = by_id table_asked id; good = λ e. let t = named table_asked id e in (rw (t.0, t.1), refl); kept = λ r e. refl }
  comes (offset_read id o n) =
      record { code = by_id (read_asked o n) id; good = λ e. let t = named (read_asked o n) id e in (rw (t.0, t.1), refl); kept = λ r e. refl }
  comes (full_write id new) =
      record {
        code = by_id (whole_asked new) id;
        good = λ e. let t = named (whole_asked new) id e in (refl, whole_image _ _ new e ∙ rw (t.0, t.1));
        kept = λ r e. whole_kept _ _ new r e;
      }
  comes (offset_write id o new) =
      record {
        code = by_id (write_asked o new) id;
        good = λ e. let t = named (write_asked o new) id e in (refl, rw (t.0, t.1));
        kept = λ r e. ((demand_1 d img).asked (ask.write_range (id / 2048) (id % 2048) (offset o) new)).unchanged r e;
      }

  -- A REPLY'S NUMBERS ALWAYS FIT
  -- a part of the image, which is of at most 65,535 octets if it isn't refused
  part_short : (x : Place) → length (place_part img x) ≤ length img
  unfolding place_part
  part_short (Ok e) = omega (arith, part_long img e.start.0 e.length)
  part_short (Err r) = omega arith

  module _ (of : Place → Place) (still : (r : Refusal) → of (Err r) ≡ Err r) (m k : ℕ) where
    part_fits : length (place_part img (of (table_place_reply d img m k))) ≤ 65535
    unfolding table_place_reply table_place_in place_part
    part_fits =
        opening d img (λ r e o. rw (o, still r) (omega arith)) (λ p l o. rw (o, still image_too_long) (omega arith))
        (λ p l es i x e o. rw (o, still (image_short i x)) (omega arith)) (λ ts es s n o. omega (arith, part_short (of (table_place_reply d img m k)), o.allowed))

  code_fits : (r : Refusal) → ReplyFits (refuses (code_of r))
  unfolding code_of
  code_fits r = tested (λ c. (1 ≤ c) × (c ≤ 4)) (r.number =? 13) _ _ (λ e. (omega arith, omega arith)) (λ e. (omega arith, omega arith))

  good_fits : (q : Request) → ReplyFits (good_reply q (request_outcome d img q).octets)
  unfolding good_reply request_outcome outcome_of table_part_reply read_range_part read_range_reply range_at
  good_fits (full_read id) = part_fits (λ x. x) (λ r. refl) (id / 2048) (id % 2048)
  good_fits (offset_read id o n) = part_fits (range_at (offset o) n) (λ r. refl) (id / 2048) (id % 2048)
  good_fits (full_write id new) = tt
  good_fits (offset_write id o new) = tt

  -- OCTETS AS THEY ARE READ: a code of a request itself fits
  code_of_lem : (p q r s : Bool) (c : ℕ) → first_of (given p 1 ∷ given q 2 ∷ given r 1 ∷ given s 1 ∷ []) ≡ some c → ReplyFits (refuses c)
  unfolding first_of given
  code_of_lem true q r s c e = let same : 1 ≡ c = cc in (omega arith, omega arith)
  code_of_lem false true r s c e = let same : 2 ≡ c = cc in (omega arith, omega arith)
  code_of_lem false false true s c e = let same : 1 ≡ c = cc in (omega arith, omega arith)
  code_of_lem false false false true c e = let same : 1 ≡ c = cc in (omega arith, omega arith)
  code_of_lem false false false false c e = clash (cc)

  module _ (xs : List ℕ) where
    own_code : (c : ℕ) → first_of (request_faults xs) ≡ some c → ReplyFits (refuses c)
    unfolding request_faults empty unknown wrong_length wrong_check
    own_code c e = code_of_lem _ _ _ _ c e

    answer_fits : (r : RequestRead) → request_in xs ≡ r → ReplyFits (answer_to d img r)
    unfolding answer_to unless_refused code_in
    answer_fits (not_request c) e = own_code c (sym (request_reads xs).refused ∙ ap code_in e)
    answer_fits (is_request q) e = go (refusal_in (request_outcome d img q).reply)
      where
        go : (x : Option Refusal) → ReplyFits (unless_refused x (good_reply q (request_outcome d img q).octets))
        go none = good_fits q
        go (some r) = code_fits r

    -- the first fault of all, of octets that are no request, and of a request
    own_fault : (c : ℕ) → request_in xs ≡ not_request c → first_of (faults our_messages ours d img xs) ≡ some c
    unfolding faults code_in
    own_fault c e = first_before (request_faults xs) _ c (sym (request_reads xs).refused ∙ ap code_in e)

    tables_fault : (q : Request) → request_in xs ≡ is_request q → first_of (faults our_messages ours d img xs) ≡ as_code (refusal_in (request_outcome d img q).reply)
    unfolding faults code_in tables_faults
    tables_fault q e =
        first_behind (request_faults xs) (tables_faults ours d img (request_in xs)) (sym (request_reads xs).refused ∙ ap code_in e)
        ∙ rw e (first_coded (tables_refuse ours d img q)) ∙ (comes q).code

    answers : (r : RequestRead) → request_in xs ≡ r → Answers our_messages ours d img xs (answer_to d img r) (image_answered d img r)
    unfolding answer_to image_answered unless_refused as_code code_of
    answers (not_request b) e =
        let f = own_fault b e in
        record { refused = λ c t. (let same : b ≡ c = cc in ap refuses same, refl); good = λ q t n. clash (cc) }
    answers (is_request p) e = go (refusal_in (request_outcome d img p).reply) refl
      where
        go : (x : Option Refusal) → refusal_in (request_outcome d img p).reply ≡ x
            → Answers our_messages ours d img xs (unless_refused x (good_reply p (request_outcome d img p).octets)) (request_outcome d img p).image
        go none g =
            let f = tables_fault p e ∙ ap as_code g in
            record {
              refused = λ c t. clash (cc);
              good = λ q t n. let same : p ≡ q = cc in subst (λ q. Good ours d img q (good_reply p (request_outcome d img p).octets) (request_outcome d img p).image) same ((comes p).good g);
            }
        go (some r) g =
            let f = tables_fault p e ∙ ap as_code g in
            record { refused = λ c t. (let same : code_of r ≡ c = cc in ap refuses same, (comes p).kept r g); good = λ q t n. clash (cc) }

    -- INTO THE ROOM: the image is written where the reply is
    pub serves : (room : List ℕ) → Serves our_messages ours d img xs room
    unfolding serve_reply serve_room serve_image sent_reply
    serves room =
        record {
          answer = answer;
          image = image_answered d img (request_in xs);
          answers = answers (request_in xs) refl;
          written = freed answer (answer_fits (request_in xs) refl) (reply_written answer room);
          after = λ n e. after n test e;
          unchanged = λ e. unchanged test e;
        }
      where
        answer : MeterReply
        answer = answer_to d img (request_in xs)

        test : Bool
        test = sent (reply_fits answer) (reply_octets answer) room

        freed : (a : MeterReply) {reply : Reply} {later : List ℕ} → ReplyFits a → WrittenReply (ReplyFits a) a room reply later → WrittenReply (Unit {0}) a room reply later
        freed a ok (fits f l s) = fits tt l s
        freed a ok (does_not (inl f) s) = absurd (f ok)
        freed a ok (does_not (inr l) s) = does_not (inr l) s

        after : (n : ℕ) (b : Bool) → (if b then Ok (Answer.Total (length (reply_octets answer))) else Err no_room) ≡ Ok (Answer.Total n)
            → (if b then image_answered d img (request_in xs) else img) ≡ image_answered d img (request_in xs)
        after n true e = refl
        after n false e = clash (cc)

        unchanged : (b : Bool) → (if b then Ok (Answer.Total (length (reply_octets answer))) else Err no_room) ≡ Err no_room
            → (if b then image_answered d img (request_in xs) else img) ≡ img
        unchanged true e = clash (cc)
        unchanged false e = refl
