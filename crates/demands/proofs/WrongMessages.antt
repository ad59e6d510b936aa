-- The wrong programs of specs/Wrong.antt that answer messages break their clauses. Assumes nothing.
use Prim.Native.Nat.{ℕ, ◌+◌, ◌<◌, ◌≤◌}
use mathlib.Core.Path.{◌≡◌, refl, sym, ◌∙◌, ap, subst}
use mathlib.Core.Logic.{inl, inr}
use mathlib.Core.List.{List, [], ◌∷◌, ◌++◌}
use mathlib.Core.Option.{Option, some, none}
use lib.ListN.{length, get_or, take}
use lib.Seq.{get_or-take}
use native.Mathlib.Omega.{arith}
use Rattle.meaning.specs.Examples.{D, first}
use Rattle.meaning.specs.Messages.{Request, full_read, full_write, offset_write, is_request, MeterReply, done, refuses, sum_of}
use Rattle.meaning.specs.Numbers.{no_room}
use Rattle.meaning.specs.Questions.{refusal_in}
use Rattle.meaning.specs.Refusals.{table_part_reply, write_range_image}
use Rattle.meaning.proofs.Computing.{computing}
use Rattle.demands.specs.Bench.{Messages}
use Rattle.demands.specs.Given.{first_of}
use Rattle.demands.specs.Messages.{two, Data, RequestForm, ReplyForm, reply_long, reply_data, is_known, length_by, checks, checks_by, request_faults, Stands, fits, does_not, Written, WritesRequest, WrittenReply}
use Rattle.demands.specs.Messages.{over_last, other_count, offset, tables_refuse, as_code, tables_faults, faults, Good}
use Rattle.demands.specs.Replies.{ours}
use Rattle.demands.proofs.Reading.{faulting}
use Rattle.demands.specs.Wrong.{read_5, read_2053, write_5, write_0, ten_zeros, OverD, WrongMessages}
use Rattle.std.specs.Prelude.{Ok, Err}
use Rattle.meaning.specs.Values.{Reply}
use Rattle.meaning.specs.declared.Answer.{Answer}

-- WHAT FITS STANDS IN THE ROOM
stands : {F : Type 0} {Form : List ℕ → Type 0} {long : ℕ} {new room : List ℕ} {reply : Reply} {later : List ℕ} → Written F Form long new room reply later → F → long ≤ length room
    → Stands Form long new room reply later
stands (fits f l s) ok enough = s
stands (does_not (inl f) s) ok enough = absurd (f ok)
stands (does_not (inr l) s) ok enough = absurd (omega arith)

-- THE REQUESTS' FORMS
seven_at : (xs : List ℕ) (at : ℕ) → two xs at ≡ 1 → get_or xs (at + 2) 0 ≡ 7 → get_or xs (at + 3) 0 ≡ 0xF9 → length xs ≡ at + 4 → Data xs at (7 ∷ [])
unfolding sum_of
seven_at xs at count seven check ends =
    let e : at + 2 + 1 ≡ at + 3 = omega arith in
    record {
      count = count;
      same = λ i l. let z : i ≡ 0 = omega arith in let f : at + 2 + 0 ≡ at + 2 = omega arith in rw (z, f, seven);
      check = rw (e, check);
      octet = rw (e, check) (omega arith);
      ends = omega arith;
    }

-- WHAT FAULTS EACH HAS, computed
unfoldable asking : Unit {0}
unfolding refusal_in is_known length_by checks_by checks sum_of tables_faults tables_refuse over_last other_count as_code
asking = tt

abbrev Fault : (xs : List ℕ) → Request → Option ℕ
Fault xs q = first_of (request_faults xs ++ tables_faults ours D first (is_request q))

fault_5 : Fault read_5 (full_read 5) ≡ none
unfolding faulting asking computing
fault_5 = refl

fault_2053 : Fault read_2053 (full_read 2053) ≡ some 4
unfolding faulting asking computing
fault_2053 = refl

fault_write : Fault write_5 (offset_write 5 0 (7 ∷ [])) ≡ none
unfolding faulting asking computing
fault_write = refl

fault_0 : Fault write_0 (full_write 0 (7 ∷ [])) ≡ some 4
unfolding faulting asking computing
fault_0 = refl

table_5 : length (table_part_reply D first 0 5) ≡ 6
unfolding computing
table_5 = refl

unwritten : first ≡ write_range_image D first 0 5 (offset 0) (7 ∷ []) → ⊥
unfolding computing
unwritten e = let z : ◌≡◌ {A = ℕ} 0xAA 7 = cc in omega arith

module _ (M : Messages) where
  -- the octets behind the id, of a full write of one octet
  record Behind (later : List ℕ) : Type 0 where
    high : get_or later 3 0 ≡ 0
    low : get_or later 4 0 ≡ 1
    check : get_or later 6 0 ≡ 0xF9

  written_behind : WritesRequest M (full_write 5 (7 ∷ [])) ten_zeros
      → (M.write_request (full_write 5 (7 ∷ [])) ten_zeros ≡ Ok (Answer.Total 7)) × Behind (M.request_room (full_write 5 (7 ∷ [])) ten_zeros)
  unfolding sum_of
  written_behind w =
      let s = stands w (omega arith, omega arith) (omega arith) in
      let later = M.request_room (full_write 5 (7 ∷ [])) ten_zeros in
      let at : (i : ℕ) → i < 7 → get_or (take 7 later) i 0 ≡ get_or later i 0 = λ i l. get_or-take 7 later i 0 l in
      let data-there = s.form.2 in (
        s.total,
        record {
          high = omega (arith, data-there.count, at 3 (omega arith), at 4 (omega arith));
          low = omega (arith, data-there.count, at 3 (omega arith), at 4 (omega arith));
          check = omega (arith, data-there.check, data-there.octet, at 6 (omega arith));
        },
      )

  -- octets that are a request are served by it
  module _ {xs room : List ℕ} (o : OverD M xs room) (q : Request) (form : RequestForm xs q) where
    is_read : M.read_request xs ≡ is_request q
    is_read = (o.read.good q).1 form

    fault_is : first_of (faults M ours D first xs) ≡ Fault xs q
    unfolding faults
    fault_is = rw is_read

    refused_by_lem : (c : ℕ) → Fault xs q ≡ some c → o.served.answer ≡ refuses c
    refused_by_lem c e = (o.served.answers.refused c (fault_is ∙ e)).0

    is_good : Fault xs q ≡ none → Good ours D first q o.served.answer o.served.image
    is_good e = o.served.answers.good q is_read (fault_is ∙ e)

  -- and stand in the room, where it is enough
  served_stands : {xs room : List ℕ} (o : OverD M xs room) (a : MeterReply) → o.served.answer ≡ a → reply_long a ≤ length room
      → Stands (λ xs. ReplyForm xs a) (reply_long a) (reply_data a) room (M.serve D first xs room) (M.served_room D first xs room)
  served_stands {xs} {room} o a e enough =
      stands (subst (λ a. WrittenReply (Unit {0}) a room (M.serve D first xs room) (M.served_room D first xs room)) e o.served.written) tt enough

  -- or are refused where it isn't
  no_room_lem : {xs : List ℕ} (o : OverD M xs []) → o.served.answer ≡ done → M.serve D first xs [] ≡ Err no_room
  no_room_lem {xs} o e = go (subst (λ a. WrittenReply (Unit {0}) a [] (M.serve D first xs []) (M.served_room D first xs [])) e o.served.written)
    where
      go : WrittenReply (Unit {0}) done [] (M.serve D first xs []) (M.served_room D first xs []) → M.serve D first xs [] ≡ Err no_room
      go (fits f l s) = absurd (omega arith)
      go (does_not f s) = s.refused

  pub wrong_messages : WrongMessages M
  unfolding sum_of
  wrong_messages =
      record {
        checks_count = λ w clause. let s = written_behind clause in let wrong = w.octet 5 (7 ∷ []) ten_zeros 7 s.0 in omega (arith, s.1.high, s.1.low, s.1.check, wrong);
        not_negated = λ w clause. let s = written_behind clause in let wrong = w.octet 5 (7 ∷ []) ten_zeros 7 s.0 in omega (arith, s.1.check, wrong);
        modulo = λ w a b.
            let five = served_stands a _ (is_good a (full_read 5) (refl, refl, refl) fault_5).0 (omega (arith, table_5)) in
            let none_there = served_stands b (refuses 4) (refused_by_lem b (full_read 2053) (refl, refl, refl) 4 fault_2053) (omega arith) in
            let same = w.same D first ten_zeros in
            let z : ◌≡◌ {A = ℕ} (4 + length (table_part_reply D first 0 5)) 1 = cc (five.total, none_there.total) in omega arith;
        writes_anyway = λ w a b.
            let q = offset_write 5 0 (7 ∷ []) in
            let form : RequestForm write_5 q = (refl, refl, refl, seven_at write_5 6 refl refl refl refl) in
            let good = is_good b q form fault_write in
            let stood = served_stands b done good.0 (omega arith) in
            let written = b.served.after 1 stood.total ∙ good.1 in
            unwritten (sym (a.served.unchanged (no_room_lem a (is_good a q form fault_write).0)) ∙ w.same D first write_5 (0 ∷ []) ∙ written);
        thirteen_first = λ w a.
            let s = served_stands a (refuses 4) (refused_by_lem a (full_write 0 (7 ∷ [])) (refl, refl, seven_at write_0 3 refl refl refl refl) 4 fault_0) (omega arith) in
            let z : ◌≡◌ {A = ℕ} 3 4 = sym (ap (λ xs. get_or (take 1 xs) 0 0) w.told) ∙ s.form.0 in omega arith;
      }
