-- OUR MESSAGES AS THEY ARE WRITTEN: the octets of a request or a reply have its form, and stand in the room, or are refused as 21. One law for both. Assumes nothing.
use Rattle.std.specs.Prelude.{if◌then◌else◌, Ok, Err}
use Prim.Native.Nat.{ℕ, ◌+◌, ◌*◌, ◌/◌, ◌%◌, ◌<◌, ◌≤◌}
use mathlib.Core.Path.{◌≡◌, refl, ◌∙◌, ap}
use mathlib.Core.Logic.{inl, inr}
use mathlib.Core.Bool.{Bool, true, false, ◌&&◌}
use mathlib.Core.List.{List, [], ◌∷◌, ◌++◌}
use borrow.Author.Tests.{leb-true, leb-false}
use lib.ListN.{length, get_or, take, drop, length-append, get_or-append}
use lib.Seq.{take-append_seam, get_or-append-add, get_or-append_seam}
use native.Mathlib.Omega.{arith}
use Rattle.meaning.specs.Basics.{◌≤?◌, splice, octets_least_first, octets_in}
use Rattle.meaning.specs.Messages.{check_octet, in_octets, counted, Request, full_read, offset_read, full_write, offset_write, request_octets, request_fits, MeterReply, holds, done, refuses, reply_octets, reply_fits, sent, sent_reply, sent_room}
use Rattle.meaning.specs.Numbers.{no_room}
use Rattle.meaning.proofs.Either.{clash}
use Rattle.meaning.proofs.Splices.{splice_long, splice_others}
use Rattle.laying.specs.Every.{Every}
use Rattle.laying.proofs.Every.{every_append}
use Rattle.demands.specs.Bench.{our_messages}
use Rattle.demands.specs.Messages.{Octets, Data, RequestForm, RequestFits, request_long, request_data, ReplyForm, ReplyFits, reply_long, reply_data, Written, fits, does_not, WritesRequest, WritesReply}
use Rattle.demands.proofs.Forms.{Kind, request_kind, reply_kind}
use Rattle.demands.proofs.Told.{Holds, onward, upto, both}
use Rattle.meaning.specs.declared.Answer.{Answer}

-- INTO THE ROOM
-- what is put first comes first
put_first : (room xs : List ℕ) → take (length xs) (splice room 0 xs) ≡ xs
unfolding splice
put_first room xs = take-append_seam xs (drop (0 + length xs) room)

module _ {A : Type 0} (Form : List ℕ → A → Type 0) (Fits : A → Type 0) (long : A → ℕ) (new : A → List ℕ) (kind : Kind Form Fits long new) (octets : A → List ℕ)
    (test : A → Bool) (tests : (a : A) → Holds (test a) (Fits a)) (made : (a : A) → Fits a → Form (octets a) a) (are : (a : A) → Fits a → Octets (new a) → Octets (octets a)) where
  pub sends : (a : A) (room : List ℕ)
      → Written (Fits a) (λ xs. Form xs a) (long a) (new a) room (sent_reply (test a) (octets a) room) (sent_room (test a) (octets a) room)
  unfolding sent_reply sent_room sent
  sends a room = go (test a) (length (octets a) ≤? length room) refl refl
    where
      go : (b c : Bool) → test a ≡ b → (length (octets a) ≤? length room) ≡ c
          → Written (Fits a) (λ xs. Form xs a) (long a) (new a) room (if b && c then Ok (Answer.Total (length (octets a))) else Err no_room)
          (if b && c then splice room 0 (octets a) else room)
      go true true e f =
          let ok = (tests a).0 e in
          let form = made a ok in
          let l = kind.as_long_lem _ a form in
          let enough : 0 + length (octets a) ≤ length room = omega (arith, leb-true (length (octets a)) (length room) f) in
          fits ok (omega arith)
          (record {
            total = ap (λ n. Ok (Answer.Total n)) l;
            form = rw (← l, put_first room (octets a)) form;
            octets = λ h. rw (← l, put_first room (octets a)) (are a ok h);
            others = rw (← l) (record { long = splice_long room 0 (octets a) enough; same = splice_others room 0 (octets a) enough });
          })
      go true false e f =
          let l = kind.as_long_lem _ a (made a ((tests a).0 e)) in
          let past = leb-false (length (octets a)) (length room) f in
          does_not (inr (omega arith)) (record { refused = refl; unchanged = refl })
      go false c e f = does_not (inl (λ h. let z = (tests a).1 h in clash (cc))) (record { refused = refl; unchanged = refl })

-- THE OCTETS OF A MESSAGE
-- numbers in two octets and in three
unfoldable opened : Unit {0}
unfolding octets_in octets_least_first counted request_octets reply_octets
opened = tt

in_two : (x : ℕ) → x ≤ 65535 → 256 * (x / 256 % 256) + x % 256 ≡ x
in_two x h = omega arith

in_three : (x : ℕ) → x ≤ 16777215 → 65536 * (x / 256 / 256 % 256) + 256 * (x / 256 % 256) + x % 256 ≡ x
in_three x h = omega arith

-- what stands behind the octets in front
behind : (front xs : List ℕ) (i p : ℕ) → p ≡ length front + i → get_or (front ++ xs) p 0 ≡ get_or xs i 0
behind front xs i p e = rw e (get_or-append-add front xs i 0)

-- data there
counted_form : (front new : List ℕ) → length new ≤ 65535 → Data (front ++ counted new) (length front) new
unfolding opened check_octet
counted_form front new h =
    let n = length new in
    let xs = counted new in
    let f = length front in
    let count : List ℕ = n / 256 % 256 ∷ n % 256 ∷ [] in
    let first = behind front xs 0 f (omega arith) in
    let second = behind front xs 1 (f + 1) refl in
    let there : (i : ℕ) → get_or (front ++ xs) (f + 2 + i) 0 ≡ get_or (new ++ check_octet new ∷ []) i 0 =
    λ i. behind front xs (2 + i) (f + 2 + i) (omega arith) ∙ behind count (new ++ check_octet new ∷ []) i (2 + i) refl in
    let last = there n ∙ get_or-append_seam new (check_octet new) [] 0 in
    record {
      count = omega (arith, first, second);
      same = λ i l. there i ∙ get_or-append new (check_octet new ∷ []) 0 i l;
      check = rw last (omega arith);
      octet = rw last (omega arith);
      ends = omega (arith, length-append front xs, length-append new (check_octet new ∷ []));
    }

pub request_made : (q : Request) → RequestFits q → RequestForm (request_octets q) q
unfolding opened
request_made (full_read id) h = (refl, in_two id h, refl)
request_made (offset_read id o n) h = (refl, in_two id h.0, in_three o h.1, in_two n h.2, refl)
request_made (full_write id new) h = (refl, in_two id h.0, counted_form (0x40 ∷ in_octets 2 id) new h.1)
request_made (offset_write id o new) h = (refl, in_two id h.0, in_three o h.1, counted_form (0x4F ∷ in_octets 2 id ++ in_octets 3 o) new h.2)

pub reply_made : (a : MeterReply) → ReplyFits a → ReplyForm (reply_octets a) a
unfolding opened
reply_made (holds new) h = (refl, counted_form (0x00 ∷ []) new h)
reply_made done h = (refl, refl)
reply_made (refuses c) h = (refl, h.0, h.1, refl)

-- THE TESTS OF FIELDS
three_fit : {a b c : Bool} {A B C : Type 0} → Holds a A → Holds b B → Holds c C → Holds (a && (b && c)) (A × B × C)
three_fit h k l = onward (both h (both k l)) (λ x. (x.0, x.1.0, x.1.1), λ x. (x.0, (x.1, x.2)))

request_tests : (q : Request) → Holds (request_fits q) (RequestFits q)
unfolding request_fits
request_tests (full_read id) = upto id 65535
request_tests (offset_read id o n) = three_fit (upto id 65535) (upto o 16777215) (upto n 65535)
request_tests (full_write id new) = both (upto id 65535) (upto (length new) 65535)
request_tests (offset_write id o new) = three_fit (upto id 65535) (upto o 16777215) (upto (length new) 65535)

pub reply_tests : (a : MeterReply) → Holds (reply_fits a) (ReplyFits a)
unfolding reply_fits
reply_tests (holds new) = upto (length new) 65535
reply_tests done = (λ e. tt, λ h. refl)
reply_tests (refuses c) = both (upto 1 c) (upto c 4)

-- WHAT IS WRITTEN ARE OCTETS
counted_are : (new : List ℕ) → Octets new → Octets (counted new)
unfolding opened check_octet Every
counted_are new h = (omega arith, (omega arith, every_append (λ x. x < 256) new (check_octet new ∷ []) h (omega arith, tt)))

request_are : (q : Request) → RequestFits q → Octets (request_data q) → Octets (request_octets q)
unfolding opened Every
request_are (full_read id) f h = (omega arith, (omega arith, (omega arith, tt)))
request_are (offset_read id o n) f h =
    (omega arith, (omega arith, (omega arith, (omega arith, (omega arith, (omega arith, (omega arith, (omega arith, tt))))))))
request_are (full_write id new) f h = (omega arith, (omega arith, (omega arith, counted_are new h)))
request_are (offset_write id o new) f h = (omega arith, (omega arith, (omega arith, (omega arith, (omega arith, (omega arith, counted_are new h))))))

reply_are : (a : MeterReply) → ReplyFits a → Octets (reply_data a) → Octets (reply_octets a)
unfolding opened Every
reply_are (holds new) f h = (omega arith, counted_are new h)
reply_are done f h = (omega arith, tt)
reply_are (refuses c) f h = (omega arith, tt)

-- REQUESTS AND REPLIES
pub request_written : (q : Request) (room : List ℕ) → WritesRequest our_messages q room
request_written = sends RequestForm RequestFits request_long request_data request_kind request_octets request_fits request_tests request_made request_are

pub reply_written : (a : MeterReply) (room : List ℕ) → WritesReply our_messages a room
reply_written = sends ReplyForm ReplyFits reply_long reply_data reply_kind reply_octets reply_fits reply_tests reply_made reply_are
