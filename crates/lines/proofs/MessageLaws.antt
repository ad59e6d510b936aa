-- What asking about messages leans on: a message in a room, wherever the room is, and data copied out of a message. Assumes nothing.
use Rattle.std.specs.Prelude.{if◌then◌else◌, Ok, Err}
use Prim.Native.Nat.{ℕ, ◌+◌, ◌≤◌, zero-le}
use mathlib.Core.Path.{◌≡◌, refl, sym, ap, ◌∙◌}
use mathlib.Core.Bool.{Bool, true, false, and-eq-true_iff}
use mathlib.Core.List.{List, []}
use mathlib.Core.Option.{Option, some, none}
use lib.ListN.{length, take, drop, length-take, length-replicate}
use lib.Seq.{take-append_seam, length-take-le}
use native.Mathlib.Omega.{arith}
use borrow.Author.Tests.{leb-true}
use Rattle.meaning.specs.Basics.{splice}
use Rattle.meaning.specs.Numbers.{no_room}
use Rattle.meaning.specs.Refusals.{told_by, told_numbers}
use Rattle.meaning.specs.Messages.{Request, MeterReply, request_in, request_fits, request_octets, reply_fits, reply_octets, sent, sent_reply, sent_room, request_sent, request_room, reply_sent, reply_room, answer_to, serve_reply, serve_room, serve_image}
use Rattle.lines.specs.declared.message.Answered.{Answered}
use Rattle.lines.specs.Answer.{Said, said, in_room, room_of}
use Rattle.lines.specs.Ask.{ReadAs, MessageAsked}
use Rattle.meaning.specs.Values.{Reply}
use Rattle.meaning.specs.declared.Answer.{Answer}

-- A MESSAGE IN A ROOM: what is told of it goes by the room's length alone; its octets stand first in the room
pub record InFront (reply : List ℕ → Reply) (after : List ℕ → List ℕ) : Type 0 where
  pub told : (room other : List ℕ) → length room ≡ length other → reply room ≡ reply other
  pub within : (room : List ℕ) → (told_by (reply room)).first ≤ length room
  pub octets : (room other : List ℕ) → length room ≡ length other → take (told_by (reply room)).first (after room) ≡ take (told_by (reply other)).first (after other)

module _ (fits : Bool) (xs : List ℕ) where
  same_sent : (room other : List ℕ) → length room ≡ length other → sent fits xs room ≡ sent fits xs other
  unfolding sent
  same_sent room other e = rw e

  short : (room : List ℕ) (b : Bool) → sent fits xs room ≡ b → (told_by (if b then Ok (Answer.Total (length xs)) else Err no_room)).first ≤ length room
  unfolding sent told_by
  short room true h = leb-true (length xs) (length room) ((and-eq-true_iff fits _).0 h).1
  short room false h = zero-le

  first_there : (room : List ℕ) (b : Bool)
      → take (told_by (if b then Ok (Answer.Total (length xs)) else Err no_room)).first (if b then splice room 0 xs else room) ≡ (if b then xs else [])
  unfolding splice told_by
  first_there room true = take-append_seam xs (drop (0 + length xs) room)
  first_there room false = refl

  pub sent_in_front : InFront (sent_reply fits xs) (sent_room fits xs)
  unfolding sent_reply sent_room
  sent_in_front =
      record {
        told = λ room other e. rw (same_sent room other e);
        within = λ room. short room (sent fits xs room) refl;
        octets = λ room other e.
            rw (same_sent room other e) (first_there room (sent fits xs other)) ∙ sym (first_there other (sent fits xs other));
      }

none_in_front : InFront (λ room. Err no_room) (λ room. room)
unfolding told_by
none_in_front = record { told = λ room other e. refl; within = λ room. zero-le; octets = λ room other e. refl }

-- a request and a reply by their numbers, and what is served
pub request_in_front : (q : Option Request) → InFront (request_sent q) (request_room q)
unfolding request_sent request_room
request_in_front (some q) = sent_in_front (request_fits q) (request_octets q)
request_in_front none = none_in_front

pub reply_in_front : (a : Option MeterReply) → InFront (reply_sent a) (reply_room a)
unfolding reply_sent reply_room
reply_in_front (some a) = sent_in_front (reply_fits a) (reply_octets a)
reply_in_front none = none_in_front

module _ (d m xs : List ℕ) where
  pub serve_in_front : InFront (serve_reply d m xs) (serve_room d m xs)
  unfolding serve_reply serve_room
  serve_in_front = sent_in_front (reply_fits (answer_to d m (request_in xs))) (reply_octets (answer_to d m (request_in xs)))

  pub same_image : (room other : List ℕ) → length room ≡ length other → serve_image d m xs room ≡ serve_image d m xs other
  unfolding serve_image
  same_image room other e = rw (same_sent (reply_fits (answer_to d m (request_in xs))) (reply_octets (answer_to d m (request_in xs))) room other e)

-- a room of n octets at the front of `part`
pub room_long : (n : ℕ) (part : List ℕ) → n ≤ length part → length (take n part) ≡ length (room_of n)
room_long n part h = length-take-le n part h ∙ sym (length-replicate {A = ℕ} n 0)

-- what is told of a message has room where it was put
pub told_within : {reply : List ℕ → Reply} {after : List ℕ → List ℕ} → InFront reply after → {given : Reply} {before : List ℕ} (later : List ℕ) → given ≡ reply before
    → length later ≡ length before → (told_by given).first ≤ length later
told_within front {before = before} later g l = omega (arith, ap (λ (x : Reply). (told_by x).first) g, front.within before, l)

-- a message that was put there
module _ {kind : ℕ} {d m numbers new : List ℕ} {reply : List ℕ → Reply} {after : List ℕ → List ℕ} (front : InFront reply after) (n : ℕ) {img : List ℕ}
    (is : said kind d m numbers new ≡ in_room (reply (room_of n)) (after (room_of n)) img) (part : List ℕ) (small : n ≤ 150000) (long : length part ≡ 150000) where
  pub put_in_room : {r : Answered} {given : Reply} {room later : List ℕ} → given ≡ reply (take n part) → room ≡ after (take n part)
      → (r.numbers ≡ told_numbers (told_by given)) × (r.octets.now ≡ take (told_by given).first room) → later ≡ img → MessageAsked kind d m numbers new r later
  put_in_room {r} {given} {room} g a s i =
      let same : length (take n part) ≡ length (room_of n) = room_long n part (omega arith) in
      let l : length (take n part) ≡ n = length-take-le n part (omega arith) in
      record {
        told = s.0 ∙ rw (g, is, front.told (take n part) (room_of n) same);
        within = omega (arith, ap length s.1, length-take (told_by given).first room, ap (λ (x : Reply). (told_by x).first) g, front.within (take n part), l);
        octets = s.1 ∙ rw (g, a, is) (front.octets (take n part) (room_of n) same);
        image = i ∙ rw is;
      }

-- and one that was read
pub was_read : {kind : ℕ} {d m numbers new : List ℕ} {r : Answered} (s : Said) → (said kind d m numbers new).numbers ≡ s.numbers → (said kind d m numbers new).octets ≡ s.octets
    → m ≡ (said kind d m numbers new).image → length d ≤ 150000 → ReadAs s d r → MessageAsked kind d m numbers new r m
was_read s n o i l a = record { told = a.told ∙ sym n; within = omega (arith, a.within); octets = a.octets ∙ sym o; image = i }
