-- Serving: what a request came to be read as, what the tables say as a reply, and the reply, image and room that they make. Assumes nothing.
use Rattle.std.specs.Prelude.{if◌then◌else◌, Ok, Err, Result}
use Rattle.std.proofs.Common.{◌≡◌, ℕ, suc, ◌+◌, ◌-◌, ◌/◌, ◌%◌, ◌≤◌, Bool, true, false, List, length, get_or, take, drop, sym, refl, ap, ◌∙◌, subst, arith, eqb-true, le-leb}
use mathlib.Core.Bool.{and-false}
use borrow.Author.Tests.{lt-leb}
use Rattle.offsets.specs.declared.TableOffset.{TableOffset}
use Rattle.meaning.specs.Basics.{◌=?◌, part}
use Rattle.meaning.specs.Messages.{number_from, counted, is_counted, data_from, Request, RequestRead, is_request, not_request, full_read, offset_read, full_write, offset_write, as_request, request_by, request_in, requested_by}
use Rattle.meaning.specs.Messages.{MeterReply, holds, done, refuses, code_of, reply_fits, reply_octets, sent, sent_reply, sent_room, write_reply_reply, write_reply_room}
use Rattle.meaning.specs.Messages.{write_table_reply, write_table_image, request_outcome, good_reply, unless_refused, answer_to, image_answered, serve_reply, serve_room, serve_image}
use Rattle.meaning.specs.Numbers.{no_room}
use Rattle.meaning.specs.Questions.{outcome_of, refusal_in}
use Rattle.meaning.specs.Refusals.{verdict_reply, place_reply, place_part, table_place_reply, table_part_reply, read_range_reply, read_range_part, write_range_reply, write_range_image}
use Rattle.meaning.specs.declared.Requested.{Requested}
use Rattle.meaning.proofs.Either.{tested}
use Rattle.meaning.proofs.Splices.{part_long}
use Rattle.messages.specs.Messages.{verdict_answer, place_answer}
use Rattle.messages.proofs.Puts.{both_hold}
use Rattle.meaning.specs.Values.{Verdict, Place, Reply, passed, at}

-- WHAT A REQUEST WAS READ AS, and its data, as the code cuts them out
module _ (xs : List ℕ) where
  abbrev cut : (from n : ℕ) → List ℕ
  cut from n = take (from + n - from) (drop from xs)

  abbrev pub Came : Result Requested ℕ → Type 0
  Came (Err c) = request_in xs ≡ not_request c
  Came (Ok (Requested.FullRead id)) = request_in xs ≡ is_request (full_read id)
  Came (Ok (Requested.OffsetRead id o n)) = request_in xs ≡ is_request (offset_read id o n)
  Came (Ok (Requested.FullWrite id n)) = (5 + n ≤ length xs) × (request_in xs ≡ is_request (full_write id (cut 5 n)))
  Came (Ok (Requested.OffsetWrite id o n)) = (8 + n ≤ length xs) × (request_in xs ≡ is_request (offset_write id o (cut 8 n)))

  -- where the count and the check octet are right, all data are there
  pub data_cut : (at : ℕ) → is_counted xs at ≡ true → (at + 2 + length (data_from xs at) ≤ length xs) × (data_from xs at ≡ cut (at + 2) (length (data_from xs at)))
  unfolding is_counted data_from part
  data_cut at h =
      let n : ℕ = number_from xs at 2 in
      let e = eqb-true (length xs) (at + 3 + n) (both_hold _ _ _ refl h).0 in
      let l : length (data_from xs at) ≡ n = part_long xs (at + 2) n ∙ omega arith in
      let z : at + 2 + n - (at + 2) ≡ n = omega arith in
      (omega arith, rw (l, z))

  -- so it is, whatever it was read as
  read_as : (v : RequestRead) → Type 0
  read_as v = request_in xs ≡ v → Came (requested_by v)

  -- a request where all is right
  if_right : (right : Bool) (q : Request) → (right ≡ true → read_as (is_request q)) → read_as (as_request right q)
  unfolding as_request requested_by read_as
  if_right right q f = tested read_as right _ _ f (λ t e. e)

  write_cut : (at : ℕ) (q : List ℕ → Request) → is_counted xs at ≡ true → request_in xs ≡ is_request (q (data_from xs at))
      → (at + 2 + length (data_from xs at) ≤ length xs) × (request_in xs ≡ is_request (q (cut (at + 2) (length (data_from xs at)))))
  write_cut at q t e = let d = data_cut at t in (d.0, e ∙ ap (λ l. is_request (q l)) d.1)

  by_case : (first : ℕ) → read_as (request_by first xs)
  unfolding request_by requested_by read_as
  by_case first =
      tested read_as (first =? 0x30) _ _ (λ a. if_right (length xs =? 3) _ (λ t e. e)) (λ a.
      tested read_as (first =? 0x3F) _ _ (λ a. if_right (length xs =? 8) _ (λ t e. e)) (λ a.
      tested read_as (first =? 0x40) _ _ (λ a. if_right (is_counted xs 3) _ (write_cut 3 (full_write (number_from xs 1 2)))) (λ a.
      tested read_as (first =? 0x4F) _ _ (λ a. if_right (is_counted xs 6) _ (write_cut 6 (offset_write (number_from xs 1 2) (number_from xs 3 3)))) (λ a e. e))))

  came : Came (requested_by (request_in xs))
  unfolding request_in requested_by read_as
  came = tested read_as (length xs =? 0) _ _ (λ t e. e) (λ t. by_case (get_or xs 0 0)) refl

  pub came_as : {asked : Result Requested ℕ} {v : Result Requested ℕ} → asked ≡ requested_by (request_in xs) → asked ≡ v → Came v
  came_as e f = subst Came (sym e ∙ f) came

-- WHAT THE TABLES SAY, as a reply
place_told : (img : List ℕ) (p : Place) → place_answer img p ≡ unless_refused (refusal_in (place_reply p)) (holds (place_part img p))
unfolding place_answer unless_refused refusal_in place_reply place_part
place_told img (Ok e) = refl
place_told img (Err r) = refl

verdict_told : (v : Verdict) → verdict_answer v ≡ unless_refused (refusal_in (verdict_reply v)) done
unfolding verdict_answer unless_refused refusal_in verdict_reply
verdict_told passed = refl
verdict_told (Err r) = refl

-- a write's reply is one octet, so it is sent where there is room for one
verdict_sent : (v : Verdict) (room : List ℕ) → 1 ≤ length room → sent (reply_fits (verdict_answer v)) (reply_octets (verdict_answer v)) room ≡ true
unfolding sent reply_fits reply_octets verdict_answer code_of
verdict_sent passed room h = le-leb 1 (length room) h
verdict_sent (Err r) room h = go (r.number =? 13)
  where
    go : (b : Bool) → sent (reply_fits (refuses (if b then 3 else 4))) (reply_octets (refuses (if b then 3 else 4))) room ≡ true
    go true = le-leb 1 (length room) h
    go false = le-leb 1 (length room) h

-- and no reply is shorter
reply_unsent : (a : MeterReply) (room : List ℕ) → length room ≡ 0 → sent (reply_fits a) (reply_octets a) room ≡ false
unfolding sent reply_octets
reply_unsent (holds xs) room h = rw (lt-leb (suc (length (counted xs))) (length room) (omega arith)) (and-false (reply_fits (holds xs)))
reply_unsent done room h = rw h (and-false (reply_fits done))
reply_unsent (refuses c) room h = rw h (and-false (reply_fits (refuses c)))

-- THE REPLY, THE IMAGE AND THE ROOM AFTERWARDS
module _ (d img xs room : List ℕ) where
  abbrev Served : Reply → (image later : List ℕ) → Type 0
  Served r img' later = (r ≡ serve_reply d img xs room) × ((img' ≡ serve_image d img xs room) × (later ≡ serve_room d img xs room))

  -- nothing is sent
  pub no_room_served : length room ≡ 0 → Served (Err no_room) img room
  unfolding serve_reply serve_image serve_room sent_reply sent_room
  no_room_served h = let n = reply_unsent (answer_to d img (request_in xs)) room h in (rw n, (rw n, rw n))

  -- each by itself, as the check looks for them
  pub no_room_reply : length room ≡ 0 → Err no_room ≡ serve_reply d img xs room
  no_room_reply h = (no_room_served h).0

  pub no_room_image : length room ≡ 0 → img ≡ serve_image d img xs room
  no_room_image h = (no_room_served h).1.0

  pub no_room_after : length room ≡ 0 → room ≡ serve_room d img xs room
  no_room_after h = (no_room_served h).1.1

  module _ {r : Reply} {later : List ℕ} {v : RequestRead} (read : request_in xs ≡ v) where
    -- the image is as it was, whether the reply is sent or not
    same_image : (a : MeterReply) → a ≡ answer_to d img v → image_answered d img v ≡ img → (r ≡ write_reply_reply a room) × (later ≡ write_reply_room a room) → Served r img later
    unfolding serve_reply serve_image serve_room
    same_image a e i s =
        let told = sent (reply_fits (answer_to d img v)) (reply_octets (answer_to d img v)) room in
        (rw (read, ← e) s.0, (rw (read, i) (tested (λ (l : List ℕ). img ≡ l) told _ _ (λ t. refl) (λ t. refl)), rw (read, ← e) s.1))

    -- the write is made, since its reply is sent
    new_image : {img' : List ℕ} (w : Verdict) → 1 ≤ length room → verdict_answer w ≡ answer_to d img v → img' ≡ image_answered d img v
        → (r ≡ write_reply_reply (verdict_answer w) room) × (later ≡ write_reply_room (verdict_answer w) room) → Served r img' later
    unfolding serve_reply serve_image serve_room
    new_image w h e i s = (rw (read, ← e) s.0, (rw (read, ← e, verdict_sent w room h) i, rw (read, ← e) s.1))

  module _ {asked : Result Requested ℕ} (is : asked ≡ requested_by (request_in xs)) {r : Reply} {later : List ℕ} where
    pub refused_served : {c : ℕ} → asked ≡ Err c → (r ≡ write_reply_reply (refuses c) room) × (later ≡ write_reply_room (refuses c) room) → Served r img later
    unfolding answer_to image_answered
    refused_served {c} e s = same_image (came_as xs is e) (refuses c) refl refl s

    -- reads
    module _ {p : Place} (s : (r ≡ write_reply_reply (place_answer img p) room) × (later ≡ write_reply_room (place_answer img p) room)) where
      pub full_read_served : {id : ℕ} → asked ≡ Ok (Requested.FullRead id) → p ≡ table_place_reply d img (id / 2048) (id % 2048) → Served r img later
      unfolding answer_to image_answered request_outcome outcome_of good_reply table_part_reply
      full_read_served e f = same_image (came_as xs is e) (place_answer img p) (place_told img p ∙ rw f) refl s

      pub offset_read_served : {id from n : ℕ} {o : TableOffset} → asked ≡ Ok (Requested.OffsetRead id from n) → o.0 ≡ from → p ≡ read_range_reply d img (id / 2048) (id % 2048) o n → Served r img later
      unfolding answer_to image_answered request_outcome outcome_of good_reply read_range_part
      offset_read_served {id} {n = n} e g f = same_image (came_as xs is (e ∙ ap (λ (k : ℕ). Ok (Requested.OffsetRead id k n)) (sym g))) (place_answer img p) (place_told img p ∙ rw f) refl s

    -- writes
    module _ {img' : List ℕ} {w : Verdict} (h : 1 ≤ length room) (s : (r ≡ write_reply_reply (verdict_answer w) room) × (later ≡ write_reply_room (verdict_answer w) room)) where
      pub full_write_served : {id n : ℕ} → asked ≡ Ok (Requested.FullWrite id n)
          → (w ≡ write_table_reply d img (id / 2048) (id % 2048) (cut xs 5 n)) × (img' ≡ write_table_image d img (id / 2048) (id % 2048) (cut xs 5 n)) → Served r img' later
      unfolding answer_to image_answered request_outcome good_reply
      full_write_served e (f, g) = new_image (came_as xs is e).1 w h (verdict_told w ∙ rw f) g s

      pub offset_write_served : {id from n : ℕ} {o : TableOffset} → asked ≡ Ok (Requested.OffsetWrite id from n) → o.0 ≡ from
          → (w ≡ write_range_reply d img (id / 2048) (id % 2048) o (cut xs 8 n)) × (img' ≡ write_range_image d img (id / 2048) (id % 2048) o (cut xs 8 n)) → Served r img' later
      unfolding answer_to image_answered request_outcome outcome_of good_reply
      offset_write_served {id} {n = n} e k (f, g) = new_image (came_as xs is (e ∙ ap (λ (x : ℕ). Ok (Requested.OffsetWrite id x n)) (sym k))).1 w h (verdict_told w ∙ rw f) g s
