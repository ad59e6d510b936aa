-- Octets put into a room, one field behind the other, and the message that they make: sent where it fits. Assumes nothing.
use Rattle.std.proofs.Common.{◌≡◌, ℕ, ◌+◌, ◌-◌, ◌≤◌, Bool, true, false, ◌&&◌, List, [], ◌∷◌, ◌++◌, length, take, set, sym, refl, ap, ◌∙◌, append_assoc, zero-add, add-one, arith, length-append, length-take-le, drop-drop, leb-true}
use lib.Seq.{set_split, append_snoc, take-append_seam, drop-append-add}
use borrow.Rule.Slice.PartMut.{mid_of, put_mid, mid_len, Post-is}
use Rattle.meaning.specs.Basics.{◌≤?◌, splice, octets_in}
use Rattle.meaning.specs.Messages.{in_octets, check_octet, counted, full_read, offset_read, full_write, offset_write, request_octets, holds, reply_octets, sent, sent_reply, sent_room}
use Rattle.meaning.specs.Numbers.{no_room}
use Rattle.meaning.proofs.Either.{clash}
use Rattle.meaning.proofs.Octets.{octets_long}
use Rattle.meaning.proofs.Splices.{splice_long}
use Rattle.octets.specs.Octets.{replaced}
use Rattle.octets.proofs.Laws.{copied}
use Rattle.messages.specs.Messages.{IsPut}
use Rattle.std.specs.Prelude.{Ok, Err}
use Rattle.meaning.specs.declared.Answer.{Answer}

-- ONE FIELD
-- an octet
pub put_one : (room : List ℕ) (at x : ℕ) → at + 1 ≤ length room → IsPut room at (x ∷ []) (set room at x) (at + 1)
unfolding splice
put_one room at x h = record { fits = h; reply = refl; memory = rw add-one (set_split room at x (omega arith) ∙ sym (append_snoc (take at room) x _)) }

-- a part, from `at` up to e, wholly replaced
pub put_part : (room : List ℕ) (at e : ℕ) (xs : List ℕ) → e ≡ at + length xs → e ≤ length room → IsPut room at xs (put_mid at (e - at) room xs) e
unfolding splice
put_part room at e xs h i = record { fits = omega arith; reply = h; memory = rw (Post-is at e room (omega arith), h) (sym (append_assoc (take at room) xs _)) }

-- octets copied into it
pub put_copied : (room : List ℕ) (at : ℕ) (xs later : List ℕ) → at + length xs ≤ length room → later ≡ replaced (mid_of at (at + length xs - at) room) xs
    → IsPut room at xs (put_mid at (at + length xs - at) room later) (at + length xs)
put_copied room at xs later h l = rw (copied room at (at + length xs) xs later refl h l) (put_part room at (at + length xs) xs refl h)

-- a number filled into it
pub put_filled : (room : List ℕ) (at n x : ℕ) (later : List ℕ) → at + n ≤ length room
    → later ≡ octets_in 1 (length (mid_of at (at + n - at) room)) x → IsPut room at (octets_in 1 n x) (put_mid at (at + n - at) room later) (at + n)
put_filled room at n x later h l =
    let k : length (mid_of at (at + n - at) room) ≡ n = mid_len at (at + n) room h ∙ omega arith in
    let e : later ≡ octets_in 1 n x = l ∙ rw k in
    rw e (put_part room at (at + n) (octets_in 1 n x) (ap (λ (m : ℕ). at + m) (sym (octets_long 1 n x))) h)

-- FIELDS
-- the room is as long as before
pub put_long : {room : List ℕ} {at : ℕ} {xs later : List ℕ} {next : ℕ} → IsPut room at xs later next → length later ≡ length room
put_long {room} {at} {xs} p = ap length p.memory ∙ splice_long room at xs p.fits

-- one behind the other
pub put_then : {room : List ℕ} {at : ℕ} {xs mid : List ℕ} {next : ℕ} {ys later : List ℕ} {last : ℕ} → IsPut room at xs mid next → IsPut mid next ys later last
    → IsPut room at (xs ++ ys) later last
unfolding splice
put_then {room} {at} {xs} {mid} {next} {ys} p q =
    let front : List ℕ = take at room ++ xs in
    let h : at + length xs + length ys ≤ length room = omega (arith, p.fits, p.reply, q.fits, put_long p) in
    let l : length front ≡ at + length xs = simp (length-append, length-take-le at room (omega arith)) in
    let n : at + length (xs ++ ys) ≡ at + length xs + length ys = omega (arith, length-append xs ys) in
    record {
      fits = omega arith;
      reply = q.reply ∙ omega (arith, p.reply);
      memory = q.memory ∙ rw (p.reply, p.memory, n, ← l, take-append_seam, drop-append-add, drop-drop, append_assoc (take at room) xs ys);
    }

-- THE MESSAGE
-- whether it is sent, as the code finds it: each number fits its field, and k octets the room
module _ (fits : Bool) (xs room : List ℕ) where
  module _ (k : ℕ) (long : length xs ≡ k) (b : Bool) (test : b ≡ (fits && k ≤? length room)) where
    sent_is : sent fits xs room ≡ b
    unfolding sent
    sent_is = sym (test ∙ rw (← long))

    pub is_sent : {later : List ℕ} {n : ℕ} → b ≡ true → IsPut room 0 xs later n → (Ok (Answer.Total n) ≡ sent_reply fits xs room) × (later ≡ sent_room fits xs room)
    unfolding sent_reply sent_room
    is_sent h p = (rw (sent_is, h) (ap (λ n. Ok (Answer.Total n)) (p.reply ∙ zero-add (length xs))), rw (sent_is, h) p.memory)

    pub not_sent : b ≡ false → (Err no_room ≡ sent_reply fits xs room) × (room ≡ sent_room fits xs room)
    unfolding sent_reply sent_room
    not_sent h = (rw (sent_is, h), rw (sent_is, h))

-- where it is sent both tests hold
pub both_hold : (a b t : Bool) → t ≡ (a && b) → t ≡ true → (a ≡ true) × (b ≡ true)
both_hold true b t e h = (refl, sym e ∙ h)
both_hold false b t e h = clash (cc)

pub has_room : (a b : Bool) (k n : ℕ) → b ≡ (a && k ≤? n) → b ≡ true → k ≤ n
has_room a b k n e h = leb-true k n (both_hold a (k ≤? n) b e h).1

-- HOW LONG EACH MESSAGE IS
pub counted_long : (xs : List ℕ) → length (counted xs) ≡ length xs + 3
unfolding counted
counted_long xs =
    length-append (in_octets 2 (length xs)) (xs ++ check_octet xs ∷ []) ∙ omega (arith, octets_long 1 2 (length xs), length-append xs (check_octet xs ∷ []))

module _ (id o : ℕ) where
  pub full_read_long : length (request_octets (full_read id)) ≡ 3
  unfolding request_octets
  full_read_long = omega (arith, octets_long 1 2 id)

  -- kind, id and offset
  pub offset_head_long : length (in_octets 2 id ++ in_octets 3 o) ≡ 5
  offset_head_long = length-append (in_octets 2 id) (in_octets 3 o) ∙ omega (arith, octets_long 1 2 id, octets_long 1 3 o)

  offset_long : (xs : List ℕ) → length (in_octets 2 id ++ (in_octets 3 o ++ xs)) ≡ 5 + length xs
  offset_long xs =
      length-append (in_octets 2 id) (in_octets 3 o ++ xs) ∙ omega (arith, length-append (in_octets 3 o) xs, octets_long 1 2 id, octets_long 1 3 o)

  pub offset_read_long : (n : ℕ) → length (request_octets (offset_read id o n)) ≡ 8
  unfolding request_octets
  offset_read_long n = omega (arith, offset_long (in_octets 2 n), octets_long 1 2 n)

  pub full_write_long : (new : List ℕ) → length (request_octets (full_write id new)) ≡ 6 + length new
  unfolding request_octets
  full_write_long new = omega (arith, length-append (in_octets 2 id) (counted new), octets_long 1 2 id, counted_long new)

  pub offset_write_long : (new : List ℕ) → length (request_octets (offset_write id o new)) ≡ 9 + length new
  unfolding request_octets
  offset_write_long new = omega (arith, offset_long (counted new), counted_long new)

pub holds_long : (xs : List ℕ) → length (reply_octets (holds xs)) ≡ 4 + length xs
unfolding reply_octets
holds_long xs = omega (arith, counted_long xs)
