-- The data of a message, as a part of it: which octets they are, and where they start. Assumes nothing.
use Rattle.std.proofs.Common.{◌≡◌, ℕ, ◌+◌, ◌-◌, ◌≤◌, true, ◌&&◌, List, [], length, get_or, take, drop, sym, refl, ap, ◌∙◌, subst, zero-le, arith, length-drop, length-take}
use mathlib.Core.Option.{Option, some}
use Rattle.meaning.specs.Basics.{◌=?◌, ◌≤?◌}
use Rattle.meaning.specs.declared.Heard.{Heard}
use Rattle.meaning.specs.declared.Requested.{Requested}
use Rattle.meaning.specs.Messages.{is_counted, data_from, request_in, requested_by, request_data, request_told, MeterReply, holds, reply_in, short_reply, heard_by, reply_data, reply_told}
use Rattle.meaning.proofs.Either.{tested}
use Rattle.octets.proofs.Laws.{stands_at}
use Rattle.messages.proofs.Puts.{both_hold}
use Rattle.messages.proofs.Serving.{Came, came_as, data_cut}
use Rattle.std.specs.Prelude.{Ok, Err, Result}
use Rattle.meaning.specs.declared.Refusal.{Refusal}

module _ (xs : List ℕ) where
  abbrev from : (start n : ℕ) → List ℕ
  from start n = take (start + n - start) (drop start xs)

  -- OF A REQUEST
  abbrev request_part : Result Requested ℕ → List ℕ
  request_part (Err c) = []
  request_part (Ok (Requested.FullRead id)) = []
  request_part (Ok (Requested.OffsetRead id o n)) = []
  request_part (Ok (Requested.FullWrite id n)) = from 5 n
  request_part (Ok (Requested.OffsetWrite id o n)) = from 8 n

  module _ {asked : Result Requested ℕ} (is : asked ≡ requested_by (request_in xs)) {v : Result Requested ℕ} (e : asked ≡ v) where
    request_part_lem : request_part v ≡ request_data (request_in xs)
    unfolding request_data
    request_part_lem = go v (came_as xs is e)
      where
        go : (v : Result Requested ℕ) → Came xs v → request_part v ≡ request_data (request_in xs)
        go (Err c) h = rw h
        go (Ok (Requested.FullRead id)) h = rw h
        go (Ok (Requested.OffsetRead id o n)) h = rw h
        go (Ok (Requested.FullWrite id n)) h = rw h.1
        go (Ok (Requested.OffsetWrite id o n)) h = rw h.1

    pub request_cut : (block octet : ℕ)
        → (request_part v ≡ request_data (request_in xs)) × ◌≡◌ {A = ℕ × ℕ} (block, (request_told v).start + octet) (block, octet + (request_told (requested_by (request_in xs))).start)
    request_cut block octet = (request_part_lem, stands_at block octet (ap (λ (x : Result Requested ℕ). (request_told x).start) (sym e ∙ is)))

  from_short : (start n : ℕ) → length (from start n) ≤ length xs
  from_short start n = simp (length-take, length-drop) (omega arith)

  -- it is no longer than the request
  pub request_short : length (request_data (request_in xs)) ≤ length xs
  request_short = rw (← request_part_lem {asked = requested_by (request_in xs)} refl refl) (go (requested_by (request_in xs)))
    where
      go : (v : Result Requested ℕ) → length (request_part v) ≤ length xs
      go (Err c) = zero-le
      go (Ok (Requested.FullRead id)) = zero-le
      go (Ok (Requested.OffsetRead id o n)) = zero-le
      go (Ok (Requested.FullWrite id n)) = from_short 5 n
      go (Ok (Requested.OffsetWrite id o n)) = from_short 8 n

  -- OF A REPLY
  abbrev pub Heard_of : Result Heard Refusal → Type 0
  Heard_of (Ok (Heard.Data n)) = (3 + n ≤ length xs) × (reply_in xs ≡ some (holds (from 3 n)))
  Heard_of (Ok Heard.Done) = reply_data (reply_in xs) ≡ []
  Heard_of (Ok (Heard.Refused c)) = reply_data (reply_in xs) ≡ []
  Heard_of (Err r) = reply_data (reply_in xs) ≡ []

  heard_as : Option MeterReply → Type 0
  heard_as a = reply_in xs ≡ a → Heard_of (heard_by a)

  there : is_counted xs 1 ≡ true → reply_in xs ≡ some (holds (data_from xs 1)) → Heard_of (Ok (Heard.Data (length (data_from xs 1))))
  there g e = let d = data_cut xs 1 g in (d.0, e ∙ ap (λ (l : List ℕ). some (holds l)) d.1)

  heard_so : Heard_of (heard_by (reply_in xs))
  unfolding reply_in short_reply heard_by reply_data heard_as
  heard_so =
      tested heard_as (length xs =? 1) _ _
      (λ t. tested heard_as (get_or xs 0 0 =? 0) _ _ (λ z e. rw e) (λ z. tested heard_as (get_or xs 0 0 ≤? 4) _ _ (λ l e. rw e) (λ l e. rw e)))
      (λ t. tested heard_as ((get_or xs 0 1 =? 0) && is_counted xs 1) _ _ (λ g e. there (both_hold (get_or xs 0 1 =? 0) (is_counted xs 1) _ refl g).1 e) (λ g e. rw e)) refl

  abbrev reply_part : Result Heard Refusal → List ℕ
  reply_part (Ok (Heard.Data n)) = from 3 n
  reply_part (Ok Heard.Done) = []
  reply_part (Ok (Heard.Refused c)) = []
  reply_part (Err r) = []

  module _ {heard : Result Heard Refusal} (is : heard ≡ heard_by (reply_in xs)) {v : Result Heard Refusal} (e : heard ≡ v) where
    pub heard_came : Heard_of v
    heard_came = subst Heard_of (sym is ∙ e) heard_so

    reply_part_lem : reply_part v ≡ reply_data (reply_in xs)
    unfolding reply_data
    reply_part_lem = go v heard_came
      where
        go : (v : Result Heard Refusal) → Heard_of v → reply_part v ≡ reply_data (reply_in xs)
        go (Ok (Heard.Data n)) h = rw h.1
        go (Ok Heard.Done) h = sym h
        go (Ok (Heard.Refused c)) h = sym h
        go (Err r) h = sym h

    pub reply_cut : (block octet : ℕ)
        → (reply_part v ≡ reply_data (reply_in xs)) × ◌≡◌ {A = ℕ × ℕ} (block, (reply_told v).start + octet) (block, octet + (reply_told (heard_by (reply_in xs))).start)
    reply_cut block octet = (reply_part_lem, stands_at block octet (ap (λ (x : Result Heard Refusal). (reply_told x).start) (sym e ∙ is)))

  pub reply_short : length (reply_data (reply_in xs)) ≤ length xs
  reply_short = rw (← reply_part_lem {heard = heard_by (reply_in xs)} refl refl) (go (heard_by (reply_in xs)))
    where
      go : (v : Result Heard Refusal) → length (reply_part v) ≤ length xs
      go (Ok (Heard.Data n)) = from_short 3 n
      go (Ok Heard.Done) = zero-le
      go (Ok (Heard.Refused c)) = zero-le
      go (Err r) = zero-le
