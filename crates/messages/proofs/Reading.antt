-- What is read in a message, case by case: a request by its first octet, a reply by its length. Assumes nothing.
use Rattle.std.proofs.Common.{◌≡◌, ℕ, ◌<◌, false, List, [], ◌∷◌, length, get_or, refl, arith, ne_eqb}
use mathlib.Core.Bool.{and-false}
use Rattle.meaning.specs.Basics.{◌=?◌}
use Rattle.meaning.specs.Messages.{is_counted, request_by, request_in, requested_by, short_reply, reply_in, heard_by}
use Rattle.meaning.specs.declared.Heard.{Heard}
use Rattle.meaning.specs.declared.Requested.{Requested}
use Rattle.messages.specs.Messages.{Stands}
use Rattle.messages.proofs.Checks.{data_long}
use Rattle.std.specs.Prelude.{Ok, Err, Result}
use Rattle.meaning.specs.Numbers.{not_a_reply}
use Rattle.meaning.specs.declared.Refusal.{Refusal}

-- A REQUEST
module _ (xs : List ℕ) where
  pub in_none : length xs ≡ 0 → Err 1 ≡ requested_by (request_in xs)
  unfolding request_in requested_by
  in_none e = rw e

  -- by its first octet
  pub by_first : {r : Result Requested ℕ} (first : ℕ) → (length xs ≡ 0 → ⊥) → get_or xs 0 0 ≡ first → r ≡ requested_by (request_by first xs) → r ≡ requested_by (request_in xs)
  unfolding request_in
  by_first first n e h = rw (ne_eqb (length xs) 0 n, e) h

  -- that is none of the four
  pub by_none : (first : ℕ) → (first ≡ 0x30 → ⊥) → (first ≡ 0x3F → ⊥) → (first ≡ 0x40 → ⊥) → (first ≡ 0x4F → ⊥) → Err 2 ≡ requested_by (request_by first xs)
  unfolding request_by requested_by
  by_none first a b c d = rw (ne_eqb first 0x30 a, ne_eqb first 0x3F b, ne_eqb first 0x40 c, ne_eqb first 0x4F d)

  -- A REPLY
  pub of_one : {r : Result Heard Refusal} → length xs ≡ 1 → r ≡ heard_by (short_reply (get_or xs 0 0)) → r ≡ heard_by (reply_in xs)
  unfolding reply_in
  of_one e h = rw e h

  module _ (n : length xs ≡ 1 → ⊥) where
    pub no_data : is_counted xs 1 ≡ false → Err not_a_reply ≡ heard_by (reply_in xs)
    unfolding reply_in heard_by
    no_data h = rw (ne_eqb (length xs) 1 n, h, and-false (get_or xs 0 1 =? 0))

    module _ {k : ℕ} (s : Stands xs 1 k) where
      first_same : get_or xs 0 1 ≡ get_or xs 0 0
      first_same = go xs (omega (arith, s.long))
        where
          go : (l : List ℕ) → 0 < length l → get_or l 0 1 ≡ get_or l 0 0
          go [] h = absurd (omega arith)
          go (x ∷ l) h = refl

      pub has_data : get_or xs 0 0 ≡ 0 → Ok (Heard.Data k) ≡ heard_by (reply_in xs)
      unfolding reply_in heard_by
      has_data e = rw (ne_eqb (length xs) 1 n, first_same, e, s.is, data_long xs 1 s)

      pub not_good : (get_or xs 0 0 ≡ 0 → ⊥) → Err not_a_reply ≡ heard_by (reply_in xs)
      unfolding reply_in heard_by
      not_good e = rw (ne_eqb (length xs) 1 n, first_same, ne_eqb (get_or xs 0 0) 0 e)
