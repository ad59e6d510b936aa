-- THE FORMS OF MESSAGES: octets are one message only, as long as its form says; and a message is one list of octets only, in which its numbers fit their fields. Nothing here knows of a
-- program. Assumes nothing.
use Prim.Native.Nat.{ℕ, ◌+◌, ◌-◌, ◌<◌, ◌≤◌}
use mathlib.Core.Path.{◌≡◌, refl, sym, ◌∙◌}
use mathlib.Core.List.{List, []}
use lib.ListN.{length, get_or}
use lib.Seq.{ext_get_or}
use native.Mathlib.Decide.{dec_lt}
use native.Mathlib.Omega.{arith}
use Rattle.meaning.specs.Messages.{Request, full_read, offset_read, full_write, offset_write, MeterReply, holds, done, refuses}
use Rattle.laying.specs.Every.{Every}
use Rattle.demands.specs.Messages.{Octets, two, three, Data, RequestForm, RequestFits, request_long, request_data, ReplyForm, ReplyFits, reply_long, reply_data}
use Rattle.demands.proofs.OnlyOctets.{octet_at, octets_at_lem}

-- ONE MESSAGE: the same data; then form against form, which their first octets or their lengths tell apart
data_one : (xs : List ℕ) (at : ℕ) (a b : List ℕ) → Data xs at a → Data xs at b → a ≡ b
data_one xs at a b h k = let long = sym h.count ∙ k.count in ext_get_or 0 a b long (λ i l. sym (h.same i l) ∙ k.same i (omega arith))

pub request_one : (xs : List ℕ) (q r : Request) → RequestForm xs q → RequestForm xs r → q ≡ r
request_one xs (full_read a) (full_read b) h k = cc
request_one xs (offset_read a o n) (offset_read b p m) h k = cc
request_one xs (full_write a x) (full_write b y) h k = let e = data_one xs 3 x y h.2 k.2 in cc
request_one xs (offset_write a o x) (offset_write b p y) h k = let e = data_one xs 6 x y h.3 k.3 in cc
request_one xs (full_read a) (offset_read b p m) h k = absurd (omega arith)
request_one xs (full_read a) (full_write b y) h k = absurd (omega arith)
request_one xs (full_read a) (offset_write b p y) h k = absurd (omega arith)
request_one xs (offset_read a o n) (full_read b) h k = absurd (omega arith)
request_one xs (offset_read a o n) (full_write b y) h k = absurd (omega arith)
request_one xs (offset_read a o n) (offset_write b p y) h k = absurd (omega arith)
request_one xs (full_write a x) (full_read b) h k = absurd (omega arith)
request_one xs (full_write a x) (offset_read b p m) h k = absurd (omega arith)
request_one xs (full_write a x) (offset_write b p y) h k = absurd (omega arith)
request_one xs (offset_write a o x) (full_read b) h k = absurd (omega arith)
request_one xs (offset_write a o x) (offset_read b p m) h k = absurd (omega arith)
request_one xs (offset_write a o x) (full_write b y) h k = absurd (omega arith)

pub reply_one : (xs : List ℕ) (a b : MeterReply) → ReplyForm xs a → ReplyForm xs b → a ≡ b
reply_one xs (holds x) (holds y) h k = let e = data_one xs 1 x y h.1 k.1 in cc
reply_one xs done done h k = refl
reply_one xs (refuses c) (refuses b) h k = cc
reply_one xs (holds x) done h k = absurd (omega (arith, h.1.ends))
reply_one xs (holds x) (refuses b) h k = absurd (omega (arith, h.1.ends))
reply_one xs done (holds y) h k = absurd (omega (arith, k.1.ends))
reply_one xs done (refuses b) h k = absurd (omega arith)
reply_one xs (refuses c) (holds y) h k = absurd (omega (arith, k.1.ends))
reply_one xs (refuses c) done h k = absurd (omega arith)

-- AS LONG AS ITS FORM SAYS
request_long_lem : (xs : List ℕ) (q : Request) → RequestForm xs q → length xs ≡ request_long q
request_long_lem xs (full_read id) h = h.2
request_long_lem xs (offset_read id o n) h = h.4
request_long_lem xs (full_write id new) h = h.2.ends
request_long_lem xs (offset_write id o new) h = h.3.ends

reply_long_lem : (xs : List ℕ) (a : MeterReply) → ReplyForm xs a → length xs ≡ reply_long a
reply_long_lem xs (holds new) h = h.1.ends
reply_long_lem xs done h = h.1
reply_long_lem xs (refuses c) h = h.3

-- OCTETS
pub no_octets : Octets []
unfolding Every
no_octets = tt

abbrev Below : List ℕ → Type 0
Below xs = (i : ℕ) → get_or xs i 0 < 256

-- EACH NUMBER FITS ITS FIELD, and data are octets
module _ (xs : List ℕ) (are : Octets xs) where
  abbrev ox : Below xs
  ox = octet_at xs are

  two_fits : (at x : ℕ) → two xs at ≡ x → x ≤ 65535
  two_fits at x h = omega (arith, ox at, ox (at + 1))

  three_fits : (at x : ℕ) → three xs at ≡ x → x ≤ 16777215
  three_fits at x h = omega (arith, ox at, ox (at + 1), ox (at + 2))

  request_fits_lem : (q : Request) → RequestForm xs q → RequestFits q
  request_fits_lem (full_read id) h = two_fits 1 id h.1
  request_fits_lem (offset_read id o n) h = (two_fits 1 id h.1, three_fits 3 o h.2, two_fits 6 n h.3)
  request_fits_lem (full_write id new) h = (two_fits 1 id h.1, two_fits 3 _ h.2.count)
  request_fits_lem (offset_write id o new) h = (two_fits 1 id h.1, three_fits 3 o h.2, two_fits 6 _ h.3.count)

  reply_fits_lem : (a : MeterReply) → ReplyForm xs a → ReplyFits a
  reply_fits_lem (holds new) h = two_fits 1 _ h.1.count
  reply_fits_lem done h = tt
  reply_fits_lem (refuses c) h = (h.1, h.2)

  data_octets : (at : ℕ) (new : List ℕ) → Data xs at new → Octets new
  data_octets at new h = octets_at_lem new (λ i l. omega (arith, ox (at + 2 + i), h.same i l))

  request_octets_lem : (q : Request) → RequestForm xs q → Octets (request_data q)
  request_octets_lem (full_read id) h = no_octets
  request_octets_lem (offset_read id o n) h = no_octets
  request_octets_lem (full_write id new) h = data_octets 3 new h.2
  request_octets_lem (offset_write id o new) h = data_octets 6 new h.3

  reply_octets_lem : (a : MeterReply) → ReplyForm xs a → Octets (reply_data a)
  reply_octets_lem (holds new) h = data_octets 1 new h.1
  reply_octets_lem done h = no_octets
  reply_octets_lem (refuses c) h = no_octets

-- ONE LIST OF OCTETS
module _ (xs ys : List ℕ) (ox : Below xs) (oy : Below ys) where
  -- two lists agree from octet a up to octet b
  abbrev Agree : (a b : ℕ) → Type 0
  Agree a b = (i : ℕ) → a ≤ i → i < b → get_or xs i 0 ≡ get_or ys i 0

  joined : (a b c : ℕ) → Agree a b → Agree b c → Agree a c
  joined a b c h k i from to = go (dec_lt i b)
    where
      go : Dec (i < b) → get_or xs i 0 ≡ get_or ys i 0
      go (yes l) = h i from l
      go (no l) = k i (omega arith) to

  -- at one octet
  at_one : (p : ℕ) → get_or xs p 0 ≡ get_or ys p 0 → Agree p (p + 1)
  at_one p h i from to = let e : i ≡ p = omega arith in rw e h

  -- in a number
  two_agree : (at x : ℕ) → two xs at ≡ x → two ys at ≡ x → Agree at (at + 2)
  two_agree at x h k =
      joined at (at + 1) (at + 2) (at_one at (omega (arith, ox (at + 1), oy (at + 1))))
      (λ i from to. at_one (at + 1) (omega (arith, ox (at + 1), oy (at + 1))) i from (omega arith))

  three_agree : (at x : ℕ) → three xs at ≡ x → three ys at ≡ x → Agree at (at + 3)
  three_agree at x h k =
      let last : get_or xs (at + 2) 0 ≡ get_or ys (at + 2) 0 = omega (arith, ox (at + 2), oy (at + 2)) in
      joined at (at + 2) (at + 3) (two_agree at (two ys at) (omega arith) refl) (λ i from to. at_one (at + 2) last i from (omega arith))

  -- in data, with their count and check octet
  data_agree : (at : ℕ) (new : List ℕ) → Data xs at new → Data ys at new → Agree at (at + 3 + length new)
  data_agree at new h k =
      let n = length new in
      joined at (at + 2) (at + 3 + n) (two_agree at n h.count k.count)
      (joined (at + 2) (at + 2 + n) (at + 3 + n)
      (λ i from to. let e : i ≡ at + 2 + (i - (at + 2)) = omega arith in rw e (h.same _ (omega arith) ∙ sym (k.same _ (omega arith))))
      (λ i from to. at_one (at + 2 + n) (omega (arith, h.check, k.check, h.octet, k.octet)) i from (omega arith)))

  request_agree : (q : Request) → RequestForm xs q → RequestForm ys q → Agree 0 (request_long q)
  request_agree q = go q
    where
      -- first octet and id
      begins : (f id : ℕ) → get_or xs 0 0 ≡ f → get_or ys 0 0 ≡ f → two xs 1 ≡ id → two ys 1 ≡ id → Agree 0 3
      begins f id a b c e = joined 0 1 3 (at_one 0 (a ∙ sym b)) (two_agree 1 id c e)

      go : (q : Request) → RequestForm xs q → RequestForm ys q → Agree 0 (request_long q)
      go (full_read id) h k = begins _ id h.0 k.0 h.1 k.1
      go (offset_read id o n) h k =
          joined 0 3 8 (begins _ id h.0 k.0 h.1 k.1) (joined 3 6 8 (three_agree 3 o h.2 k.2) (two_agree 6 n h.3 k.3))
      go (full_write id new) h k = joined 0 3 (6 + length new) (begins _ id h.0 k.0 h.1 k.1) (data_agree 3 new h.2 k.2)
      go (offset_write id o new) h k =
          joined 0 3 (9 + length new) (begins _ id h.0 k.0 h.1 k.1)
          (joined 3 6 (9 + length new) (three_agree 3 o h.2 k.2) (data_agree 6 new h.3 k.3))

  reply_agree : (a : MeterReply) → ReplyForm xs a → ReplyForm ys a → Agree 0 (reply_long a)
  reply_agree (holds new) h k = joined 0 1 (4 + length new) (at_one 0 (h.0 ∙ sym k.0)) (data_agree 1 new h.1 k.1)
  reply_agree done h k = at_one 0 (h.0 ∙ sym k.0)
  reply_agree (refuses c) h k = at_one 0 (h.0 ∙ sym k.0)

  -- up to the end of both
  agreed : (n : ℕ) → length xs ≡ n → length ys ≡ n → Agree 0 n → xs ≡ ys
  agreed n h k same = ext_get_or 0 xs ys (h ∙ sym k) (λ i l. same i (omega arith) (omega arith))

module _ (xs ys : List ℕ) (are : Octets xs) (too : Octets ys) where
  request_same : (q : Request) → RequestForm xs q → RequestForm ys q → xs ≡ ys
  request_same q h k =
      agreed xs ys (octet_at xs are) (octet_at ys too) (request_long q) (request_long_lem xs q h) (request_long_lem ys q k)
      (request_agree xs ys (octet_at xs are) (octet_at ys too) q h k)

  reply_same : (a : MeterReply) → ReplyForm xs a → ReplyForm ys a → xs ≡ ys
  reply_same a h k =
      agreed xs ys (octet_at xs are) (octet_at ys too) (reply_long a) (reply_long_lem xs a h) (reply_long_lem ys a k)
      (reply_agree xs ys (octet_at xs are) (octet_at ys too) a h k)

-- ALL OF THIS, of either kind of message
pub record Kind {A : Type 0} (Form : List ℕ → A → Type 0) (Fits : A → Type 0) (long : A → ℕ) (new : A → List ℕ) : Type 0 where
  pub one : (xs : List ℕ) (a b : A) → Form xs a → Form xs b → a ≡ b
  pub as_long_lem : (xs : List ℕ) (a : A) → Form xs a → length xs ≡ long a
  pub fitting : (xs : List ℕ) → Octets xs → (a : A) → Form xs a → Fits a
  pub octets : (xs : List ℕ) → Octets xs → (a : A) → Form xs a → Octets (new a)
  pub same : (xs ys : List ℕ) → Octets xs → Octets ys → (a : A) → Form xs a → Form ys a → xs ≡ ys

pub request_kind : Kind RequestForm RequestFits request_long request_data
request_kind = record { one = request_one; as_long_lem = request_long_lem; fitting = request_fits_lem; octets = request_octets_lem; same = request_same }

pub reply_kind : Kind ReplyForm ReplyFits reply_long reply_data
reply_kind = record { one = reply_one; as_long_lem = reply_long_lem; fitting = reply_fits_lem; octets = reply_octets_lem; same = reply_same }
