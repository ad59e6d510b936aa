-- OUR MESSAGES AS THEY ARE READ: octets are the request, or the reply, that has their form; a request that has none is refused by its first fault. Assumes nothing.
use Prim.Native.Nat.{ℕ, zero, suc, ◌+◌, ◌-◌, ◌%◌, ◌<◌, ◌≤◌}
use mathlib.Core.Path.{◌≡◌, refl, sym, ◌∙◌, ap}
use mathlib.Core.Bool.{Bool, true, false, ◌&&◌, true≢false}
use mathlib.Core.List.{List, [], ◌∷◌}
use mathlib.Core.Option.{Option, some, none}
use borrow.Author.Tests.{eqb-true, eqb-false, leb-true, leb-false, eq-eqb, ne_eqb}
use lib.ListN.{length, get_or}
use lib.Seq.{ext_get_or}
use native.Mathlib.Decide.{dec_lt}
use native.Mathlib.Omega.{arith}
use Rattle.meaning.specs.Basics.{◌=?◌, ◌<?◌, ◌≤?◌, part, most_first}
use Rattle.meaning.specs.Messages.{check_octet, number_from, data_from, is_counted, Request, full_read, offset_read, full_write, offset_write, RequestRead, is_request, not_request, as_request, request_by, request_in, MeterReply, holds, done, refuses, short_reply, reply_in}
use Rattle.meaning.proofs.Either.{tested, clash}
use Rattle.meaning.proofs.Splices.{part_at, part_long}
use Rattle.almanac.proofs.Tests.{both_true}
use Rattle.demands.specs.Bench.{our_messages}
use Rattle.demands.specs.Given.{given, first_of}
use Rattle.demands.specs.Messages.{two, three, Data, RequestForm, ReplyForm, empty, is_known, unknown, length_by, wrong_length, checks, checks_by, wrong_check, request_faults, code_in, ReadsRequest, ReadsReply}
use Rattle.demands.proofs.Forms.{request_one, reply_one}
use Rattle.demands.proofs.Told.{Holds, onward, below, equal, both}

-- PARTS BY THEIR OCTETS
part_is : (xs : List ℕ) (at : ℕ) (ys : List ℕ) → at + length ys ≤ length xs → ((i : ℕ) → i < length ys → get_or xs (at + i) 0 ≡ get_or ys i 0) → part xs at (length ys) ≡ ys
part_is xs at ys fits same =
    let long = part_long xs at (length ys) in
    ext_get_or 0 (part xs at (length ys)) ys (omega arith) (λ i l. part_at xs at (length ys) i (omega arith) ∙ same i (omega arith))

-- NUMBERS
two_read : (xs : List ℕ) (at : ℕ) → at + 2 ≤ length xs → number_from xs at 2 ≡ two xs at
unfolding number_from most_first
two_read xs at h = ap most_first (part_is xs at (get_or xs at 0 ∷ get_or xs (at + 1) 0 ∷ []) h go) ∙ omega arith
  where
    go : (i : ℕ) → i < 2 → get_or xs (at + i) 0 ≡ get_or (get_or xs at 0 ∷ get_or xs (at + 1) 0 ∷ []) i 0
    go zero l = let e : at + 0 ≡ at = omega arith in rw e
    go (suc zero) l = refl
    go (suc (suc i)) l = absurd (omega arith)

three_read : (xs : List ℕ) (at : ℕ) → at + 3 ≤ length xs → number_from xs at 3 ≡ three xs at
unfolding number_from most_first
three_read xs at h = ap most_first (part_is xs at (get_or xs at 0 ∷ get_or xs (at + 1) 0 ∷ get_or xs (at + 2) 0 ∷ []) h go) ∙ omega arith
  where
    go : (i : ℕ) → i < 3 → get_or xs (at + i) 0 ≡ get_or (get_or xs at 0 ∷ get_or xs (at + 1) 0 ∷ get_or xs (at + 2) 0 ∷ []) i 0
    go zero l = let e : at + 0 ≡ at = omega arith in rw e
    go (suc zero) l = refl
    go (suc (suc zero)) l = refl
    go (suc (suc (suc i))) l = absurd (omega arith)

-- DATA: our test is the statement's
and_true : (b : Bool) → b ≡ (b && true)
and_true true = refl
and_true false = refl

same_test : {a b : Bool} {A : Type 0} → Holds a A → Holds b A → a ≡ b
same_test {a = true} h k = sym (k.1 (h.0 refl))
same_test {a = false} {b = true} h k = h.1 (k.0 refl)
same_test {a = false} {b = false} h k = refl

check_test : (s c : ℕ) → (c =? (256 - s % 256) % 256) ≡ ((s + c) % 256 =? 0 && c <? 256)
check_test s c =
    same_test (equal c ((256 - s % 256) % 256))
    (onward (both (equal ((s + c) % 256) 0) (below c 256)) (λ h. let a = h.0 in let b = h.1 in omega arith, λ h. (omega arith, omega arith)))

module _ (xs : List ℕ) (at : ℕ) where
  counted_test : is_counted xs at ≡ ((length xs =? at + 3 + two xs at) && checks xs at)
  unfolding is_counted checks data_from check_octet
  counted_test = go (dec_lt (length xs) (at + 2))
    where
      go : Dec (length xs < at + 2) → is_counted xs at ≡ ((length xs =? at + 3 + two xs at) && checks xs at)
      go (yes l) = rw (ne_eqb (length xs) (at + 3 + number_from xs at 2) (λ e. omega arith), ne_eqb (length xs) (at + 3 + two xs at) (λ e. omega arith))
      go (no l) = rw (two_read xs at (omega arith), check_test)

  counted_form : is_counted xs at ≡ true → Data xs at (data_from xs at)
  unfolding is_counted data_from check_octet
  counted_form e =
      let (long, check) = both_true _ _ e in
      let ends = eqb-true (length xs) (at + 3 + number_from xs at 2) long in
      let n = two_read xs at (omega arith) in
      let l : length (part xs (at + 2) (number_from xs at 2)) ≡ number_from xs at 2 = omega (arith, part_long xs (at + 2) (number_from xs at 2)) in
      let last = eqb-true (get_or xs (at + 2 + number_from xs at 2) 0) _ check in
      record {
        count = sym n ∙ sym l;
        same = λ i b. sym (part_at xs (at + 2) (number_from xs at 2) i (omega arith));
        check = rw (l, last) (omega arith);
        octet = rw (l, last) (omega arith);
        ends = rw l ends;
      }

  -- data there pass it
  form_counted : (new : List ℕ) → Data xs at new → ((length xs =? at + 3 + two xs at) ≡ true) × (checks xs at ≡ true)
  unfolding checks
  form_counted new h =
      let is = part_is xs (at + 2) new (omega (arith, h.ends)) h.same in
      (eq-eqb (length xs) (at + 3 + two xs at) (omega (arith, h.ends, h.count)), rw (h.count, is, eq-eqb _ 0 h.check) ((below _ 256).1 h.octet))

-- A REQUEST
-- the faults opened
unfoldable pub faulting : Unit {0}
unfolding request_faults empty unknown wrong_length wrong_check first_of given
faulting = tt

module _ (xs : List ℕ) where
  abbrev first : ℕ
  first = get_or xs 0 0

  -- what has a form has no fault
  no_fault : (length xs =? 0) ≡ false → is_known first ≡ true → (length xs =? length_by first xs) ≡ true → checks_by first xs ≡ true → first_of (request_faults xs) ≡ none
  unfolding faulting
  no_fault a b c e = rw (a, b, c, e)

  form_faultless : (q : Request) → RequestForm xs q → first_of (request_faults xs) ≡ none
  unfolding is_known length_by checks_by
  form_faultless (full_read id) h = no_fault (ne_eqb (length xs) 0 (λ e. omega arith)) (rw h.0) (rw h.0 (eq-eqb (length xs) 3 h.2)) (rw h.0)
  form_faultless (offset_read id o n) h = no_fault (ne_eqb (length xs) 0 (λ e. omega arith)) (rw h.0) (rw h.0 (eq-eqb (length xs) 8 h.4)) (rw h.0)
  form_faultless (full_write id new) h =
      let t = form_counted xs 3 new h.2 in
      no_fault (ne_eqb (length xs) 0 (λ e. omega (arith, h.2.ends))) (rw h.0) (rw h.0 t.0) (rw h.0 t.1)
  form_faultless (offset_write id o new) h =
      let t = form_counted xs 6 new h.3 in
      no_fault (ne_eqb (length xs) 0 (λ e. omega (arith, h.3.ends))) (rw h.0) (rw h.0 t.0) (rw h.0 t.1)

  -- what we read has its form, or its first fault
  data Decided : RequestRead → Type 0 where
    is : (q : Request) → RequestForm xs q → Decided (is_request q)
    isn't : (c : ℕ) → first_of (request_faults xs) ≡ some c → Decided (not_request c)

  -- a wrong length or check octet of one of the four
  wrong : (l c : Bool) → (length xs =? 0) ≡ false → is_known first ≡ true → (length xs =? length_by first xs) ≡ l → checks_by first xs ≡ c → (l && c) ≡ false
      → first_of (request_faults xs) ≡ some 1
  unfolding faulting
  wrong true true a b e f z = absurd (true≢false z)
  wrong true false a b e f z = rw (a, b, e, f)
  wrong false c a b e f z = rw (a, b, e)

  -- of each of the four, by its own test
  by_test : (good : Bool) (q : Request) → (length xs =? 0) ≡ false → is_known first ≡ true → good ≡ ((length xs =? length_by first xs) && checks_by first xs)
      → (good ≡ true → RequestForm xs q) → Decided (as_request good q)
  unfolding as_request
  by_test good q a b e form = tested Decided good _ _ (λ t. is q (form t)) (λ t. isn't 1 (wrong _ _ a b refl refl (sym e ∙ t)))

  told_empty : (length xs =? 0) ≡ true → first_of (request_faults xs) ≡ some 1
  unfolding faulting
  told_empty e = rw e

  told_unknown : (length xs =? 0) ≡ false → is_known first ≡ false → first_of (request_faults xs) ≡ some 2
  unfolding faulting
  told_unknown a b = rw (a, b)

  decided : Decided (request_in xs)
  unfolding request_in request_by is_known length_by checks_by
  decided =
      tested Decided (length xs =? 0) _ _ (λ e. isn't 1 (told_empty e))
      (λ some-there.
      tested Decided (first =? 0x30) _ _
      (λ e.
      let f = eqb-true first 0x30 e in
      by_test (length xs =? 3) _ some-there (rw f) (rw f (and_true _))
      (λ t. let l = eqb-true (length xs) 3 t in (f, sym (two_read xs 1 (omega arith)), l)))
      (λ not-30.
      tested Decided (first =? 0x3F) _ _
      (λ e.
      let f = eqb-true first 0x3F e in
      by_test (length xs =? 8) _ some-there (rw f) (rw f (and_true _))
      (λ t.
      let l = eqb-true (length xs) 8 t in
      (f, sym (two_read xs 1 (omega arith)), sym (three_read xs 3 (omega arith)), sym (two_read xs 6 (omega arith)), l)))
      (λ not-3F.
      tested Decided (first =? 0x40) _ _
      (λ e.
      let f = eqb-true first 0x40 e in
      by_test (is_counted xs 3) _ some-there (rw f) (rw f (counted_test xs 3))
      (λ t. let new = counted_form xs 3 t in (f, sym (two_read xs 1 (omega (arith, new.ends))), new)))
      (λ not-40.
      tested Decided (first =? 0x4F) _ _
      (λ e.
      let f = eqb-true first 0x4F e in
      by_test (is_counted xs 6) _ some-there (rw f) (rw f (counted_test xs 6))
      (λ t.
      let new = counted_form xs 6 t in
      (f, sym (two_read xs 1 (omega (arith, new.ends))), sym (three_read xs 3 (omega (arith, new.ends))), new)))
      (λ not-4F. isn't 2 (told_unknown some-there (rw (not-30, not-3F, not-40, not-4F))))))))

  pub request_reads : ReadsRequest our_messages xs
  unfolding code_in
  request_reads = go (request_in xs) refl decided
    where
      go : (r : RequestRead) → request_in xs ≡ r → Decided r → ReadsRequest our_messages xs
      go r e (is q form) =
          record {
            good = λ p. (λ t. let same : q ≡ p = cc in rw (← same) form, λ h. e ∙ ap is_request (request_one xs q p form h));
            refused = ap code_in e ∙ sym (form_faultless q form);
          }
      go r e (isn't c fault) =
          record {
            good = λ p. (λ t. clash (cc), λ h. let none_told = form_faultless p h in clash (cc));
            refused = ap code_in e ∙ sym fault;
          }

-- A REPLY
-- the first octet, where there is one
first_there : (xs : List ℕ) → 0 < length xs → get_or xs 0 1 ≡ get_or xs 0 0
first_there [] h = absurd (omega arith)
first_there (x ∷ xs) h = refl

module _ (xs : List ℕ) where
  -- what we read has its form; or none fits
  data Heard : Option MeterReply → Type 0 where
    fits : (a : MeterReply) → ReplyForm xs a → Heard (some a)
    none_fits : ((a : MeterReply) → ReplyForm xs a → ⊥) → Heard none

  -- of one octet
  too_large : (length xs ≡ 1) → 4 < get_or xs 0 0 → (a : MeterReply) → ReplyForm xs a → ⊥
  too_large l m (holds new) h = omega (arith, h.1.ends)
  too_large l m done h = omega arith
  too_large l m (refuses c) h = omega arith

  -- of another length
  no_data : (length xs ≡ 1 → ⊥) → ((get_or xs 0 1 =? 0) && is_counted xs 1) ≡ false → (a : MeterReply) → ReplyForm xs a → ⊥
  no_data l f (holds new) h =
      let t = form_counted xs 1 new h.1 in
      let begins = eq-eqb (get_or xs 0 1) 0 (first_there xs (omega (arith, h.1.ends)) ∙ h.0) in
      true≢false (sym (rw (begins, counted_test xs 1, t.0) t.1) ∙ f)
  no_data l f done h = l h.1
  no_data l f (refuses c) h = l h.3

  heard : Heard (reply_in xs)
  unfolding reply_in short_reply
  heard =
      tested Heard (length xs =? 1) _ _
      (λ e.
      let l = eqb-true (length xs) 1 e in
      tested Heard (get_or xs 0 0 =? 0) _ _ (λ f. fits done (eqb-true (get_or xs 0 0) 0 f, l))
      (λ f.
      let nonzero = eqb-false (get_or xs 0 0) 0 f in
      tested Heard (get_or xs 0 0 ≤? 4) _ _ (λ g. fits (refuses (get_or xs 0 0)) (refl, omega (arith, nonzero), leb-true (get_or xs 0 0) 4 g, l))
      (λ g. none_fits (too_large l (leb-false (get_or xs 0 0) 4 g)))))
      (λ e.
      tested Heard ((get_or xs 0 1 =? 0) && is_counted xs 1) _ _
      (λ f.
      let (begins, counted) = both_true _ _ f in
      let new = counted_form xs 1 counted in
      fits (holds (data_from xs 1)) (sym (first_there xs (omega (arith, new.ends))) ∙ eqb-true (get_or xs 0 1) 0 begins, new))
      (λ f. none_fits (no_data (eqb-false (length xs) 1 e) f)))

  pub reply_reads : ReadsReply our_messages xs
  reply_reads = go (reply_in xs) refl heard
    where
      go : (r : Option MeterReply) → reply_in xs ≡ r → Heard r → ReadsReply our_messages xs
      go r e (fits a form) =
          record {
            good = λ b. (λ t. let same : a ≡ b = cc in rw (← same) form, λ h. e ∙ ap some (reply_one xs a b form h));
            none = (λ t. clash (cc), λ n. absurd (n a form));
          }
      go r e (none_fits n) = record { good = λ b. (λ t. clash (cc), λ h. absurd (n b h)); none = (λ t. n, λ h. e) }
