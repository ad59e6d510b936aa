-- What the check octet sums, octet by octet; numbers of a message; and data with their count before them and the check octet behind them, case by case. Assumes nothing.
use Rattle.std.proofs.Common.{◌≡◌, refl, ℕ, zero, suc, ◌+◌, ◌-◌, ◌^◌, ◌<◌, ◌≤◌, false, List, [], ◌∷◌, length, get_or, take, drop, sym, ◌∙◌, subst, le_of_suc-le-suc, not-suc-le-zero, add-one, arith, eq-eqb, ne_eqb}
use mathlib.Core.Bool.{and-false}
use Rattle.meaning.specs.Basics.{◌=?◌, part, number_in}
use Rattle.meaning.specs.Messages.{number_from, sum_of, check_octet, data_from, is_counted}
use Rattle.meaning.proofs.Splices.{part_long}
use Rattle.octets.specs.Octets.{number_of}
use Rattle.octets.proofs.Laws.{number_few}
use Rattle.messages.specs.Messages.{Stands, CountedAs}
use Rattle.std.specs.Prelude.{Some, None, Option, Result, Ok, Err}
use Rattle.std.specs.Option.{ok_or}
use Rattle.meaning.proofs.Either.{clash}

-- a count, or what is refused in its place, taken apart
pub count_missing : {E : Type 0} {v : Option ℕ} {r : Result ℕ E} (e : E) {x : E} → r ≡ ok_or v e → r ≡ Err x → (v ≡ None) × (x ≡ e)
count_missing {E} {v} {r} e {x} is h = go v (sym is ∙ h)
  where
    go : (v : Option ℕ) → ok_or v e ≡ Err x → (v ≡ None) × (x ≡ e)
    go None h = (refl, let y : e ≡ x = cc in sym y)
    go (Some n) h = clash (cc)

pub count_there : {E : Type 0} {v : Option ℕ} {r : Result ℕ E} (e : E) {n : ℕ} → r ≡ ok_or v e → r ≡ Ok n → v ≡ Some n
count_there {E} {v} {r} e {n} is h = go v (sym is ∙ h)
  where
    go : (v : Option ℕ) → ok_or v e ≡ Ok n → v ≡ Some n
    go None h = clash (cc)
    go (Some m) h = let y : m ≡ n = cc in rw y

-- one octet more
pub sum_more : (s : List ℕ) (i : ℕ) → i < length s → sum_of (take (i + 1) s) ≡ sum_of (take i s) + get_or s i 0
unfolding sum_of
sum_more s i h = rw add-one (go s i h)
  where
    go : (s : List ℕ) (i : ℕ) → i < length s → sum_of (take (suc i) s) ≡ sum_of (take i s) + get_or s i 0
    go [] i h = absurd (not-suc-le-zero h)
    go (x ∷ s) zero h = omega arith
    go (x ∷ s) (suc i) h = let e = go s i (le_of_suc-le-suc h) in omega arith

module _ (xs : List ℕ) (at : ℕ) where
  -- the number of a part cut out
  pub number_is : (n r : ℕ) → at + n ≤ length xs → n ≤ 3 → (r ≡ number_of 1 (take (at + n - at) (drop at xs))) × (r < 256 ^ length (take (at + n - at) (drop at xs)))
      → (r ≡ number_from xs at n) × (r < 256 ^ n)
  unfolding number_from number_in part
  number_is n r h few (is, fits) =
      let z : at + n - at ≡ n = omega arith in
      let l : length (part xs at n) ≡ n = part_long xs at n ∙ omega arith in
      (is ∙ rw z (sym (number_few 1 (part xs at n) (omega (arith, l)))), rw (← l) (subst (λ (k : ℕ). r < 256 ^ length (take k (drop at xs))) z fits))

  -- the count is another than that of the octets there
  pub other_count_lem : (length xs ≡ at + 3 + number_from xs at 2 → ⊥) → is_counted xs at ≡ false
  unfolding is_counted
  other_count_lem h = rw (ne_eqb _ _ h)

  module _ (n x : ℕ) (count : n ≡ number_from xs at 2) (check : x ≡ check_octet (take (at + 2 + n - (at + 2)) (drop (at + 2) xs))) where
    data_is : x ≡ check_octet (data_from xs at)
    unfolding data_from part
    data_is = let z : at + 2 + n - (at + 2) ≡ n = omega arith in check ∙ rw (z, count)

    -- the check octet is another
    pub other_check : (get_or xs (at + 2 + n) 0 ≡ x → ⊥) → is_counted xs at ≡ false
    unfolding is_counted
    other_check h = rw (← count, ← data_is, ne_eqb _ _ h) (and-false (length xs =? at + 3 + n))

    -- all is right
    pub all_stands : n < 256 ^ 2 → length xs ≡ at + 2 + n + 1 → get_or xs (at + 2 + n) 0 ≡ x → Stands xs at n
    unfolding is_counted
    all_stands few long h =
        let l : length xs ≡ at + 3 + n = omega arith in
        record { is = rw (← count, ← data_is, eq-eqb _ _ l, eq-eqb _ _ h); count = count; long = l; few = omega arith }

  -- FOR CALLERS: they stand there, or they don't
  pub counted_are : {v : Option ℕ} {n : ℕ} → CountedAs xs at v → v ≡ Some n → Stands xs at n
  counted_are s e = subst (CountedAs xs at) e s

  pub counted_not : {v : Option ℕ} → CountedAs xs at v → v ≡ None → is_counted xs at ≡ false
  counted_not s e = subst (CountedAs xs at) e s

  -- the data are as many as the count says
  pub data_long : {n : ℕ} → Stands xs at n → length (data_from xs at) ≡ n
  unfolding data_from
  data_long s = part_long xs (at + 2) (number_from xs at 2) ∙ omega (arith, s.count, s.long)
