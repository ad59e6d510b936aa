-- The calendar's definitions case by case: leap years, months, what makes a date real, the days counted. Assumes nothing.
use Prim.Native.Nat.{ℕ, zero, suc, ◌+◌, ◌*◌, ◌%◌, ◌<◌, ◌≤◌}
use mathlib.Core.Path.{◌≡◌, refl, sym, ap, ◌∙◌}
use mathlib.Core.Logic.{⊎_elim}
use mathlib.Core.Bool.{Bool, true, false, cond, not, ◌&&◌, ◌||◌, and-true}
use mathlib.Core.List.{List, [], ◌∷◌}
use native.Mathlib.Nat.{le_of_suc-le-suc, not-suc-le-zero}
use native.Mathlib.Numerals.{add-one}
use native.Mathlib.Omega.{arith}
use borrow.Author.Tests.{leb-true, ltb-true, le-leb, lt-ltb, eqb-true, eqb-false}
use lib.Dec.{leb, ltb, eqb}
use lib.ListN.{length, get_or, get_or-eq_default}
use Rattle.meaning.specs.Basics.{build}
use Rattle.meaning.specs.Calendar.{leap, month_length, real_date, year_days, month_days}
use Rattle.almanac.specs.Days.{Real, every_fourth, EveryFourth}
use Rattle.almanac.proofs.Tests.{lt_or_ge, both_true, all_four, cond_most}
use Rattle.almanac.proofs.Build.{build_at}
use Rattle.meaning.proofs.Either.{tested}

-- MONTHS
pub february : (y m : ℕ) (b : Bool) → m ≡ 2 → leap y ≡ b → cond b 29 28 ≡ month_length y m
unfolding month_length
february y m b e l = rw (e, l)

-- the table of lengths, with February's
abbrev from_january : (february : ℕ) → List ℕ
from_january n = 31 ∷ n ∷ 31 ∷ 30 ∷ 31 ∷ 30 ∷ 31 ∷ 31 ∷ 30 ∷ 31 ∷ 30 ∷ 31 ∷ []

abbrev pub months : (february : ℕ) → List ℕ
months n = 0 ∷ from_january n

-- another month is as long in every year
pub other_month : (y m : ℕ) → (m ≡ 2 → ⊥) → get_or (months 28) m 0 ≡ month_length y m
unfolding month_length
other_month y zero h = refl
other_month y (suc zero) h = refl
other_month y (suc (suc zero)) h = absurd (h refl)
other_month y (suc (suc (suc k))) h = refl

pub no_month : (y m : ℕ) → 12 < m → month_length y m ≡ 0
unfolding month_length
no_month y m h = get_or-eq_default (months (cond (leap y) 29 28)) 0 h

-- a test that holds of every number of a list
abbrev every : (ℕ → Bool) → List ℕ → Bool
every p [] = true
every p (x ∷ xs) = p x && every p xs

every_at : (p : ℕ → Bool) (xs : List ℕ) → every p xs ≡ true → (k : ℕ) → k < length xs → p (get_or xs k 0) ≡ true
every_at p [] e k h = absurd (not-suc-le-zero h)
every_at p (x ∷ xs) e zero h = (both_true (p x) (every p xs) e).0
every_at p (x ∷ xs) e (suc k) h = every_at p xs (both_true (p x) (every p xs) e).1 k (le_of_suc-le-suc h)

abbrev a_month : (days : ℕ) → Bool
a_month n = leb 28 n && leb n 31

month_days_lem : (y k : ℕ) → k < 12 → (28 ≤ month_length y (suc k)) × (month_length y (suc k) ≤ 31)
unfolding month_length
month_days_lem y k h =
    let each = tested (λ n. every a_month (from_january n) ≡ true) (leap y) 29 28 (λ t. refl) (λ t. refl) in
    let e = both_true _ _ (every_at a_month (from_january (cond (leap y) 29 28)) each k h) in (leb-true _ _ e.0, leb-true _ _ e.1)

pub month_most : (y m : ℕ) → month_length y m ≤ 31
unfolding month_length
month_most y zero = omega arith
month_most y (suc k) = ⊎_elim (λ l. (month_days_lem y k l).1) (λ l. omega (arith, no_month y (suc k) (omega arith))) (lt_or_ge k 12)

pub month_least : (y m : ℕ) → 1 ≤ m → m ≤ 12 → 28 ≤ month_length y m
month_least y zero f l = omega arith
month_least y (suc k) f l = (month_days_lem y k l).0

-- A REAL DATE, and only such
pub real : (y m d : ℕ) → real_date y m d ≡ true → Real y m d
unfolding real_date month_length
real y m d e =
    let (a, b, c, f) = all_four (leb 1990 y) (leb y 2089) (ltb 0 d) (leb d (month_length y m)) e in
    let first : 0 < d = ltb-true 0 d c in
    let last : d ≤ month_length y m = leb-true _ _ f in
    let least : 1 ≤ m = ⊎_elim (λ l. let z : m ≡ 0 = omega arith in omega (arith, ap (month_length y) z)) (λ l. l) (lt_or_ge m 1) in
    let most : m ≤ 12 = ⊎_elim (λ l. omega (arith, no_month y m l)) (λ l. l) (lt_or_ge 12 m) in
    omega (arith, leb-true 1990 y a, leb-true y 2089 b)

pub is_real : {y m d : ℕ} → Real y m d → real_date y m d ≡ true
unfolding real_date
is_real {y} {m} {d} r = rw (le-leb 1990 y r.from, le-leb y 2089 r.to, lt-ltb 0 d r.first, le-leb d (month_length y m) r.last)

-- THE DAYS COUNTED
pub months_more : (y k : ℕ) → month_days y k + month_length y k ≡ month_days y (k + 1)
unfolding month_days
months_more y k = rw (add-one k)

pub months_most : (y m : ℕ) → month_days y m ≤ 31 * m
unfolding month_days
months_most y zero = omega arith
months_most y (suc m) = omega (arith, months_most y m, month_most y m)

pub years_more : (k : ℕ) (b : Bool) → leap (1990 + k) ≡ b → year_days k + cond b 366 365 ≡ year_days (k + 1)
unfolding year_days
years_more k b e = rw (add-one k, e)

pub years_most : (n : ℕ) → year_days n ≤ 366 * n
unfolding year_days
years_most zero = omega arith
years_most (suc n) = omega (arith, years_most n, cond_most (leap (1990 + n)) 366 365 (omega arith))

-- AND WORKED OUT AT ONCE
-- how many days of a common year come before each month
abbrev pub days_before : List ℕ
days_before = 0 ∷ 0 ∷ 31 ∷ 59 ∷ 90 ∷ 120 ∷ 151 ∷ 181 ∷ 212 ∷ 243 ∷ 273 ∷ 304 ∷ 334 ∷ []

-- a month's own days: those of a common year, and one more for February in a leap year
pub month_at_once : (y m : ℕ) (b : Bool) → (eqb m 2 && leap y) ≡ b → get_or (months 28) m 0 + cond b 1 0 ≡ month_length y m
month_at_once y m b e = go (eqb m 2) refl b e
  where
    go : (is : Bool) → eqb m 2 ≡ is → (b : Bool) → (is && leap y) ≡ b → get_or (months 28) m 0 + cond b 1 0 ≡ month_length y m
    go true h true l = let two : m ≡ 2 = eqb-true m 2 h in rw two (february y 2 true refl l)
    go true h false l = let two : m ≡ 2 = eqb-true m 2 h in rw two (february y 2 false refl l)
    go false h b l = rw (← l) (let other = other_month y m (eqb-false m 2 h) in omega (arith, other))

-- in a leap year one more from March on
abbrev before_month : (isLeap : Bool) → (m : ℕ) → ℕ
before_month b m = get_or days_before m 0 + cond (ltb 2 m && b) 1 0

each_month : (y : ℕ) (b : Bool) → leap y ≡ b → build 13 (before_month b) ≡ build 13 (month_days y)
unfolding build month_days month_length
each_month y true e = rw e
each_month y false e = rw e

pub months_at_once : (y m : ℕ) (b : Bool) → m ≤ 12 → (ltb 2 m && leap y) ≡ b → get_or days_before m 0 + cond b 1 0 ≡ month_days y m
months_at_once y m b h e =
    let below : m < 13 = omega arith in
    ap (λ (x : Bool). get_or days_before m 0 + cond x 1 0) (sym e)
    ∙ sym (build_at 13 (before_month (leap y)) m 0 below)
    ∙ ap (λ (days : List ℕ). get_or days m 0) (each_month y (leap y) refl)
    ∙ build_at 13 (month_days y) m 0 below

-- from 1990 to 2099 every fourth year is a leap year: of the hundreds there is 2000 alone
fourth : (n : ℕ) → n < 110 → leap (1990 + n) ≡ eqb ((1990 + n) % 4) 0
unfolding leap
fourth n h = go (eqb ((1990 + n) % 100) 0) refl
  where
    go : (b : Bool) → eqb ((1990 + n) % 100) 0 ≡ b → (eqb ((1990 + n) % 4) 0 && (not b || eqb ((1990 + n) % 400) 0)) ≡ eqb ((1990 + n) % 4) 0
    go true e = let ten : n ≡ 10 = omega (arith, eqb-true ((1990 + n) % 100) 0 e) in rw ten
    go false e = and-true (eqb ((1990 + n) % 4) 0)

-- so the days of years are known at once, up to the end of 2099
pub years_at_once : (n : ℕ) → n ≤ 110 → every_fourth n ≡ year_days n
unfolding every_fourth year_days
years_at_once zero h = refl
years_at_once (suc n) h =
    rw (fourth n h, ← years_at_once n (omega arith))
    (tested (λ days. every_fourth (suc n) ≡ every_fourth n + days) (eqb ((1990 + n) % 4) 0) 366 365
    (λ e. omega (arith, eqb-true ((1990 + n) % 4) 0 e))
    (λ e. omega (arith, eqb-false ((1990 + n) % 4) 0 e)))

pub every_fourth_lem : EveryFourth
unfolding every_fourth year_days leap
every_fourth_lem = record { inside = years_at_once; outside = refl }
