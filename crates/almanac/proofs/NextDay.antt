-- Days and weekdays: the next day has the next number, so numbers tell dates apart and keep their order. Assumes nothing.
use Prim.Native.Nat.{ℕ, zero, suc, ◌+◌, ◌-◌, ◌<◌, ◌≤◌}
use mathlib.Core.Path.{◌≡◌, refl, sym, ap}
use mathlib.Core.Logic.{inl, inr, ⊎_elim}
use mathlib.Core.Bool.{Bool, true, false, cond}
use native.Mathlib.Nat.{eq-or-lt_of_le, le_of_suc-le-suc}
use native.Mathlib.Omega.{arith}
use borrow.Author.Tests.{lt-ltb, le-ltb}
use Rattle.meaning.specs.declared.Date.{Date}
use Rattle.meaning.specs.Calendar.{leap, month_length, real_date, year_days, month_days, day_number, weekday_of}
use Rattle.almanac.specs.Days.{Real, number_of, next, last_date, NextDay, Before, Numbered, Days}
use Rattle.almanac.proofs.Tests.{lt_or_ge}
use Rattle.almanac.proofs.Days.{month_least, real, is_real, months_more, years_more}

-- THE DAYS COUNTED RISE
rises : (f : ℕ → ℕ) → ((n : ℕ) → f n ≤ f (suc n)) → (m n : ℕ) → m ≤ n → f m ≤ f n
rises f h m zero l = omega (arith, ap f {x = m} {y = 0} (omega arith))
rises f h m (suc n) l = ⊎_elim (λ e. omega (arith, ap f e)) (λ k. omega (arith, rises f h m n (le_of_suc-le-suc k), h n)) (eq-or-lt_of_le l)

months_rise : (y m n : ℕ) → m ≤ n → month_days y m ≤ month_days y n
unfolding month_days
months_rise y = rises (month_days y) (λ n. omega arith)

years_rise : (m n : ℕ) → m ≤ n → year_days m ≤ year_days n
unfolding year_days
years_rise = rises year_days (λ n. omega arith)

-- all months make the year
whole_year : (y : ℕ) (b : Bool) → leap y ≡ b → month_days y 13 ≡ cond b 366 365
unfolding month_days month_length
whole_year y true e = rw e
whole_year y false e = rw e

-- A DATE'S PLACE IN ITS MONTH AND YEAR
-- the year after a real date's
year_after : (y : ℕ) → 1990 ≤ y → year_days (y - 1990) + month_days y 13 ≡ year_days (y - 1990 + 1)
year_after y h = let e : 1990 + (y - 1990) ≡ y = omega arith in omega (arith, whole_year y _ refl, years_more (y - 1990) (leap y) (ap leap e))

-- a date lies before the next month and before the next year
module _ {y m d : ℕ} (r : Real y m d) where
  in_month : month_days y m + (d - 1) < month_days y (m + 1)
  in_month = omega (arith, months_more y m, r)

  in_year : day_number y m d < year_days (y - 1990 + 1)
  unfolding day_number
  in_year = omega (arith, in_month, months_rise y (m + 1) 13 (omega (arith, r)), year_after y r.from)

same_date : (s t : Date) → s.year ≡ t.year → s.month ≡ t.month → s.day ≡ t.day → s ≡ t
same_date s t y m d = λ i. record { year = y i; month = m i; day = d i }

-- THE NEXT DAY
-- the day after t is u
follows : (t u : Date) → next t ≡ u → Real u.year u.month u.day → number_of u ≡ number_of t + 1 → NextDay t
unfolding weekday_of
follows t u e r n = record { real = rw e (is_real r); number = rw e n; weekday = rw e (rw n (omega arith)) }

module _ (t : Date) (r : Real t.year t.month t.day) where
  same_month : t.day < month_length t.year t.month → NextDay t
  unfolding next day_number
  same_month h = follows t (record { year = t.year; month = t.month; day = t.day + 1 }) (rw (lt-ltb _ _ h)) (omega arith) (omega arith)

  next_month : month_length t.year t.month ≤ t.day → t.month < 12 → NextDay t
  unfolding next day_number
  next_month h l =
      follows t (record { year = t.year; month = t.month + 1; day = 1 }) (rw (le-ltb _ _ h, lt-ltb _ _ l))
      (omega (arith, month_least t.year (t.month + 1) (omega arith) (omega arith))) (omega (arith, months_more t.year t.month))

  next_year : month_length t.year t.month ≤ t.day → 12 ≤ t.month → t.year < 2089 → NextDay t
  unfolding next day_number month_days month_length
  next_year h k l =
      follows t (record { year = t.year + 1; month = 1; day = 1 }) (rw (le-ltb _ _ h, le-ltb _ _ k))
      (omega (arith, month_least (t.year + 1) 1 (omega arith) (omega arith)))
      (omega (
        arith,
        months_more t.year t.month,
        ap (month_days t.year) {x = t.month + 1} {y = 13} (omega arith),
        year_after t.year r.from,
        ap year_days {x = t.year + 1 - 1990} {y = t.year - 1990 + 1} (omega arith),
      ))

  last_date_lem : month_length t.year t.month ≤ t.day → 12 ≤ t.month → 2089 ≤ t.year → t ≡ last_date
  unfolding month_length
  last_date_lem h k l =
      let y : t.year ≡ 2089 = omega arith in
      let m : t.month ≡ 12 = omega arith in
      let d : t.day ≡ 31 = omega (arith, ap (month_length t.year) m) in
      same_date t last_date y m d

  next_day : (t ≡ last_date → ⊥) → NextDay t
  next_day notLast =
      ⊎_elim same_month
      (λ h. ⊎_elim (next_month h) (λ k. ⊎_elim (next_year h k) (λ l. absurd (notLast (last_date_lem h k l))) (lt_or_ge t.year 2089)) (lt_or_ge t.month 12))
      (lt_or_ge t.day (month_length t.year t.month))

-- THE ORDER OF DAYS
ordered : (s t : Date) → Real s.year s.month s.day → Real t.year t.month t.day → Before s t → number_of s < number_of t
unfolding day_number
ordered s t p q (inl h) = omega (arith, in_year p, years_rise (s.year - 1990 + 1) (t.year - 1990) (omega (arith, p, q)))
ordered s t p q (inr (y, inl h)) =
    omega (
      arith,
      in_month p,
      months_rise s.year (s.month + 1) t.month (omega arith),
      ap (λ (n : ℕ). year_days (n - 1990) + month_days n t.month) y,
    )
ordered s t p q (inr (y, inr (m, h))) =
    omega (arith, ap (λ (n : ℕ). year_days (n - 1990) + month_days n s.month) y, ap (month_days t.year) m)

-- neither is before the other
numbers_tell : (s t : Date) → Real s.year s.month s.day → Real t.year t.month t.day → number_of s ≡ number_of t → s ≡ t
numbers_tell s t p q e =
    let y : s.year ≡ t.year = same (λ h. inl h) (λ h. inl h) in
    let m : s.month ≡ t.month = same (λ h. inr (y, inl h)) (λ h. inr (sym y, inl h)) in
    same_date s t y m (same (λ h. inr (y, inr (m, h))) (λ h. inr (sym y, inr (sym m, h))))
  where
    same : {a b : ℕ} → (a < b → Before s t) → (b < a → Before t s) → a ≡ b
    same {a} {b} f g =
        let h : ¬ (a < b) = λ l. omega (arith, ordered s t p q (f l)) in
        let k : ¬ (b < a) = λ l. omega (arith, ordered t s q p (g l)) in
        omega arith

-- EVERY NUMBER IS A DAY'S, from that of 1 January 1990 to that of the last date
each_number : (n : ℕ) → n < 36525 → Numbered n
unfolding day_number year_days month_days month_length real_date leap
each_number zero h = record { date = record { year = 1990; month = 1; day = 1 }; real = refl; number = refl }
each_number (suc n) h = more (each_number n (omega arith))
  where
    more : Numbered n → Numbered (suc n)
    more p =
        let d = next_day p.date (real _ _ _ p.real) (λ e. omega (arith, p.number, ap number_of e)) in
        record { date = next p.date; real = d.real; number = omega (arith, d.number, p.number) }

-- no day has a greater number
number_below : (t : Date) → Real t.year t.month t.day → number_of t < 36525
unfolding year_days leap
number_below t r = omega (arith, in_year r, years_rise (t.year - 1990 + 1) 100 (omega (arith, r)))

pub days : Days
unfolding weekday_of day_number year_days month_days month_length leap
days =
    record {
      saturday = refl;
      next = λ t r. next_day t (real _ _ _ r);
      order = λ s t p q. ordered s t (real _ _ _ p) (real _ _ _ q);
      one = λ s t p q. numbers_tell s t (real _ _ _ p) (real _ _ _ q);
      below = λ t r. number_below t (real _ _ _ r);
      each = each_number;
    }
