-- THE WEEKDAY of a date by our replies is what specs/Calendar.antt says, from each day to the next. Assumes nothing.
use mathlib.Core.Path.{◌≡◌, refl, ◌∙◌, ap, subst}
use mathlib.Core.Bool.{false≢true}
use native.Mathlib.Omega.{arith}
use Rattle.meaning.specs.declared.Date.{Date}
use Rattle.meaning.specs.Calendar.{leap, month_length, real_date, year_days, month_days, day_number, weekday_of, weekday_reply}
use Rattle.almanac.specs.Days.{IsReal, number_of, next, last_date}
use Rattle.almanac.proofs.NextDay.{days}
use Rattle.demands.specs.Calendar.{WeekdaysSay}
use Rattle.std.specs.Prelude.{Ok}
use Rattle.meaning.specs.declared.Answer.{Answer}

-- what a date's being real, its number and the day after it are computed by
unfoldable pub dated : Unit {0}
unfolding leap month_length real_date year_days month_days day_number next
dated = tt

-- the last date has no real one after it
not_last : (t : Date) → IsReal (next t) → t ≡ last_date → ⊥
unfolding dated
not_last t r e = false≢true (subst (λ (s : Date). IsReal (next s)) e r)

weekday_told : (t : Date) → IsReal t → weekday_reply t ≡ Ok (Answer.Weekday (weekday_of (number_of t)))
unfolding weekday_reply
weekday_told t r = rw r

pub weekdays_say : WeekdaysSay weekday_reply
unfolding dated weekday_of
weekdays_say =
    record {
      each = λ t r. record { day = weekday_of (number_of t); below = omega arith; is = weekday_told t r };
      saturday = weekday_told _ refl ∙ ap (λ n. Ok (Answer.Weekday n)) days.saturday;
      next = λ t r s w e.
          let same : weekday_of (number_of t) ≡ w = cc (weekday_told t r, e) in
          weekday_told (next t) s ∙ ap (λ n. Ok (Answer.Weekday n)) (omega (arith, (days.next t r (not_last t s)).weekday));
    }
