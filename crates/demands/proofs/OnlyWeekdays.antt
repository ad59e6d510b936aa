-- THE DEMANDS DECIDE THE WEEKDAY of every date: two families R and S that meet them tell the same. A date that isn't real is refused by demand 1; every real one is reached from
-- 1 January 1990, day by day, so that what is known of 1 January 2000 settles all of them. Assumes nothing.
use Prim.Native.Nat.{ℕ, zero, suc, ◌+◌, ◌%◌, ◌<◌}
use mathlib.Core.Path.{◌≡◌, refl, sym, ◌∙◌, ap}
use mathlib.Core.List.{[]}
use mathlib.Core.Option.{none}
use native.Mathlib.Omega.{arith}
use borrow.Author.Tests.{not-false}
use Rattle.meaning.specs.declared.Date.{Date}
use Rattle.meaning.specs.Calendar.{weekday_of}
use Rattle.meaning.specs.Examples.{date}
use Rattle.meaning.specs.Questions as ask
use Rattle.meaning.specs.Questions.{refusal_in}
use Rattle.almanac.specs.Days.{IsReal, number_of, next}
use Rattle.almanac.proofs.NextDay.{days}
use Rattle.demands.specs.Calendar.{OneOfSeven, WeekdaysSay}
use Rattle.demands.specs.Demand1.{sixteen, refusals_of}
use Rattle.demands.specs.Demands.{Demands}
use Rattle.demands.specs.Replies.{Replies, outcome_by}
use Rattle.demands.proofs.OnlyFirst.{reply_same, refusal_same, first_none, given_none}
use Rattle.demands.proofs.Weekdays.{dated}
use Rattle.std.specs.Prelude.{Ok}
use Rattle.meaning.specs.Values.{Reply}
use Rattle.meaning.specs.declared.Answer.{Answer}

-- A REAL DATE
module _ (weekday : Date → Reply) (says : WeekdaysSay weekday) where
  -- 1 January 1990, whose number is 0
  first_day : OneOfSeven (weekday (date 1990 1 1))
  unfolding dated
  first_day = says.each (date 1990 1 1) refl

  -- from day to day, by its number
  by_number : (n : ℕ) → n < 36525 → (t : Date) → IsReal t → number_of t ≡ n → weekday t ≡ Ok (Answer.Weekday ((first_day.day + n) % 7))
  unfolding dated
  by_number zero l t r e =
      let same : t ≡ date 1990 1 1 = days.one t (date 1990 1 1) r refl e in
      rw same (first_day.is ∙ ap (λ k. Ok (Answer.Weekday k)) (omega (arith, first_day.below)))
  by_number (suc n) l t r e =
      let p = days.each n (omega arith) in
      let after = days.next p.date p.real (λ f. omega (arith, p.number, ap number_of f)) in
      let same : t ≡ next p.date = days.one t (next p.date) r after.real (omega (arith, e, after.number, p.number)) in
      rw same (says.next p.date p.real after.real _ (by_number n (omega arith) p.date p.real p.number) ∙ ap (λ k. Ok (Answer.Weekday k)) (omega arith))

  -- 1 January 2000 is number 3,652, so 1 January 1990 was a Monday
  first_monday : first_day.day ≡ 1
  unfolding dated
  first_monday =
      let told = by_number 3652 (omega arith) (date 2000 1 1) refl refl in
      let same : (first_day.day + 3652) % 7 ≡ 6 = cc (told, says.saturday) in omega (arith, first_day.below)

  weekday_is : (t : Date) → IsReal t → weekday t ≡ Ok (Answer.Weekday (weekday_of (number_of t)))
  unfolding weekday_of
  weekday_is t r = by_number (number_of t) (days.below t r) t r refl ∙ ap (λ k. Ok (Answer.Weekday k)) (omega (arith, first_monday))

-- ANY DATE
pub weekday_only : (R S : Replies) → Demands R → Demands S → (t : Date) → R.weekday t ≡ S.weekday t
unfolding outcome_by refusals_of sixteen
weekday_only R S r s t =
    reply_same (R.weekday t) (S.weekday t) (refusal_same R S r s [] [] (ask.weekday t) refl) (λ e.
    let real = not_refused e in
    weekday_is R.weekday (r.second [] []).calendar.weekdays t real ∙ sym (weekday_is S.weekday (s.second [] []).calendar.weekdays t real))
  where
    not_refused : refusal_in (R.weekday t) ≡ none → IsReal t
    not_refused e = not-false _ (given_none _ _ (first_none _ [] (sym ((r.first [] []).asked (ask.weekday t)).first ∙ e)).0)
