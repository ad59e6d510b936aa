-- The wrong weekdays of specs/Wrong.antt break what is said from each day to the next. Assumes nothing.
use Prim.Native.Nat.{ℕ, ◌+◌, ◌%◌}
use mathlib.Core.Path.{◌≡◌, refl}
use native.Mathlib.Omega.{arith}
use Rattle.meaning.specs.Examples.{date}
use Rattle.meaning.proofs.Either.{clash}
use Rattle.demands.specs.Replies.{Replies}
use Rattle.demands.specs.Wrong.{from_march, WrongWeekdays}
use Rattle.demands.proofs.Weekdays.{dated}

pub wrong_weekdays : (R : Replies) → WrongWeekdays R
unfolding dated
wrong_weekdays R =
    record {
      unshifted = λ w says. let z : from_march (date 2000 1 1) ≡ 6 = cc (w.told (date 2000 1 1) refl, says.saturday) in omega arith;
      one_off = λ w says.
          let leap_day = says.each (date 2024 2 29) refl in
          let after = says.next (date 2024 2 29) refl refl leap_day.day leap_day.is in
          let z : (leap_day.day + 1) % 7 ≡ leap_day.day = cc (w.same, after, leap_day.is) in omega (arith, leap_day.below);
      common_year = λ w says. let leap_day = says.each (date 2000 2 29) refl in clash (cc (w.unreal, leap_day.is));
      monday_first = λ w says. let z : ◌≡◌ {A = ℕ} 5 6 = cc (w.five, says.saturday) in omega arith;
    }
