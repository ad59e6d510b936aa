-- The starred examples hold: each by computing both sides. Assumes nothing.
use mathlib.Core.Path.{refl}
use borrow.Author.Tests.{le-ltb}
use native.Mathlib.Omega.{arith}
use Rattle.meaning.proofs.Computing.{computing}
use Rattle.meaning.specs.Examples.{Starred}

pub starred : Starred
unfolding computing
starred =
    record {
      first_total = refl;
      first_table = refl;
      first_number = refl;
      second_total = refl;
      second_number = refl;
      second_none = refl;
      cut_short = refl;
      bare_total = refl;
      bare_table = refl;
      bare_none = λ x. rw (le-ltb x 0 (omega arith));
      empty_short = refl;
      unwritable = λ x. refl;
      dimension = λ x. refl;
      none_written = refl;
      none_changed = refl;
      past_table = λ x. refl;
      unset = refl;
      half_past = λ q. refl;
      minute_less = λ q. refl;
      before_first = λ q. refl;
    }
