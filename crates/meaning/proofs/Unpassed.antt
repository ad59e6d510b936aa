-- Each of the three outcomes is met, by a description that isn't passed: by computing. Assumes nothing.
use mathlib.Core.Path.{refl}
use mathlib.Core.List.{[], ◌∷◌}
use Rattle.meaning.proofs.Computing.{computing}
use Rattle.meaning.specs.Examples.{items, D_unset, first}
use Rattle.meaning.specs.Unpassed.{stop_of, UnreadDimensionMet, BitOutsideMet, UnequalElementsMet}
use Rattle.meaning.specs.Numbers.{breaks_rule}

-- slot 4 is never set
pub unread_dimension_met : UnreadDimensionMet
unfolding computing stop_of
unread_dimension_met =
    record { description = D_unset; image = first; refusal = breaks_rule 7 4; item = 4; not_passed = refl; stops = refl }

-- item 2 reads bits 7 and 8 of a one-octet element
pub bit_outside_met : BitOutsideMet
unfolding computing stop_of
bit_outside_met =
    record {
      description = items (0x10000002 ∷ 0x20100000 ∷ 0x404E1000 ∷ []);
      image = 0 ∷ 0 ∷ [];
      refusal = breaks_rule 7 2;
      item = 2;
      not_passed = refl;
      stops = refl;
    }

-- item 4 is a dimension in an array: each element begins with its own count, 2 and then 1
pub unequal_elements_met : UnequalElementsMet
unfolding computing stop_of
unequal_elements_met =
    record {
      description = items (0x10000005 ∷ 0x20100000 ∷ 0x20200000 ∷ 0x50807002 ∷ 0x20300000 ∷ 0x40C07000 ∷ []);
      image = 0 ∷ 2 ∷ 2 ∷ 9 ∷ 9 ∷ 1 ∷ 9 ∷ [];
      refusal = breaks_rule 3 4;
      item = 3;
      not_passed = refl;
      stops = refl;
    }
