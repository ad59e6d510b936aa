-- Why there is no such element, an item at a time: none is left, or the next is passed or in the way. Assumes nothing.
use Rattle.std.specs.Prelude.{if◌then◌else◌}
use Prim.Native.Nat.{ℕ, suc, ◌+◌}
use mathlib.Core.Path.{◌≡◌, refl}
use mathlib.Core.Bool.{Bool, true, false, ◌&&◌}
use mathlib.Core.List.{List}
use Rattle.meaning.specs.Basics.{◌=?◌}
use Rattle.meaning.specs.declared.Refusal.{Refusal}
use Rattle.meaning.specs.Causes.{encloses, is_below, is_taken, hindrance, in_the_way}
use Rattle.meaning.specs.Description.{fields_at, is_array, is_choice}
use Rattle.meaning.specs.Layout.{Numbers}
use Rattle.meaning.specs.Numbers.{nothing_refused, branch_not_chosen, subscript_too_large}

module _ (d : List ℕ) (v : Numbers) (i : ℕ) (xs : List ℕ) where
  pub way_none : (j k : ℕ) → in_the_way d v i xs 0 j k ≡ nothing_refused
  unfolding in_the_way
  way_none j k = refl

  pub way_step : (n j k : ℕ) → in_the_way d v i xs (suc n) j k
      ≡ (if is_array (fields_at d j) && encloses (fields_at d j) j i then (if is_below d v xs j k then in_the_way d v i xs n (j + 1) (k + 1) else subscript_too_large k)
      else if is_choice (fields_at d j) && encloses (fields_at d j) j i then (if is_taken d v i j then in_the_way d v i xs n (j + 1) k else branch_not_chosen)
      else in_the_way d v i xs n (j + 1) k)
  unfolding in_the_way hindrance
  way_step n j k =
      go (is_array (fields_at d j) && encloses (fields_at d j) j i) (is_below d v xs j k) (is_choice (fields_at d j) && encloses (fields_at d j) j i) (is_taken d v i j) (in_the_way d v i xs n (j + 1))
    where
      why : (a b c t : Bool) → Refusal
      why a b c t = if a then (if b then nothing_refused else subscript_too_large k) else if c then (if t then nothing_refused else branch_not_chosen) else nothing_refused

      go : (a b c t : Bool) (rest : ℕ → Refusal)
          → (if (why a b c t).number =? 0 then rest (if a then k + 1 else k) else why a b c t)
          ≡ (if a then (if b then rest (k + 1) else subscript_too_large k) else if c then (if t then rest k else branch_not_chosen) else rest k)
      go true true c t rest = refl
      go true false c t rest = refl
      go false b true true rest = refl
      go false b true false rest = refl
      go false b false t rest = refl
