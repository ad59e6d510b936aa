-- THE LATEST OF WHAT SOME RECORDS BRING, by the day or the minute from which it holds; of equals, the later record. Assumes nothing.
-- Wrong answers ruled out: the first of two records of one time; a record of an earlier time that stands last in the list.
use Rattle.std.specs.Prelude.{ℕ, ◌<◌, ◌≤◌, ◌≡◌, None}
use mathlib.Core.List.{List, ◌∷◌, ◌++◌, Memᴰ}
use Rattle.meaning.specs.declared.Triple.{Triple}
use Rattle.meaning.specs.Passed.{Exactly}
use Rattle.meaning.specs.Calendar.{latest}
use Rattle.meaning.specs.Values.{Chosen, entry}

infix 40 ◌among◌
abbrev pub ◌among◌ : Triple → List Triple → Type 0
r among rs = Memᴰ r rs

-- one of the records brings it: none before brings anything at a later time, none after it anything at that time or later
pub record Latest (f : Triple → Chosen) (rs : List Triple) (w x : ℕ) : Type 0 where
  pub before : List Triple
  pub chosen : Triple
  pub after : List Triple
  pub all : rs ≡ before ++ chosen ∷ after
  pub brings : f chosen ≡ entry w x
  pub earlier : (r : Triple) → r among before → (v y : ℕ) → f r ≡ entry v y → v ≤ w
  pub later : (r : Triple) → r among after → (v y : ℕ) → f r ≡ entry v y → v < w

pub record LatestSays (f : Triple → Chosen) (rs : List Triple) : Type 0 where
  pub entry : (w x : ℕ) → Exactly (latest f rs ≡ entry w x) (Latest f rs w x)
  pub nothing : Exactly (latest f rs ≡ None) ((r : Triple) → r among rs → f r ≡ None)
