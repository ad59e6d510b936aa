-- The three outcomes that a passed description never meets are possible: for each, a description that isn't passed and an image that meet it.
-- proofs/Unpassed.antt proves the three statements.
use Rattle.std.specs.Prelude.{ℕ, ◌≡◌, List, Err}
use Rattle.std.proofs.Math.Option.{Option, some, none}
use Rattle.meaning.specs.declared.Refusal.{Refusal}
use Rattle.meaning.specs.Description.{check_reply}
use Rattle.meaning.specs.Layout.{Layout, laid_out, stopped_at, Stop, unread_dimension, bit_outside, unequal_elements, lay_out}

-- what stopped the walk, if anything did
unfoldable pub stop_of : Layout → Option Stop
stop_of (laid_out ts es s n) = none
stop_of (stopped_at es x) = some x

-- a description, an image, and why the description isn't passed; laying out stops at an item with that outcome
pub record Met (outcome : ℕ → Stop) : Type 0 where
  pub description : List ℕ
  pub image : List ℕ
  pub refusal : Refusal
  pub item : ℕ
  pub not_passed : check_reply description ≡ Err refusal
  pub stops : stop_of (lay_out description image) ≡ some (outcome item)

-- a reference to a dimension not read yet
abbrev pub UnreadDimensionMet : Type 0
UnreadDimensionMet = Met unread_dimension

-- a bit outside its element
abbrev pub BitOutsideMet : Type 0
BitOutsideMet = Met bit_outside

-- an array whose elements differ in size
abbrev pub UnequalElementsMet : Type 0
UnequalElementsMet = Met unequal_elements
