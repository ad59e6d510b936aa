-- What is known where the question of a row has been asked. Assumes nothing.
use Rattle.std.specs.Prelude.{ℕ, ◌+◌, ◌≤◌, ◌≡◌, true, List, [], length, take}
use Rattle.meaning.specs.declared.Told.{Told}
use Rattle.meaning.specs.Refusals.{told_numbers}
use Rattle.words.specs.Put.{IsPut}
use Rattle.lines.specs.declared.message.Answered.{Answered}
use Rattle.lines.specs.Answer.{Said, form_of, said, hex_behind}

-- the numbers that the row's reply has are the question's; and `later` is the image afterwards
pub record Asks (kind : ℕ) (d m numbers new : List ℕ) (r : Told) (later : List ℕ) : Type 0 where
  pub told : take (form_of kind).told (told_numbers r) ≡ take (form_of kind).told (said kind d m numbers new).numbers
  pub image : later ≡ (said kind d m numbers new).image
  pub octets : (said kind d later numbers []).octets ≡ (said kind d m numbers new).octets

-- the octets of the question were put, as a word of the reply where it has them; they are a part of the image, or cells or a message of at most 150,000 octets
pub record Parted (kind : ℕ) (d m numbers out : List ℕ) (at : ℕ) (later : List ℕ) (r : ℕ) : Type 0 where
  pub put : IsPut out at (hex_behind at (form_of kind).part (said kind d m numbers []).octets) later r
  pub short : (form_of kind).part ≡ true → length (said kind d m numbers []).octets ≤ length m + 150000

-- a message was read: its numbers, and its octets
pub record ReadAs (s : Said) (message : List ℕ) (r : Answered) : Type 0 where
  pub told : r.numbers ≡ s.numbers
  pub within : length r.octets.now ≤ length message
  pub octets : r.octets.now ≡ s.octets

-- a row of messages was asked: its numbers, its octets, and the image afterwards
pub record MessageAsked (kind : ℕ) (d m numbers new : List ℕ) (r : Answered) (later : List ℕ) : Type 0 where
  pub told : r.numbers ≡ (said kind d m numbers new).numbers
  pub within : length r.octets.now ≤ 150000
  pub octets : r.octets.now ≡ (said kind d m numbers new).octets
  pub image : later ≡ (said kind d m numbers new).image
