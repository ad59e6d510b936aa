-- What is known where the words of a line have been read. Assumes nothing.
use Rattle.std.specs.Prelude.{ℕ, ◌+◌, ◌≤◌, ◌≡◌, List, length, take, Option, Some, None, is_some, if◌then◌else◌}
use Rattle.words.specs.Hex.{are_octets, octets_of}
use Rattle.lines.specs.declared.rows.Form.{Form}
use Rattle.lines.specs.declared.read.Asked.{Asked}
use Rattle.lines.specs.Answer.{are_numbers, numbers_in, seven, limits, d_word, m_word, given_word, of_form}

-- the first `count` of seven
pub record OfSeven (count : ℕ) (most : List ℕ) : Type 0 where
  pub few : count ≤ 7
  pub long : length most ≡ 7

-- the numbers from a word on, where each is one within its limit, filled up with zeros to seven
unfoldable pub numbers_of : (words : List (List ℕ)) → (from : ℕ) → (most : List ℕ) → Option (List ℕ)
numbers_of words from most = if are_numbers words from most then Some (seven (numbers_in words from most)) else None

-- a word was read into memory that is `later` now: there is an answer where it is one of octets; it is how many, at most half of a line's, and `later` starts with them
pub record PartRead (word later : List ℕ) (r : Option ℕ) : Type 0 where
  pub reply : is_some r ≡ are_octets word
  pub few : (n : ℕ) → r ≡ Some n → n ≤ 150000
  pub octets : (n : ℕ) → r ≡ Some n → take n later ≡ octets_of word

-- what a line of the form asks: its numbers, and what description, image and given start with
pub record AskedOf (form : Form) (words : List (List ℕ)) (description image given : List ℕ) (a : Asked) : Type 0 where
  pub d_few : a.d ≤ 150000
  pub m_few : a.m ≤ 150000
  pub given_few : a.given ≤ 150000
  pub d_octets : take a.d description ≡ octets_of (d_word form words)
  pub m_octets : take a.m image ≡ octets_of (m_word form words)
  pub given_octets : take a.given given ≡ octets_of (given_word form words)
  pub values : a.numbers ≡ seven (numbers_in words (1 + form.lent) (limits form))

-- a line was read: there is an answer where it is of the form, and it is what the line asks
pub record AskedRead (form : Form) (words : List (List ℕ)) (description image given : List ℕ) (r : Option Asked) : Type 0 where
  pub reply : is_some r ≡ of_form form words
  pub asked : (a : Asked) → r ≡ Some a → AskedOf form words description image given a
