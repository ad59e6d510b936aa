-- A word as octets, and octets as a word. Octets are lower-case hex, two digits each, at least one octet; the word `-` is no octets.
-- Octets are ASCII: `0` is 48, `9` 57, `a` 97, `f` 102 and `-` 45. Assumes nothing.
use Rattle.std.specs.Prelude.{ℕ, ◌+◌, ◌-◌, ◌*◌, ◌/◌, ◌%◌, List, [], ◌∷◌, ◌≡◌, Bool, false, cond, ◌&&◌, ◌||◌, leb, ltb, eqb, length, Option, Some, None}
use Rattle.std.specs.List.{list_all}
use Rattle.words.specs.Put.{fits, laid}

-- a hex digit: `0` to `9`, or `a` to `f`
unfoldable pub is_hex : ℕ → Bool
is_hex b = leb 48 b && leb b 57 || leb 97 b && leb b 102

-- what a hex digit counts: `0` is 0, `a` is 10
unfoldable pub hex_value : ℕ → ℕ
hex_value b = cond (leb b 57) (b - 48) (b - 87)

-- every octet is a hex digit
unfoldable pub all_hex : List ℕ → Bool
all_hex word = list_all is_hex word

-- the word `-`
unfoldable pub is_dash : List ℕ → Bool
is_dash [] = false
is_dash (b ∷ []) = eqb b 45
is_dash (b ∷ c ∷ rest) = false

-- a word of octets: `-`, or hex digits, an even number of them and at least two
unfoldable pub are_octets : List ℕ → Bool
are_octets word = is_dash word || (leb 2 (length word) && (eqb (length word % 2) 0 && all_hex word))

-- the octets of such a word, two digits each, the high one first; `-` has none
unfoldable pub octets_of : List ℕ → List ℕ
octets_of [] = []
octets_of (b ∷ []) = []
octets_of (high ∷ low ∷ rest) = (hex_value high * 16 + hex_value low) ∷ octets_of rest

-- a word can be read into `out`: it is one of octets, and `out` has room for them
unfoldable pub can_read : List ℕ → List ℕ → Bool
can_read word out = are_octets word && fits out 0 (octets_of word)

-- a word was read into `out`: the reply is how many octets, and `out` starts with them, the rest as before; or it cannot be read, the
-- reply is None and `out` is unchanged
pub record OctetsRead (word out later : List ℕ) (r : Option ℕ) : Type 0 where
  pub reply : r ≡ cond (can_read word out) (Some (length (octets_of word))) None
  pub memory : later ≡ cond (can_read word out) (laid out 0 (octets_of word)) out

-- a hex digit as text
unfoldable pub hex_digit : ℕ → ℕ
hex_digit d = cond (ltb d 10) (48 + d) (87 + d)

-- octets in hex, two digits each, the high one first
unfoldable pub hex_pairs : List ℕ → List ℕ
hex_pairs [] = []
hex_pairs (b ∷ rest) = hex_digit (b / 16) ∷ hex_digit (b % 16) ∷ hex_pairs rest

-- octets as a reply has them: `-` for none
unfoldable pub hex_text : List ℕ → List ℕ
hex_text [] = 45 ∷ []
hex_text (b ∷ rest) = hex_pairs (b ∷ rest)
