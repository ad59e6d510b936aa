-- A word as a number, and a number as a word. A number is one or more decimal digits, leading zeros allowed, with a value of at most
-- a given `most`; a reply's numbers have no leading zeros. Octets are ASCII: `0` is 48 and `9` is 57. Assumes nothing.
use Rattle.std.specs.Prelude.{ℕ, zero, suc, ◌+◌, ◌-◌, ◌*◌, ◌/◌, ◌%◌, ◌^◌, List, [], ◌∷◌, ◌++◌, Bool, true, cond, ◌&&◌, leb, ltb, length, Option, Some, None}

-- a decimal digit: `0` to `9`
unfoldable pub is_digit : ℕ → Bool
is_digit b = leb 48 b && leb b 57

-- what an octet counts as a digit
unfoldable pub digit_of : ℕ → Option ℕ
digit_of b = cond (is_digit b) (Some (b - 48)) None

-- every octet is a decimal digit
unfoldable pub all_digits : List ℕ → Bool
all_digits [] = true
all_digits (b ∷ rest) = is_digit b && all_digits rest

-- what digits come to: each by ten to the power of how many stand after it
unfoldable pub value_of : List ℕ → ℕ
value_of [] = 0
value_of (b ∷ rest) = (b - 48) * 10 ^ length rest + value_of rest

-- a number word: not empty, all digits, and of a value of at most `most`
unfoldable pub is_number : List ℕ → ℕ → Bool
is_number word most = leb 1 (length word) && (all_digits word && leb (value_of word) most)

-- a word as a number
unfoldable pub number_of : List ℕ → ℕ → Option ℕ
number_of word most = cond (is_number word most) (Some (value_of word)) None

-- a number in decimal, in at most so many digits: under ten, its one digit; else the digits of its tenth, then its last digit
unfoldable pub digits_of : ℕ → ℕ → List ℕ
digits_of zero n = []
digits_of (suc most) n = cond (ltb n 10) ((48 + n) ∷ []) (digits_of most (n / 10) ++ ((48 + n % 10) ∷ []))

-- a number as a reply has it: no number under 2^64 has more than 20 digits
unfoldable pub decimal_text : ℕ → List ℕ
decimal_text n = digits_of 20 n
