-- The few words that the definitions share: tests and choices, bits, octets as numbers, parts of a list. Nothing here knows of meters.
use Rattle.std.specs.Prelude.{ℕ, zero, suc, ◌+◌, ◌-◌, ◌*◌, ◌/◌, ◌%◌, ◌^◌, Bool, List, [], ◌∷◌, ◌++◌, reverse, eqb, leb, ltb, length, take, drop, if◌then◌else◌}

infix 40 ◌=?◌ ◌<?◌ ◌≤?◌
-- the tests: equal, below, at most
abbrev pub ◌=?◌ : ℕ → ℕ → Bool
a =? b = eqb a b

abbrev pub ◌<?◌ : ℕ → ℕ → Bool
a <? b = ltb a b

abbrev pub ◌≤?◌ : ℕ → ℕ → Bool
a ≤? b = leb a b

-- bits high..low of a number, bit 0 least significant
abbrev pub bits : (high low : ℕ) → ℕ → ℕ
bits high low w = w / 2 ^ low % 2 ^ (high + 1 - low)

-- whether bit n is set
abbrev pub flag : ℕ → ℕ → Bool
flag n w = bits n n w =? 1

-- the n octets from `at` on, fewer where the list ends
unfoldable pub part : List ℕ → (at n : ℕ) → List ℕ
part l at n = take n (drop at l)

-- l with `new` in place of as many octets from `at` on
unfoldable pub splice : List ℕ → (at : ℕ) → List ℕ → List ℕ
splice l at new = take at l ++ new ++ drop (at + length new) l

-- the number that octets make, least significant octet first
unfoldable pub least_first : List ℕ → ℕ
least_first [] = 0
least_first (x ∷ xs) = x + 256 * least_first xs

-- the number that octets make, most significant octet first
unfoldable pub most_first : List ℕ → ℕ
most_first [] = 0
most_first (x ∷ xs) = x * 256 ^ length xs + most_first xs

-- the n octets of a number, least significant octet first
unfoldable pub octets_least_first : (n : ℕ) → ℕ → List ℕ
octets_least_first zero x = []
octets_least_first (suc n) x = x % 256 ∷ octets_least_first n (x / 256)

-- the number that octets make, and the n octets of a number, in a DATA_ORDER: 0 is least significant octet first, 1 most
unfoldable pub number_in : (order : ℕ) → List ℕ → ℕ
number_in order xs = if order =? 0 then least_first xs else most_first xs

unfoldable pub octets_in : (order n : ℕ) → ℕ → List ℕ
octets_in order n x = if order =? 0 then octets_least_first n x else reverse (octets_least_first n x)

-- f 0, f 1, .. up to n of them
unfoldable pub build : {A : Type 0} → (n : ℕ) → (ℕ → A) → List A
build zero f = []
build (suc n) f = f zero ∷ build n (λ (i : ℕ). f (suc i))
