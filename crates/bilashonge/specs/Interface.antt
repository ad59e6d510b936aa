-- THE C INTERFACE: what C hands over, as the values of which the definitions speak, and document 01's numbers of an answer, as the fields of a struct. Assumes nothing.
use Rattle.std.specs.Prelude.{ℕ, List, [], ◌∷◌, length, get_or}
use Rattle.meaning.specs.declared.Date.{Date}
use Rattle.meaning.specs.declared.ElementName.{ElementName}
use Rattle.meaning.specs.declared.Moment.{Moment}
use Rattle.meaning.specs.declared.Told.{Told}
use Rattle.bilashonge.specs.declared.Total.{Total}
use Rattle.bilashonge.specs.declared.Place.{Place}
use Rattle.bilashonge.specs.declared.Number.{Number}
use Rattle.bilashonge.specs.declared.Tier.{Tier}
use Rattle.bilashonge.specs.declared.Answer.{Answer}
use Rattle.bilashonge.specs.declared.Weekday.{Weekday}

-- WHAT AN ANSWER IS IN C: what its reply tells in numbers (`Told`, crate meaning), field by field. A refusal is a struct of that crate
abbrev pub in_total : Told → Total
in_total t = record { refusal = t.refusal; total = t.first }

abbrev pub in_place : Told → Place
in_place t = record { refusal = t.refusal; start = t.first; length = t.second }

abbrev pub in_number : Told → Number
in_number t = record { refusal = t.refusal; number = t.first }

abbrev pub in_tier : Told → Tier
in_tier t = record { refusal = t.refusal; none = t.first; tier = t.second }

abbrev pub in_answer : Told → Answer
in_answer t = record { refusal = t.refusal; yes = t.first }

abbrev pub in_weekday : Told → Weekday
in_weekday t = record { refusal = t.refusal; weekday = t.first }

-- WHAT IS ASKED FROM C
-- an element: its item and the subscripts lent. Four places; with more subscripts the count says so, and names no element
unfoldable pub element_named : (item : ℕ) → (subscripts : List ℕ) → ElementName
element_named i xs = record { item = i; count = length xs; subscripts = get_or xs 0 0 ∷ get_or xs 1 0 ∷ get_or xs 2 0 ∷ get_or xs 3 0 ∷ [] }

-- a date
unfoldable pub date_of : (year month day : ℕ) → Date
date_of y m d = record { year = y; month = m; day = d }

-- a date and a time of day
unfoldable pub moment_of : (year month day hour minute : ℕ) → Moment
moment_of y m d h n = record { year = y; month = m; day = d; hour = h; minute = n }
