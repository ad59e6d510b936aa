-- RECORDS OF TABLE 54: what they bring to whoever asks. Assumes nothing.
use Rattle.std.specs.Prelude.{ℕ, Option, Some, None, ◌-◌, ◌/◌, ◌&&◌, List, length, if◌then◌else◌}
use Rattle.meaning.specs.Basics.{bits, ◌≤?◌}
use Rattle.meaning.specs.Calendar.{triples, latest, year_of, season_entry, special_entry, switch_entry}
use Rattle.meaning.specs.declared.Triple.{Triple}
use Rattle.dates.specs.Days.{day_of}
use Rattle.records.specs.declared.Wanted.{Wanted}
use Rattle.records.specs.declared.Wanted.TheVariants.{Season, Special, Switch}
use Rattle.meaning.specs.Values.{Chosen}

-- a record's date, as a day's number, where it is real
unfoldable pub record_date : Triple → Option ℕ
record_date r = day_of (year_of (bits 6 0 r.word)) (bits 10 7 r.word) (bits 15 11 r.word)

-- what an action selects, where it is one of some: the first of them selects 0
unfoldable pub selected : (first last action : ℕ) → Option ℕ
selected f l a = if f ≤? a && a ≤? l then Some (a - f) else None

-- what a record brings to whoever asks
unfoldable pub brought_to : Wanted → Triple → Chosen
brought_to (Season today) r = season_entry today r
brought_to (Special today) r = special_entry today r
brought_to (Switch separate q n m) r = switch_entry separate q n m r

-- from when something holds; 0 where there is nothing
unfoldable pub when_of : Chosen → ℕ
when_of None = 0
when_of (Some e) = e.when

-- the latest of what whole records of three octets bring
unfoldable pub latest_in : (order : ℕ) → (records : List ℕ) → Wanted → Chosen
latest_in o xs w = latest (brought_to w) (triples o xs 0 (length xs / 3))
