-- THE VALUES THAT ANSWER, by their names in the definitions: a verdict, a place, a reply, what a record brings. Each is the library's `Result` or `Option`; a refusal is its `Err`.
use Rattle.std.specs.Prelude.{ℕ, Option, Some, Result, Ok}
use Rattle.offsets.specs.declared.ImageOffset.{ImageOffset}
use Rattle.meaning.specs.declared.Answer.{Answer}
use Rattle.meaning.specs.declared.Entry.{Entry}
use Rattle.meaning.specs.declared.Location.{Location}
use Rattle.meaning.specs.declared.Refusal.{Refusal}

abbrev pub Verdict : Type 0
Verdict = Result (Unit {0}) Refusal

abbrev pub Place : Type 0
Place = Result Location Refusal

abbrev pub Reply : Type 0
Reply = Result Answer Refusal

abbrev pub Chosen : Type 0
Chosen = Option Entry

-- nothing is refused
pattern abbrev pub passed : Verdict
passed = Ok tt

-- so many octets from there on
abbrev pub at : ImageOffset → (length : ℕ) → Place
at p n = Ok (record { start = p; length = n })

-- something, from a day or a minute on
abbrev pub entry : (when brings : ℕ) → Chosen
entry w x = Some (record { when = w; brings = x })
