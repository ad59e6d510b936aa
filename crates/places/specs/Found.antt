-- WHAT THE CODE FINDS: a table or none, a row in its table or none, an element or none, the table of a range or why there is none. Assumes nothing.
use Rattle.std.specs.Prelude.{Option, Result}
use Rattle.meaning.specs.declared.Refusal.{Refusal}
use Rattle.meaning.specs.declared.Location.{Location}
use Rattle.places.specs.declared.RangeTable.{RangeTable}
use Rattle.places.specs.declared.survey.Standing.{Standing}
use Rattle.places.specs.declared.survey.TableSpot.{TableSpot}

abbrev pub FoundTable : Type 0
FoundTable = Option TableSpot

abbrev pub FoundRow : Type 0
FoundRow = Option Standing

abbrev pub FoundElement : Type 0
FoundElement = Option Location

abbrev pub FoundRange : Type 0
FoundRange = Result RangeTable Refusal
