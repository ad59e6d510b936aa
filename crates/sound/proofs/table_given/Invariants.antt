-- `sound::table_given`: as many items are looked at as turns are made, and none of them is that TABLE. Assumes nothing.
use Rattle.std.proofs.Common.{◌≡◌, false}
use Rattle.meaning.specs.Description.{table_given}
use Rattle.sound.proofs.table_given.Given as goal

abbrev pub invariant-loop : goal.invariant-loop
invariant-loop l = record { at : l.place.at ≡ l.counter; none : table_given l.d l.counter l.manufacturer l.number ≡ false }
