-- `records::latest`: the loop has the latest of the records before this one. Assumes nothing.
use mathlib.Core.Path.{◌≡◌}
use lib.ListN.{take}
use Rattle.records.proofs.Laws.{latest_of}
use Rattle.records.proofs.latest.Given as goal

abbrev pub invariant-loop-record : goal.invariant-loop-record
invariant-loop-record l = l.chosen ≡ latest_of l.order l.wanted (take l.record-index l.whole)
