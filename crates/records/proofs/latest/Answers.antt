-- `records::latest`: the loop has the latest of the records before this one. Assumes nothing.
use mathlib.Core.Path.{refl, ◌∙◌}
use Rattle.std.proofs.lemmas.List.{take_all}
use Rattle.meaning.specs.Calendar.{latest}
use Rattle.records.proofs.Laws.{latest_next, latest_whole}
use Rattle.records.proofs.latest.Goals as goal

pub loop-record-init : goal.loop-record-init
unfolding latest
loop-record-init c = refl

pub loop-record-preserved : goal.loop-record-preserved
loop-record-preserved c =
    c.or_later-chosen.ensures ∙ rw (c.brought_to.ensures, c.triple_of.ensures, c.loop-record.invariant)
    (latest_next _ _ _ _ c.loop-record-test.true)

pub returns : goal.returns
returns c = c.loop-record.invariant ∙ rw (take_all _ _ c.loop-record-test.false, c.as_chunks.ensures.front) (latest_whole _ _ _)
