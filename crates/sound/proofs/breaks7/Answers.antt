-- `sound::breaks7`: the octets held for a slot are those that the earlier items gave. Assumes nothing.
use borrow.Author.Tests.{lt-ltb, le-ltb}
use Rattle.meaning.specs.Description.{breaks7}
use Rattle.sound.proofs.breaks7.Goals as goal

pub returns-then-slot-gt0 : goal.returns-then-slot-gt0
unfolding breaks7
returns-then-slot-gt0 c =
    rw (lt-ltb _ _ c.if-slot-gt0.true, c.octets_of_slot.ensures.0, c.requires.1.octets _ c.if-slot-gt0.true c.requires.0.slot)

pub returns-else-slot-gt0 : goal.returns-else-slot-gt0
unfolding breaks7
returns-else-slot-gt0 c = rw (le-ltb _ _ c.if-slot-gt0.false)
