-- `sound::breaks6`: the octets held for a slot are those that the earlier items gave. Assumes nothing.
use Prim.Native.Nat.{ℕ}
use mathlib.Core.Path.{sym, ◌∙◌}
use lib.Dec.{ltb}
use Rattle.meaning.specs.Description.{breaks6}
use Rattle.sound.proofs.Laws.{known_test}
use Rattle.sound.proofs.breaks6.Goals as goal

pub returns-then-table_twice : goal.returns-then-table_twice
unfolding breaks6
returns-then-table_twice c = rw (sym c.table_twice.ensures ∙ c.if-table_twice.true) c.if-table_twice.true

pub returns-else-table_twice : goal.returns-else-table_twice
unfolding breaks6
returns-else-table_twice c =
    rw (sym c.table_twice.ensures ∙ c.if-table_twice.false) (c.slot_taken.ensures ∙ known_test _ _ _ c.args.f.sets c.requires.2 c.requires.1.sets (λ (x : ℕ). ltb 0 x))
