-- `words::hex::piece_hex`: a turn takes the first octet of what is left. Assumes nothing.
use mathlib.Core.Path.{sym, ◌∙◌}
use mathlib.Core.Bool.{and_assoc, and-true}
use Rattle.words.proofs.HexLaws.{hex_next, hex_end}
use Rattle.words.proofs.hex.piece_hex.Goals as goal

pub loop-b-preserved : goal.loop-b-preserved
loop-b-preserved c =
    c.loop-b.invariant ∙ rw (hex_next _ _ c.loop-b-test.true, ← c.is_hex-all.ensures) (sym (and_assoc c.loop-b.all c.is_hex-all.result _))

pub returns : goal.returns
returns c = sym (c.loop-b.invariant ∙ rw (hex_end _ _ c.loop-b-test.false) (and-true c.loop-b.all))
