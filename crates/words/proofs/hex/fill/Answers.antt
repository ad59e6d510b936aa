-- `words::hex::fill`. The loop's invariant: the first i of the word's octets stand at the start of out. Assumes nothing.
use mathlib.Core.Path.{refl, ◌≡◌}
use native.Mathlib.Omega.{arith}
use lib.ListN.{length}
use Rattle.words.specs.Hex.{octets_of}
use Rattle.words.proofs.HexLaws.{hex_at, octets_length, octet_at}
use Rattle.words.proofs.PutLaws.{pasted_none, pasted_more, pasted_all}
use Rattle.words.proofs.hex.fill.Goals as goal

pub loop-i-init : goal.loop-i-init
loop-i-init c =
    let n : length (octets_of c.args.word.now) ≡ c.args.count = omega (arith, octets_length c.args.word.now) in
    (n, pasted_none _ _ _ (omega arith))

pub hex_value-high-requires : goal.hex_value-high-requires
hex_value-high-requires c = hex_at _ _ c.requires.word_value (omega arith)

pub hex_value-low-requires : goal.hex_value-low-requires
hex_value-low-requires c = hex_at _ _ c.requires.word_value (omega arith)

pub loop-i-preserved : goal.loop-i-preserved
loop-i-preserved c =
    let v = octet_at c.args.word.now c.loop-i.i (omega arith) in
    (c.loop-i.invariant.0, pasted_more _ _ _ c.loop-i.invariant.1 (omega arith) (omega arith) (rw (c.hex_value-high.ensures.value, c.hex_value-low.ensures.value) v) refl)

pub shape_of-out : goal.shape_of-out
shape_of-out c = c.loop-i.invariant.1.long

pub returns : goal.returns
returns c = pasted_all c.loop-i.invariant.1 (omega arith)
