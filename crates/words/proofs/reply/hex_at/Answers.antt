-- `words::reply::hex_at`: a turn stores two digits, each by one step of `Pasted`. Assumes nothing.
use mathlib.Core.Path.{refl, ◌∙◌}
use Prim.Native.Nat.{◌+◌, ◌*◌}
use native.Mathlib.Omega.{arith}
use lib.ListN.{length-set}
use Rattle.words.proofs.HexLaws.{pairs_length, pair_at}
use Rattle.words.proofs.PutLaws.{pasted_none, pasted_more, pasted_all}
use Rattle.words.proofs.reply.hex_at.Goals as goal

pub loop-b-init : goal.loop-b-init
loop-b-init c =
    let n = pairs_length c.args.octets.now in
    (n, omega arith, pasted_none _ _ _ (omega (arith, n)))

pub bounds-out-to-in-loop-b : goal.bounds-out-to-in-loop-b
bounds-out-to-in-loop-b c = simp length-set (omega arith)

pub loop-b-preserved : goal.loop-b-preserved
loop-b-preserved c =
    let pair = pair_at c.args.octets.now c.loop-b.b-index (omega arith) in
    let high = pasted_more c.loop-b.to c.hex_digit.result (c.loop-b.b-index * 2 + 1) c.loop-b.invariant.2 (omega arith) (omega arith) (c.hex_digit.ensures ∙ pair.0) refl in
    (c.loop-b.invariant.0, omega arith, pasted_more _ _ _ high (omega arith) (omega arith) (c.hex_digit-in-loop-b.ensures ∙ pair.1) (omega arith))

pub shape_of-out : goal.shape_of-out
shape_of-out c = c.loop-b.invariant.2.long

pub returns : goal.returns
returns c = pasted_all c.loop-b.invariant.2 (omega arith)
