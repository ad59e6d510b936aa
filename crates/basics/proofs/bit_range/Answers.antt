-- `basics::bit_range`: bits past 31 are none, and a shifted 1 is a power of two. Assumes nothing.
use Prim.Native.Nat.{◌^◌}
use native.Mathlib.Omega.{arith}
use native.Mathlib.Nat.{div-le_self}
use lib.Pow.{pow_pos}
use Rattle.basics.proofs.Bits.{shifted, bits_most, none_past, all_kept}
use Rattle.basics.proofs.bit_range.Goals as goal

pub returns-then-low-gt31 : goal.returns-then-low-gt31
returns-then-low-gt31 c = none_past c.args.number c.args.low c.args.width (omega arith) c.if-low-gt31.true

pub overflow_cast-result : goal.overflow_cast-result
overflow_cast-result c = omega (arith, div-le_self c.args.number (2 ^ c.args.low))

pub returns-then-width-gt31 : goal.returns-then-width-gt31
returns-then-width-gt31 c = all_kept c.args.number c.args.low c.args.width (omega arith) c.if-width-gt31.true

pub nonzero_rem-result : goal.nonzero_rem-result
nonzero_rem-result c = rw (shifted c.args.width (omega arith)) (pow_pos c.args.width)

pub overflow_cast-result-2 : goal.overflow_cast-result-2
overflow_cast-result-2 c =
    rw (shifted c.args.width (omega arith)) (omega (arith, bits_most c.args.number c.args.low (2 ^ c.args.width)))

pub returns : goal.returns
returns c = rw (shifted c.args.width (omega arith))
