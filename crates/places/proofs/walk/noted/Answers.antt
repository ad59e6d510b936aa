-- `walk::noted`: the slot gets the number read. Assumes nothing.
use Prim.Native.Nat.{◌^◌, ◌≤◌}
use native.Mathlib.Omega.{arith}
use native.Mathlib.Nat.{pow-le-pow_right}
use borrow.Author.Tests.{ne_eqb}
use Rattle.octets.proofs.Laws.{read_there}
use Rattle.places.specs.Walking.{noted}
use Rattle.places.proofs.walk.noted.Goals as goal

pub overflow_cast-later : goal.overflow_cast-later
unfolding noted
overflow_cast-later c =
    let m : 256 ^ c.args.octets ≤ 256 ^ 4 = pow-le-pow_right (omega arith) c.requires.2.few in omega (arith, c.number_at.ensures.1)

pub returns : goal.returns
unfolding noted
returns c =
    rw (ne_eqb c.args.slot 0 (λ z. omega (arith, c.requires.0, z)), c.number_at.ensures.0, read_there _ _ _ (omega (arith, c.requires.2.few)) c.requires.2.inside)
