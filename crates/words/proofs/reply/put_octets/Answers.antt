-- `words::put_octets`: no octets are the text `-`; others are two digits each. Assumes nothing.
use mathlib.Core.Path.{◌≡◌}
use Prim.Native.Nat.{◌<◌}
use native.Mathlib.Omega.{arith}
use lib.ListN.{length}
use Rattle.std.proofs.lemmas.Bool.Decides.{nat_tests}
use Rattle.words.proofs.HexLaws.{text_none, text_some, text_length}
use Rattle.words.proofs.PutLaws.{put, no_room_lem}
use Rattle.words.proofs.reply.put_octets.Goals as goal

pub returns-then-is_empty : goal.returns-then-is_empty
returns-then-is_empty c =
    let none : length c.args.octets.now ≡ 0 = grind (arith, nat_tests) in
    rw (← text_none _ none) c.put_octet.ensures

pub returns-then-out-at : goal.returns-then-out-at
returns-then-out-at c =
    let some : 0 < length c.args.octets.now = grind (arith, nat_tests) in
    no_room_lem _ (omega (arith, text_length c.args.octets.now some))

pub returns-then-out-at-2 : goal.returns-then-out-at-2
returns-then-out-at-2 c =
    let some : 0 < length c.args.octets.now = grind (arith, nat_tests) in
    no_room_lem _ (omega (arith, text_length c.args.octets.now some))

pub returns : goal.returns
returns c =
    let some : 0 < length c.args.octets.now = grind (arith, nat_tests) in
    let n = text_length c.args.octets.now some in
    put (omega (arith, n)) (rw (← text_some c.args.octets.now some) c.hex_at.ensures) (omega (arith, n))
