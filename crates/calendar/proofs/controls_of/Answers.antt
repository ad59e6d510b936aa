-- `calendar::controls_of`: octet by octet. Assumes nothing.
use Prim.Native.Nat.{◌+◌, ◌≤◌}
use lib.ListN.{length}
use mathlib.Core.Path.{refl}
use native.Mathlib.Omega.{arith}
use Rattle.records.proofs.Laws.{word_is, word_fits}
use Rattle.meaning.specs.Calendar.{controls_of}
use Rattle.basics.proofs.Bits.{from_bit_0}
use Rattle.calendar.proofs.controls_of.Goals as goal

pub returns : goal.returns
unfolding controls_of
returns c =
    let inside : 5 + 3 ≤ length c.args.table.now = omega arith in record {
      reply = rw (
        from_bit_0 c.wide-schedules.result 16,
        c.wide-first.ensures.0,
        c.wide-second.ensures.0,
        c.wide-schedules.ensures.0,
        c.wide.ensures.0,
        c.wide-2.ensures.0,
        word_is _ c.args.table.now 5 7 _ refl inside c.number_in.ensures.0,
      );
      small = omega (
        arith,
        c.wide.ensures.1,
        c.wide-2.ensures.1,
        word_fits c.args.table.now 5 7 _ refl inside c.number_in.ensures.1,
      );
    }
