-- `room::put_counted`: three fields, one behind the other. Assumes nothing.
use Rattle.std.proofs.Common.{length, arith}
use Rattle.meaning.specs.Messages.{counted}
use Rattle.meaning.proofs.Octets.{octets_long}
use Rattle.messages.proofs.Puts.{put_long, put_then}
use Rattle.messages.proofs.room.put_counted.Goals as goal

pub put_octets-behind_data-requires : goal.put_octets-behind_data-requires
put_octets-behind_data-requires c = omega (arith, put_long c.put_number-behind_count.ensures, octets_long 1 2 (length c.args.new.now))

pub put_octet-requires : goal.put_octet-requires
put_octet-requires c =
    omega (arith, put_long c.put_octets-behind_data.ensures, put_long c.put_number-behind_count.ensures, octets_long 1 2 (length c.args.new.now))

pub returns : goal.returns
unfolding counted
returns c =
    rw (← c.check_octet.ensures) (put_then c.put_number-behind_count.ensures (put_then c.put_octets-behind_data.ensures c.put_octet.ensures))
