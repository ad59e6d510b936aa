-- `octets::part`: it starts no later than the image ends, and goes on no further. Assumes nothing.
use mathlib.Core.Path.{◌∙◌}
use Rattle.octets.proofs.Laws.{part_cut, stands_at}
use Rattle.octets.proofs.part.Goals as goal

pub returns : goal.returns
returns c =
    let from = c.least-at.ensures ∙ rw c.octet.ensures in record { reply = part_cut c.args.image.now c.args.start.0 c.args.octets _ _ from c.least.ensures; place = stands_at _ _ from }
