-- `lines::input::Gathered::hold`: all octets, or as many as there is room for. Assumes nothing.
use native.Mathlib.Omega.{arith}
use Rattle.lines.proofs.InputLaws.{held_is}
use Rattle.lines.proofs.input.Gathered.hold.Goals as goal

pub returns : goal.returns
returns c = held_is _ _ c.args.more.now c.min-n.result _ _ (omega arith) (omega arith) c.put_text-self.ensures
