-- `words::put_number`: what `io::decimal` spells is the number's text. Assumes nothing.
use native.Mathlib.Omega.{arith}
use Rattle.words.proofs.NumberLaws.{spelled}
use Rattle.words.proofs.reply.put_number.Goals as goal

pub returns : goal.returns
returns c =
    rw (← spelled c.args.n c.decimal-k.result (omega arith) c.decimal-k.ensures.len, ← c.decimal-k.ensures.digits) c.put_text.ensures
