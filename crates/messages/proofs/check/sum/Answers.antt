-- `check::sum`: the total is that of the octets so far, modulo 256. Assumes nothing.
use Rattle.std.proofs.Common.{ℕ, ◌%◌, ◌^◌, List, refl, ap, ◌∙◌, arith, take_all}
use Rattle.meaning.specs.Messages.{sum_of}
use Rattle.messages.proofs.Checks.{sum_more}
use Rattle.messages.proofs.check.sum.Goals as goal

pub loop-octet-init : goal.loop-octet-init
unfolding sum_of
loop-octet-init c = refl

pub loop-octet-preserved : goal.loop-octet-preserved
loop-octet-preserved c = omega (arith, c.loop-octet.invariant, sum_more c.args.new.now c.loop-octet.octet-index (omega arith))

pub returns : goal.returns
returns c =
    c.loop-octet.invariant ∙ ap (λ (l : List ℕ). sum_of l % 2 ^ 8) (take_all c.loop-octet.octet-index c.args.new.now c.loop-octet-test.false)
