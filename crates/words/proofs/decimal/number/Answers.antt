-- `words::number`: a law for each way out. Assumes nothing.
use mathlib.Core.Path.{sym, ◌∙◌}
use native.Mathlib.Omega.{arith}
use borrow.Author.Rules.{rules}
use Prim.Native.Nat.{◌<◌}
use lib.ListN.{length}
use Rattle.std.proofs.lemmas.Bool.Decides.{nat_tests}
use Rattle.words.proofs.NumberLaws.{so_far_none, so_far_more, so_far_all, too_large, empty, no_digit}
use Rattle.words.proofs.decimal.number.Goals as goal

pub returns-then-is_empty : goal.returns-then-is_empty
returns-then-is_empty c = empty _ _ (search rules)

pub loop-b-init : goal.loop-b-init
loop-b-init c = so_far_none _ _

pub returns-in_err-d : goal.returns-in_err-d
returns-in_err-d c =
    c.from_residual.ensures ∙ no_digit _ _ c.loop-b.b-index (omega arith) (sym c.digit.ensures ∙ c.in_err-d.was)

pub returns-then-most-d : goal.returns-then-most-d
returns-then-most-d c = too_large c.loop-b.invariant (omega arith) (sym c.digit.ensures ∙ c.in_ok-d.was) (omega arith)

pub returns-then-most-d-2 : goal.returns-then-most-d-2
returns-then-most-d-2 c = too_large c.loop-b.invariant (omega arith) (sym c.digit.ensures ∙ c.in_ok-d.was) (omega arith)

pub loop-b-preserved : goal.loop-b-preserved
loop-b-preserved c = so_far_more c.loop-b.invariant (omega arith) (sym c.digit.ensures ∙ c.in_ok-d.was) (omega arith)

pub returns : goal.returns
returns c =
    let some : 0 < length c.args.word.now = grind (arith, nat_tests) in
    so_far_all _ _ _ _ c.loop-b.invariant some (omega arith)
