-- `why::in_branch`: counted from the choice on. Assumes nothing.
use mathlib.Core.Path.{refl}
use Rattle.places.proofs.Reasons.{before_branch, from_branch}
use Rattle.places.proofs.why.in_branch.Goals as goal

pub returns-then-inside-branch : goal.returns-then-inside-branch
returns-then-inside-branch c = before_branch _ _ c.requires _ c.if-inside-branch.true

pub returns : goal.returns
returns c = from_branch _ _ c.requires _ c.if-inside-branch.false refl
