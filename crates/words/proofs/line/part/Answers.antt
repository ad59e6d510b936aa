-- `words::line::part`: a law for each way out. Assumes nothing.
use mathlib.Core.Path.{sym}
use native.Mathlib.Omega.{arith}
use Rattle.words.proofs.LineLaws.{part_of_lem, part_crossed, part_over, stands_of, stands_crossed, stands_over}
use Rattle.words.proofs.line.part.Goals as goal

pub returns-then-span : goal.returns-then-span
returns-then-span c =
    record { reply = sym (part_crossed _ _ _ (omega arith)); place = stands_crossed _ _ _ _ _ (omega arith) }

pub returns-then-line-span : goal.returns-then-line-span
returns-then-line-span c =
    record { reply = sym (part_over _ _ _ (omega arith)); place = stands_over _ _ _ _ _ (omega arith) }

pub returns : goal.returns
returns c =
    record { reply = sym (part_of_lem _ _ _ (omega arith) (omega arith)); place = stands_of _ _ _ _ _ (omega arith) (omega arith) }
