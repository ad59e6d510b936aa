-- `sound::judge`: the item read is the one there, and what is made of it follows the definitions. Assumes nothing.
use mathlib.Core.Path.{refl, sym, ◌∙◌}
use native.Mathlib.Omega.{arith}
use Rattle.items.proofs.ReadLaws.{range_read}
use Rattle.sound.proofs.Laws.{rule_none, rule_some, judged_kept, judged_told}
use Rattle.sound.proofs.judge.Goals as goal

pub lowest_broken-requires : goal.lowest_broken-requires
lowest_broken-requires c = (omega arith, range_read _ _ c.read-read.ensures, rw c.item-item.ensures c.requires.1)

pub returns-in-None : goal.returns-in-None
returns-in-None c =
    let rule = rule_none _ (sym (rw c.item-item.ensures at c.lowest_broken.ensures) ∙ c.in-None.is) in
    judged_kept _ _ _ (omega arith) c.read-read.ensures (sym rule) refl

pub returns-in-Some : goal.returns-in-Some
returns-in-Some c =
    let rule = rule_some _ _ (sym (rw c.item-item.ensures at c.lowest_broken.ensures) ∙ c.in-Some.is) in
    rw c.item-item.ensures (judged_told _ _ _ (omega arith) c.read-read.ensures rule.0 rule.1)
