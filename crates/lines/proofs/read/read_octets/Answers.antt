-- `lines::read::read_octets`: no octets where the form has no such word, else those of the word, or it is none of octets. Assumes nothing.
use native.Mathlib.Omega.{arith}
use borrow.Author.Rules.{rules}
use mathlib.Core.Path.{◌≡◌}
use lib.ListN.{length}
use Rattle.lines.proofs.AnswerLaws.{word_read}
use Rattle.lines.proofs.OctetLaws.{part_none}
use Rattle.lines.proofs.read.read_octets.Goals as goal

pub returns-then-not-there : goal.returns-then-not-there
returns-then-not-there c = part_none _ _ (c.if-not-there.true)

pub returns : goal.returns
returns c =
    let long : length c.args.out.now ≡ 150000 = search rules in
    word_read _ _ _ c.if-not-there.false c.word.ensures.value c.word.ensures.short c.octets.ensures (omega (arith, long))
