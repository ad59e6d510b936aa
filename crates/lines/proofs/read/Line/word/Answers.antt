-- `lines::read::Line::word`: the word of the line that was split, which is no longer than the line. Assumes nothing.
use native.Mathlib.Omega.{arith}
use Rattle.lines.proofs.AnswerLaws.{word_at, word_short}
use Rattle.lines.proofs.read.Line.word.Goals as goal

pub returns : goal.returns
returns c =
    let line = c.args.self in
    record {
      value = word_at _ _ line.is_split _ _ c.word.ensures.reply;
      short = omega (arith, line.short, word_short _ _ _ _ c.word.ensures.reply);
    }
