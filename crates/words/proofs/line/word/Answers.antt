-- `words::word`: past the fortieth place a list answers no part, and so does the code. Assumes nothing.
use mathlib.Core.Path.{◌≡◌, ◌∙◌}
use native.Mathlib.Omega.{arith}
use lib.ListN.{get_or}
use Rattle.words.specs.Line.{word_in, word_start, no_span}
use Rattle.words.proofs.line.word.Goals as goal

pub returns : goal.returns
unfolding word_in word_start
returns c =
    let e : c.unwrap_or-span.result ≡ get_or c.args.places.spans c.args.k no_span =
    c.unwrap_or-span.ensures ∙ rw c.copied.ensures (c.get.ensures.lookup.4 (omega arith) no_span) in
    rw (← e) c.part.ensures
