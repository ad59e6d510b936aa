-- `words::line::no_words`: the places of no words are computed. Assumes nothing.
use mathlib.Core.Path.{refl}
use Rattle.words.specs.Line.{places_of, forty, spans_from}
use Rattle.words.proofs.line.no_words.Goals as goal

pub returns : goal.returns
unfolding forty places_of spans_from
returns c = refl
