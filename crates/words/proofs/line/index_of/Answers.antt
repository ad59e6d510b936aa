-- `words::index_of`. The loop's invariant, `Looked`: the name is none of the first k words. The measure is the number of words left. Assumes nothing.
use mathlib.Core.Path.{◌∙◌, ap, sym}
use native.Mathlib.Omega.{arith}
use Rattle.std.specs.Prelude.{Err}
use Rattle.words.proofs.LineLaws.{count_of, word_of, same_is}
use Rattle.words.proofs.IndexLaws.{looked_none, looked_here, looked_on, looked_all}
use Rattle.words.proofs.line.index_of.Goals as goal

pub loop-k-init : goal.loop-k-init
loop-k-init c = looked_none _ _

pub returns-then-same : goal.returns-then-same
returns-then-same c =
    let word = word_of _ _ _ _ c.split-places.ensures c.word.ensures.reply in
    looked_here c.loop-k.invariant (omega (arith, count_of _ _ c.split-places.ensures)) (rw word at (sym (same_is _ _ _ c.same.ensures) ∙ c.if-same.true))

pub loop-k-preserved : goal.loop-k-preserved
loop-k-preserved c =
    let word = word_of _ _ _ _ c.split-places.ensures c.word.ensures.reply in
    looked_on c.loop-k.invariant (omega (arith, count_of _ _ c.split-places.ensures)) (rw word at (sym (same_is _ _ _ c.same.ensures) ∙ c.if-same.false))

pub returns : goal.returns
returns c =
    let count = count_of _ _ c.split-places.ensures in
    ap Err count ∙ looked_all c.loop-k.invariant (omega (arith, count))
