-- `words::line::find_space`: what `position` answers. Assumes nothing.
use mathlib.Core.Path.{◌≡◌, sym, ap, ◌∙◌}
use mathlib.Core.List.{List}
use Prim.Native.Nat.{ℕ, ◌+◌, ◌-◌}
use native.Mathlib.Omega.{arith}
use borrow.Author.Rules.{rules}
use borrow.Author.Tests.{tests}
use lib.Dec.{eqb}
use lib.ListN.{length, drop, take, length-drop}
use lib.Seq.{take_all}
use Rattle.std.proofs.lemmas.Iterator.{YieldsList-from_slice}
use Rattle.std.proofs.lemmas.Iterator.Search.{position_from_yields_List}
use Rattle.words.proofs.FindLaws.{found, not_found}
use Rattle.words.proofs.line.find_space.Goals as goal

-- a slice to its end is what is left behind its start
to_the_end : (text : List ℕ) (from : ℕ) → take (length text - from) (drop from text) ≡ drop from text
to_the_end text from = take_all (length text - from) (drop from text) (omega (arith, length-drop from text))

pub returns-in-Some-clause-value : goal.returns-in-Some-clause-value
returns-in-Some-clause-value c =
    let e = position_from_yields_List (λ x. eqb x 32) _ _ c.position.result c.position.ensures.ran (YieldsList-from_slice _ c.iter.ensures.rest) (λ x b q k. search (rules, tests)) in
    ap (◌+◌ c.args.from) (found 32 _ _ (sym c.in-Some.is ∙ rw to_the_end at e))

pub returns-in-None-clause-value : goal.returns-in-None-clause-value
returns-in-None-clause-value c =
    let e = position_from_yields_List (λ x. eqb x 32) _ _ c.position.result c.position.ensures.ran (YieldsList-from_slice _ c.iter.ensures.rest) (λ x b q k. search (rules, tests)) in
    omega (arith, not_found 32 (drop c.args.from c.args.text.now) (sym c.in-None.is ∙ rw to_the_end at e), length-drop c.args.from c.args.text.now)
