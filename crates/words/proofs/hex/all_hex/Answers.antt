-- `words::hex::all_hex`: what `all` answers of the pieces, and of the octets behind the last. Assumes nothing.
use mathlib.Core.Path.{◌≡◌, sym, ap, ◌∙◌}
use mathlib.Core.Bool.{Bool, true, false, ◌&&◌}
use Prim.Native.Nat.{◌*◌, ◌/◌}
use lib.ListN.{length, drop}
use borrow.Author.Rules.{rules}
use borrow.Author.Tests.{tests}
use Rattle.std.specs.List.{list_all}
use Rattle.std.specs.Simd.{first_chunks}
use Rattle.std.proofs.lemmas.Iterator.{YieldsList-from_slice}
use Rattle.std.proofs.lemmas.Iterator.Search.{all_from_yields_List}
use Rattle.words.specs.Hex.{is_hex, all_hex}
use Rattle.words.proofs.HexLaws.{hex_pieces}
use Rattle.words.proofs.hex.all_hex.Goals as goal

pub returns-then-all : goal.returns-then-all
unfolding all_hex
returns-then-all c =
    let word = c.args.word.now in
    let n = length word / 64 in
    let front = all_from_yields_List all_hex _ _ c.all.result c.all.ensures.ran (YieldsList-from_slice _ c.iter.ensures.rest) (λ x b q k. search (rules, tests)) in
    let back = all_from_yields_List is_hex _ _ c.all-then-all.result c.all-then-all.ensures.ran (YieldsList-from_slice _ c.iter-then-all.ensures.rest) (λ x b q k. search (rules, tests)) in
    let pieces : list_all all_hex (first_chunks 64 n word) ≡ true = ap (list_all all_hex) (sym c.as_chunks.ensures.front) ∙ sym front ∙ c.if-all.true in
    back ∙ ap (list_all is_hex) c.as_chunks.ensures.back ∙ ap (λ (b : Bool). b && all_hex (drop (n * 64) word)) (sym pieces) ∙ hex_pieces 64 n word

pub returns-else-all : goal.returns-else-all
unfolding all_hex
returns-else-all c =
    let word = c.args.word.now in
    let n = length word / 64 in
    let front = all_from_yields_List all_hex _ _ c.all.result c.all.ensures.ran (YieldsList-from_slice _ c.iter.ensures.rest) (λ x b q k. search (rules, tests)) in
    let pieces : list_all all_hex (first_chunks 64 n word) ≡ false = ap (list_all all_hex) (sym c.as_chunks.ensures.front) ∙ sym front ∙ c.if-all.false in
    c.if-all.false ∙ ap (λ (b : Bool). b && all_hex (drop (n * 64) word)) (sym pieces) ∙ hex_pieces 64 n word
