-- `words::octets`: a law for each way out. Assumes nothing.
use mathlib.Core.Path.{sym, ◌∙◌}
use mathlib.Core.Bool.{and-false}
use native.Mathlib.Omega.{arith}
use borrow.Author.Tests.{lt-leb, ne_eqb}
use Rattle.words.proofs.HexLaws.{dash_read, not_octets, single, tests, no_space, read, hex_word, octets_length}
use Rattle.words.proofs.hex.octets.Goals as goal

pub returns-then-word-eq45 : goal.returns-then-word-eq45
returns-then-word-eq45 c = dash_read (omega arith) c.if-word-eq45.true

pub returns-then-word-eq1 : goal.returns-then-word-eq1
returns-then-word-eq1 c = not_octets ((single _ (omega arith)).0 ∙ ne_eqb _ _ c.if-word-eq45.false)

pub returns-then-word-lt2 : goal.returns-then-word-lt2
returns-then-word-lt2 c = not_octets (tests _ c.if-word-eq1.false ∙ rw (lt-leb 2 _ c.if-word-lt2.true))

pub returns-then-word-ne0 : goal.returns-then-word-ne0
returns-then-word-ne0 c = not_octets (tests _ c.if-word-eq1.false ∙ rw (ne_eqb _ 0 c.if-word-ne0.true, and-false))

pub returns-then-not-all_hex : goal.returns-then-not-all_hex
returns-then-not-all_hex c =
    not_octets (tests _ c.if-word-eq1.false ∙ rw (sym c.all_hex.ensures ∙ c.if-not-all_hex.true, and-false, and-false))

pub returns-then-out-count : goal.returns-then-out-count
returns-then-out-count c = no_space (omega (arith, octets_length c.args.word.now))

pub fill-requires : goal.fill-requires
fill-requires c =
    record { word_value = sym c.all_hex.ensures ∙ c.if-not-all_hex.false; word_len = omega arith; count_in_bounds = omega arith }

pub returns : goal.returns
returns c =
    let n = octets_length c.args.word.now in
    let h = sym c.all_hex.ensures ∙ c.if-not-all_hex.false in
    let w = hex_word _ c.if-word-eq1.false (omega arith) (omega arith) h in
    read w (omega (arith, n)) c.fill.ensures (sym n)
