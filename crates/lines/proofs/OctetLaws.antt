-- What reading words of octets leans on: what `words::octets` tells where there is room, and a word that a form hasn't. Assumes nothing.
use mathlib.Core.Path.{◌≡◌, sym}
use mathlib.Core.List.{List}
use mathlib.Core.Bool.{Bool, true, false}
use Prim.Native.Nat.{ℕ, ◌+◌, ◌/◌, ◌≤◌}
use native.Mathlib.Omega.{arith}
use borrow.Author.Tests.{le-leb}
use lib.Dec.{leb}
use lib.ListN.{length}
use lib.Seq.{take-append_seam}
use Rattle.std.specs.Prelude.{Option, Some}
use Rattle.words.specs.Put.{fits, laid}
use Rattle.words.specs.Hex.{is_dash, are_octets, octets_of, can_read, OctetsRead}
use Rattle.words.proofs.Cases.{by_test}
use Rattle.words.proofs.HexLaws.{octets_length}
use Rattle.lines.specs.Answer.{word_if}
use Rattle.lines.specs.Read.{PartRead}

-- A WORD OF OCTETS, read where there was room for it
pub part_read : {word out later : List ℕ} {r : Option ℕ} → OctetsRead word out later r → length word / 2 ≤ length out → length word ≤ 300000 → PartRead word later r
unfolding can_read fits laid
part_read {word} {out} p room short =
    let o : List ℕ = octets_of word in
    let t : leb (0 + length o) (length out) ≡ true = le-leb (0 + length o) (length out) (omega (arith, octets_length word)) in
    by_test (are_octets word)
    (λ f.
    rw (p.reply, p.memory, f, t)
    (record {
      reply = sym f;
      few = λ n e. let l : length o ≡ n = cc in omega (arith, octets_length word);
      octets = λ n e. let l : length o ≡ n = cc in rw (← l) (take-append_seam o _);
    }))
    (λ f. rw (p.reply, p.memory, f) (record { reply = sym f; few = λ n e. absurd (cc); octets = λ n e. absurd (cc) }))

-- A WORD THAT A FORM HASN'T
pub part_none : {there : Bool} (word later : List ℕ) → there ≡ false → PartRead (word_if there word) later (Some 0)
unfolding word_if are_octets is_dash octets_of
part_none word later h =
    record {
      reply = rw h;
      few = λ n e. let z : ◌≡◌ {A = ℕ} 0 n = cc in omega arith;
      octets = λ n e. let z : ◌≡◌ {A = ℕ} 0 n = cc in rw (h, ← z);
    }
