-- What holding a line's octets leans on. Assumes nothing.
use mathlib.Core.Path.{◌≡◌, sym, ap, ◌∙◌}
use mathlib.Core.List.{List, ◌++◌}
use Prim.Native.Nat.{ℕ, ◌+◌, ◌-◌, ◌≤◌, min}
use native.Mathlib.Omega.{arith}
use lib.ListN.{length, take, length-append}
use lib.Seq.{take_at, take-append-add, length-take-le}
use Rattle.words.specs.Put.{IsPut, laid}
use Rattle.words.proofs.PutLaws.{put_next, put_memory}
use Rattle.lines.specs.Input.{Held}

-- of octets xs the first n are put, all of them or as many as there is room for
pub held_is : (line later xs : List ℕ) (n held r : ℕ) → held ≤ length line → n ≡ min (length xs) (length line - held)
    → IsPut line held (take n xs) later r → Held line held xs later r
unfolding laid
held_is line later xs n held r hl e p =
    let a : length (take held line) ≡ held = length-take-le held line hl in
    let c : length (take n xs) ≡ n = length-take-le n xs (omega arith) in
    let fit : held + length (take n xs) ≤ length line = omega arith in
    let q : r ≡ held + n = put_next p fit ∙ ap (λ (k : ℕ). held + k) c in
    let d : length (take held line ++ take n xs) ≡ r = length-append (take held line) (take n xs) ∙ omega arith in
    let f : held + n ≡ length (take held line) + n = omega arith in
    record {
      count = omega arith;
      octets =
          ap (take r) (put_memory p fit)
          ∙ take_at (take held line ++ take n xs) _ r d
          ∙ sym (rw (q, f, take-append-add (take held line) xs n));
    }
