-- What reading an item leans on: a word by its octets. Assumes nothing.
use Prim.Native.Nat.{ℕ, suc, ◌+◌, ◌*◌, ◌<◌}
use mathlib.Core.Path.{◌≡◌}
use mathlib.Core.List.{List}
use lib.ListN.{get_or}
use lib.Seq.{drop-cons}
use native.Mathlib.Omega.{arith}
use Rattle.meaning.specs.Basics.{part, most_first}
use Rattle.meaning.specs.Description.{item_count, word_at}

-- four octets as a word, the first most significant
pub word_is : (d : List ℕ) (i : ℕ) → i < item_count d
    → get_or d (i * 4) 0 * 16777216 + get_or d (i * 4 + 1) 0 * 65536 + get_or d (i * 4 + 2) 0 * 256 + get_or d (i * 4 + 3) 0 ≡ word_at d i
unfolding word_at part most_first
word_is d i h =
    let one : i * 4 + 1 ≡ suc (i * 4) = omega arith in
    let two : i * 4 + 2 ≡ suc (suc (i * 4)) = omega arith in
    let three : i * 4 + 3 ≡ suc (suc (suc (i * 4))) = omega arith in
    rw (one, two, three, drop-cons d (i * 4) 0 (omega arith), drop-cons d (suc (i * 4)) 0 (omega arith), drop-cons d (suc (suc (i * 4))) 0 (omega arith), drop-cons d (suc (suc (suc (i * 4)))) 0 (omega arith))
    (omega arith)
