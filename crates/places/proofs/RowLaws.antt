-- Rows as the code has them say the rows of the definitions, cut: of none, of one with no ARRAYs, of the first of two, further on, inside one ARRAY more. Assumes nothing.
use Rattle.std.specs.Prelude.{Option, Some, None}
use Rattle.std.specs.Option.{option_map, option_or}
use Prim.Native.Nat.{ℕ, zero, suc, ◌+◌, ◌<◌, ◌≤◌}
use mathlib.Core.Path.{◌≡◌, refl, ◌∙◌, ap, sym}
use mathlib.Core.List.{List, [], ◌∷◌}
use lib.ListN.{length, get_or, take}
use native.Mathlib.Numerals.{add-one}
use native.Mathlib.Omega.{arith}
use Rattle.laying.specs.Rows.{Array, row, no_row, first_row, onward, in_array}
use Rattle.laying.specs.Rows as def
use Rattle.meaning.proofs.Either.{clash}
use Rattle.places.specs.declared.rows.Row.{Row}
use Rattle.places.specs.declared.rows.Level.{Level}
use Rattle.places.specs.Rows.{cut, no_level, said, cut_arrays, cut_row, Few, RowAs, alone, onward_by, with_array}

-- no row
pub as_none : (k : ℕ) → RowAs k None no_row
unfolding said cut_row
as_none k = record { says = refl; few = tt }

-- a row with no ARRAYs
pub as_alone : (k n : ℕ) → RowAs k (Some (alone n)) (row 0 n [])
unfolding said cut_row cut_arrays
as_alone k n = record { says = refl; few = record { depth = omega arith; levels = refl } }

-- with room for more ARRAYs
pub as_wider : (k m : ℕ) (c : Option Row) (r : def.Row) → k ≤ m → RowAs k c r → RowAs m c r
as_wider k m None r l h = record { says = h.says; few = tt }
as_wider k m (Some c) r l h = record { says = h.says; few = record { depth = omega (arith, h.few.depth); levels = h.few.levels } }

-- WHAT A ROW SAYS of the row that it stands for
-- one that is none says none, and one that is some comes before any other
pub said_none : (r : def.Row) → said None ≡ cut_row r → r ≡ no_row
unfolding said cut_row
said_none (row p n rest) e = clash (cc)
said_none no_row e = refl

pub said_some : (p : ℕ) (c : Row) (r q : def.Row) → said (Some c) ≡ cut_row r → first_row (onward p r) q ≡ onward p r
unfolding said cut_row first_row onward
said_some p c (row o n rest) q e = refl
said_some p c no_row q e = clash (cc)

-- THE FIRST OF TWO
pub as_first : (k : ℕ) (a b : Option Row) (r q : def.Row) → RowAs k a r → RowAs k b q → RowAs k (option_or a b) (first_row r q)
unfolding said cut_row first_row
as_first k None b r q h g = rw (said_none r h.says) g
as_first k (Some c) b (row p n rest) q h g = h
as_first k (Some c) b no_row q h g = let e = h.says in clash (cc)

-- FURTHER ON
-- a row of the definitions, moved and cut
unfoldable onward_cut : (by : ℕ) → def.Row → def.Row
onward_cut k (row p n rest) = row (cut (cut k + cut p)) n rest
onward_cut k no_row = no_row

cut_onward : (k : ℕ) (r : def.Row) → cut_row (onward k r) ≡ onward_cut (cut k) (cut_row r)
unfolding cut_row onward onward_cut
cut_onward k (row p n rest) = let e : cut (k + p) ≡ cut (cut (cut k) + cut (cut p)) = omega arith in rw e
cut_onward k no_row = refl

pub as_onward : (k s : ℕ) (c : Option Row) (r : def.Row) → RowAs k c r → RowAs k (option_map (onward_by (cut s)) c) (onward s r)
unfolding said onward_cut
as_onward k s None r h = record { says = ap (onward_cut (cut s)) h.says ∙ sym (cut_onward s r); few = tt }
as_onward k s (Some c) r h = record { says = ap (onward_cut (cut s)) h.says ∙ sym (cut_onward s r); few = h.few }

-- INSIDE ONE ARRAY MORE
-- of four places the first three are enough for three
three : (k : ℕ) → k ≤ 3 → (a : Level) (ls : List Level) → length ls ≡ 4
    → take (k + 1) (a ∷ get_or ls 0 no_level ∷ get_or ls 1 no_level ∷ get_or ls 2 no_level ∷ []) ≡ a ∷ take k ls
three k l a ls four = rw add-one (go k ls l four)
  where
    go : (k : ℕ) (ls : List Level) → k ≤ 3 → length ls ≡ 4
        → take (suc k) (a ∷ get_or ls 0 no_level ∷ get_or ls 1 no_level ∷ get_or ls 2 no_level ∷ []) ≡ a ∷ take k ls
    go zero ls l e = refl
    go (suc zero) (x ∷ ls) l e = refl
    go (suc (suc zero)) (x ∷ y ∷ ls) l e = refl
    go (suc (suc (suc zero))) (x ∷ y ∷ z ∷ ls) l e = refl
    go k ls l e = absurd (omega arith)

said_array : (c w : ℕ) (a : Row) → Few 3 a.arrays → said (Some (with_array c w a)) ≡ in_array c w (said (Some a))
unfolding said in_array
said_array c w a h = rw (three a.arrays.depth h.depth (record { count = c; stride = w }) a.arrays.levels h.levels)

cut_array : (c w : ℕ) (r : def.Row) → cut_row (in_array c w r) ≡ in_array c (cut w) (cut_row r)
unfolding cut_row cut_arrays in_array
cut_array c w (row p n rest) = refl
cut_array c w no_row = refl

pub as_array : (k m c w : ℕ) (a : Option Row) (r : def.Row) → k < m → m ≤ 4 → RowAs k a r → RowAs m (option_map (with_array c (cut w)) a) (in_array c w r)
unfolding said in_array
as_array k m c w None r l few h = record { says = ap (in_array c (cut w)) h.says ∙ sym (cut_array c w r); few = tt }
as_array k m c w (Some a) r l few h =
    record {
      says = said_array c (cut w) a (record { depth = omega (arith, h.few.depth); levels = h.few.levels })
          ∙ ap (in_array c (cut w)) h.says ∙ sym (cut_array c w r);
      few = record { depth = omega (arith, h.few.depth); levels = refl };
    }
