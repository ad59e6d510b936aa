-- What an item says, read from any word, is in range. Assumes nothing.
use Prim.Native.Nat.{ℕ, ◌<◌, ◌≤◌}
use mathlib.Core.Path.{◌≡◌, refl}
use mathlib.Core.List.{List}
use mathlib.Core.Bool.{Bool, true, false, cond, ◌&&◌}
use lib.Dec.{eqb, ltb}
use native.Mathlib.Decide.{dec_lt}
use native.Mathlib.Omega.{arith}
use borrow.Author.Tests.{ltb-true}
use Rattle.meaning.specs.declared.Fields.{Fields}
use Rattle.meaning.specs.declared.Kind.{Kind}
use Rattle.meaning.specs.Basics.{bits, flag}
use Rattle.meaning.specs.Description.{own_octets, referring, malformed, names_slot, octets_of_code, table_of, uint_of, block_of, set_of, array_of, if_of, fields_of, word_at, fields_at, kind_of}
use Rattle.meaning.specs.Ranges.{FieldsRange}

-- whichever of two it is
either_ranged : (b : Bool) {f g : Fields} → FieldsRange f → FieldsRange g → FieldsRange (cond b f g)
either_ranged true h k = h
either_ranged false h k = k

none_ranged : FieldsRange malformed
none_ranged = omega arith

-- an item where two tests hold, else none
if_both : (a b : Bool) (f : Fields) → (a ≡ true → b ≡ true → FieldsRange f) → FieldsRange (cond (a && b) f malformed)
if_both true true f h = h refl refl
if_both true false f h = none_ranged
if_both false b f h = none_ranged

octets_ranged : (c : ℕ) → (0 < octets_of_code c) × (octets_of_code c ≤ 4)
unfolding octets_of_code
octets_ranged c = go (eqb c 0) (eqb c 1)
  where
    go : (a b : Bool) → (0 < cond a 1 (cond b 2 4)) × (cond a 1 (cond b 2 4) ≤ 4)
    go true b = (omega arith, omega arith)
    go false true = (omega arith, omega arith)
    go false false = (omega arith, omega arith)

pub fields_ranged : (w : ℕ) → FieldsRange (fields_of w)
unfolding fields_of table_of uint_of block_of set_of array_of if_of
fields_ranged w =
    let kind : ℕ → Bool = λ n. eqb (bits 31 28 w) n in
    let octets = octets_ranged (bits 27 26 w) in
    let names : names_slot w ≡ true → 0 < bits 27 22 w = λ e. ltb-true 0 (bits 27 22 w) e in
    let table : FieldsRange (table_of w) = omega arith in
    either_ranged (kind 1) table
    (either_ranged (kind 2) (if_both (ltb (bits 27 26 w) 3) (eqb (bits 19 0 w) 0) (own_octets Kind.Uint (bits 25 20 w) (octets_of_code (bits 27 26 w))) (λ p q. omega (arith, octets)))
    (either_ranged (kind 3) (if_both (ltb 0 (bits 27 16 w)) (eqb (bits 15 0 w) 0) (own_octets Kind.Block 0 (bits 27 16 w)) (λ p q. omega arith))
    (either_ranged (kind 4) (if_both (names_slot w) (eqb (bits 10 0 w) 0) (referring Kind.Set (flag 11 w) 0 0 w) (λ p q. omega (arith, names p)))
    (either_ranged (kind 5) (if_both (names_slot w) (ltb 0 (bits 11 0 w)) (referring Kind.Array false (bits 11 0 w) 0 w) (λ p q. omega (arith, names p)))
    (either_ranged (kind 6) (if_both (names_slot w) (ltb 0 (bits 11 6 w)) (referring Kind.If false (bits 11 6 w) (bits 5 0 w) w) (λ p q. omega (arith, names p)))
    none_ranged)))))

pub fields_range : (d : List ℕ) (i : ℕ) → FieldsRange (fields_at d i)
fields_range d i = fields_ranged (word_at d i)

-- only a UINT sets a slot
pub sets_none : (f : Fields) → FieldsRange f → (kind_of f ≡ 2 → ⊥) → f.sets ≡ 0
sets_none f h other = go (dec_lt 0 f.sets)
  where
    go : Dec (0 < f.sets) → f.sets ≡ 0
    go (yes p) = absurd (other (h.dimension p))
    go (no p) = omega arith
