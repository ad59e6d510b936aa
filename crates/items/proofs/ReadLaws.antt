-- What a caller uses of a place read: the fields of the item there, their range, the next place. Assumes nothing.
use Prim.Native.Nat.{ℕ, ◌+◌, ◌<◌}
use mathlib.Core.Path.{◌≡◌, refl, ◌∙◌, ap}
use mathlib.Core.Bool.{Bool, true, false}
use mathlib.Core.List.{List}
use borrow.Author.Tests.{lt-ltb}
use native.Mathlib.Omega.{arith}
use Rattle.meaning.specs.Basics.{◌<?◌}
use Rattle.meaning.specs.Description.{item_count, fields_at}
use Rattle.meaning.specs.Ranges.{FieldsRange}
use Rattle.meaning.proofs.Ranges.{fields_range}
use Rattle.items.specs.declared.Read.{Read}
use Rattle.items.specs.Read.{read_at}

-- anywhere, the fields are in range
pub range_read : (d : List ℕ) (at : ℕ) {r : Read} → r ≡ read_at d at → FieldsRange r.fields
unfolding read_at
range_read d at {r} e = go (at <? item_count d) refl
  where
    go : (b : Bool) → (at <? item_count d) ≡ b → FieldsRange r.fields
    go true g = rw (e, g) (fields_range d at)
    go false g = rw (e, g) (omega arith)

-- among the items, it is the item there and the place after it
module _ (d : List ℕ) (at : ℕ) (h : at < item_count d) {r : Read} (e : r ≡ read_at d at) where
  read_there : r ≡ record { fields = fields_at d at; next = record { at = at + 1 } }
  unfolding read_at
  read_there = e ∙ rw (lt-ltb _ _ h)

  pub fields_read : r.fields ≡ fields_at d at
  fields_read = ap (λ (x : Read). x.fields) read_there

  pub next_read : r.next.at ≡ at + 1
  next_read = ap (λ (x : Read). x.next.at) read_there
