-- One piece of a walk, a leaf or a whole ARRAY: it ends inside the image, or the walk is short there; and so it is in laying out. Assumes nothing.
use Rattle.std.specs.Prelude.{Option, Result, Ok, Err}
use Rattle.std.specs.Option.{option_map, option_or}
use Prim.Native.Nat.{ℕ, ◌+◌, ◌<◌, ◌≤◌}
use mathlib.Core.Path.{◌≡◌, refl, ◌∙◌, ap, sym}
use mathlib.Core.Bool.{Bool, true, false, cond, ◌||◌, or-false}
use mathlib.Core.List.{List}
use lib.ListN.{length}
use lib.Dec.{leb}
use borrow.Author.Tests.{le-leb, lt-leb, leb-true, leb-false, lt-ltb}
use Rattle.meaning.specs.declared.Refusal.{Refusal}
use Rattle.items.specs.declared.Cursor.{Cursor}
use Rattle.offsets.specs.declared.TableOffset.{TableOffset}
use Rattle.places.specs.declared.measure.Span.{Span}
use Rattle.places.specs.declared.rows.Row.{Row}
use Rattle.places.specs.declared.walk.Aim.{Aim}
use Rattle.places.specs.declared.walk.Walk.{Walk}
use Rattle.places.specs.Rows.{onward_by}
use Rattle.places.specs.Walking.{meets, dimension_at, place, noted, past_piece, short_here, step_of}

-- A PIECE
module _ (img : List ℕ) (a : Aim) (w : Walk) (piece : Span) (k : ℕ) (next : Cursor) where
  -- it ends inside the image, or not
  pub step_case : (P : Result Walk Refusal → Type 0) → (place a w + piece.size ≤ length img → P (Ok (past_piece img a w piece k next)))
      → (length img < place a w + piece.size → P (Err (short_here a w)))
      → P (step_of img a w piece k next)
  unfolding step_of
  step_case P on off = go (leb (place a w + piece.size) (length img)) refl
    where
      go : (b : Bool) → leb (place a w + piece.size) (length img) ≡ b → P (cond b (Ok (past_piece img a w piece k next)) (Err (short_here a w)))
      go true e = on (leb-true _ _ e)
      go false e = off (leb-false _ _ e)

  step_on : (numbers : List ℕ) (octets : TableOffset) (row : Option Row) (held : Bool) → place a w + piece.size ≤ length img
      → numbers ≡ noted img w.numbers k (place a w) piece.size → octets.0 ≡ w.octets.0 + piece.size → row ≡ option_or w.row (option_map (onward_by w.octets.0) piece.row)
      → held ≡ (w.held || dimension_at k w.octets.0 piece.size a.from.0 a.octets)
      → Ok (record { numbers = numbers; octets = octets; row = row; held = held; next = next }) ≡ step_of img a w piece k next
  unfolding step_of
  step_on numbers octets row held le n o r d =
      ap (λ (x : ℕ). Ok (record { numbers = numbers; octets = record { 0 = x }; row = row; held = held; next = next })) o ∙ rw (le-leb _ _ le, n, r, d)

  pub step_plain : k ≡ 0 → (octets : TableOffset) (row : Option Row) → place a w + piece.size ≤ length img → octets.0 ≡ w.octets.0 + piece.size
      → row ≡ option_or w.row (option_map (onward_by w.octets.0) piece.row)
      → Ok (record { numbers = w.numbers; octets = octets; row = row; held = w.held; next = next }) ≡ step_of img a w piece k next
  unfolding noted dimension_at
  step_plain z octets row le o r = step_on w.numbers octets row w.held le (rw z) o r (rw z (sym (or-false w.held)))

  pub step_sets : 0 < k → (h : ℕ) (numbers : List ℕ) (octets : TableOffset) (row : Option Row) (held : Bool) → place a w + piece.size ≤ length img → h ≡ place a w
      → numbers ≡ noted img w.numbers k h piece.size → octets.0 ≡ w.octets.0 + piece.size → row ≡ option_or w.row (option_map (onward_by w.octets.0) piece.row)
      → held ≡ (w.held || meets w.octets.0 piece.size a.from.0 a.octets)
      → Ok (record { numbers = numbers; octets = octets; row = row; held = held; next = next }) ≡ step_of img a w piece k next
  unfolding dimension_at
  step_sets z h numbers octets row held le e n o r d = step_on numbers octets row held le (rw e at n) o r (d ∙ rw (lt-ltb 0 k z))

  pub step_short : length img < place a w + piece.size → {x : Refusal} → x ≡ short_here a w → Err x ≡ step_of img a w piece k next
  unfolding step_of
  step_short lt {x} e = rw (e, lt-leb _ _ lt)
