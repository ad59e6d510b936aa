-- An item as the code has it open: one record of what it has read, one more where the item has bodies, and what those come to. Assumes nothing.
use Prim.Native.Nat.{ℕ, ◌+◌, ◌-◌, ◌<◌, min}
use mathlib.Core.Path.{◌≡◌, sym, ◌∙◌}
use mathlib.Core.Bool.{Bool, true, false, ◌||◌, true≢false}
use mathlib.Core.List.{List}
use borrow.Author.Tests.{ne_eqb}
use native.Mathlib.Omega.{arith}
use Rattle.meaning.specs.declared.Inner.{Inner}
use Rattle.meaning.specs.Description.{item_count, fields_at, is_array, is_choice, nests, nested, kind_of}
use Rattle.meaning.specs.Layout.{value}
use Rattle.items.specs.declared.Cursor.{Cursor}
use Rattle.items.specs.declared.Read.{Read}
use Rattle.items.specs.Read.{read_at}
use Rattle.items.proofs.ReadLaws.{fields_read, next_read}
use Rattle.places.specs.declared.measure.Span.{Span}
use Rattle.places.specs.Measuring.{numbers_in, inner_of, leaf_span, array_span, BodyReady, ItemReady, BodyAs, ItemAs}
use Rattle.places.proofs.Measures.{leaf_measured, deeper, within, inner_ready, array_measured, choice_measured}

-- of two of which one holds, the other where the first doesn't
either_other : (a b : Bool) → (a || b) ≡ true → a ≡ false → b ≡ true
either_other true b h e = absurd (true≢false e)
either_other false b h e = h

-- item `at` is read, its reference's value is x, and the place past it and all that is nested in it is `after`
pub record Opened (d numbers : List ℕ) (at k : ℕ) (r : Read) (x : ℕ) (after : Cursor) : Type 0 where
  pub ready : ItemReady d numbers at k
  pub fields : r.fields ≡ fields_at d at
  pub next : r.next.at ≡ at + 1
  pub says : x ≡ value (numbers_in numbers) (fields_at d at)
  pub past : after.at ≡ at + 1 + nested (fields_at d at)

pub opened : {d numbers : List ℕ} {at k : ℕ} {r : Read} {x : ℕ} {after : Cursor} → ItemReady d numbers at k → r ≡ read_at d at
    → x ≡ value (numbers_in numbers) r.fields → after.at ≡ min (r.next.at + nested r.fields) 18446744073709551615
    → Opened d numbers at k r x after
opened {d} {numbers} {at} {k} {r} ready e v a =
    let h : at < item_count d = omega (arith, ready.there) in
    let f = fields_read d at h e in
    let n = next_read d at h e in
    record { ready = ready; fields = f; next = n; says = v ∙ rw f; past = a ∙ rw (f, n) (omega (arith, ready.few, ready.there)) }

-- the body that item `at` takes
abbrev inner : (d numbers : List ℕ) → (at : ℕ) → Inner
inner d numbers at = inner_of d (fields_at d at) (at + 1) (value (numbers_in numbers) (fields_at d at))

-- it has bodies, and takes c, which starts at item `from`
pub record Entered {d numbers : List ℕ} {at k : ℕ} {r : Read} {x : ℕ} {after : Cursor} (o : Opened d numbers at k r x after) (c : Inner) (from : ℕ) : Type 0 where
  pub bodies : nests (fields_at d at) ≡ true
  pub takes : c ≡ inner d numbers at
  pub starts : from ≡ at + 1 + (inner d numbers at).skip

module _ {d numbers : List ℕ} {at k : ℕ} {r : Read} {x : ℕ} {after : Cursor} (o : Opened d numbers at k r x after) where
  pub entered : {b : Bool} {c : Inner} {from : Cursor} → b ≡ nests r.fields → b ≡ true → c ≡ inner_of d r.fields r.next.at x
      → from.at ≡ min (r.next.at + c.skip) 18446744073709551615 → Entered o c from.at
  entered {b} {c} n e i p =
      let t : c ≡ inner d numbers at = i ∙ rw (o.fields, o.next, o.says) in
      let some = rw o.fields at (sym n ∙ e) in
      let l = within d numbers at k 0 o.ready some in
      record { bodies = some; takes = t; starts = p ∙ rw (t, o.next) (omega (arith, o.ready.few, o.ready.there, l)) }

  pub leaf_done : {i p : ℕ} {b : Bool} {s : Span} → b ≡ nests r.fields → b ≡ false → p ≡ at → s ≡ leaf_span r.fields x p i
      → ItemAs d numbers at k i (record { span = s; next = after })
  leaf_done {i} n e p l =
      record { span = rw (l, p, o.fields, o.says) (leaf_measured d numbers at k i o.ready (rw o.fields at (sym n ∙ e))); next = o.past }

module _ {d numbers : List ℕ} {at k : ℕ} {r : Read} {x : ℕ} {after : Cursor} {o : Opened d numbers at k r x after} {c : Inner} {from : ℕ} (e : Entered o c from) where
  pub level_left : 0 < k
  level_left = deeper d numbers at k 0 o.ready e.bodies

  pub body_ready : BodyReady d numbers from c.items (k - 1)
  body_ready = rw (e.starts, e.takes) (inner_ready d numbers at k 0 o.ready e.bodies)

  module _ {b : Span} (i : ℕ) (h : BodyAs d numbers from c.items (k - 1) i b) where
    taken_as : BodyAs d numbers (at + 1 + (inner d numbers at).skip) (inner d numbers at).items (k - 1) i b
    taken_as = rw (e.starts, e.takes) at h

    pub array_done : {s : Span} → kind_of r.fields ≡ 5 → s ≡ array_span x b → ItemAs d numbers at k i (record { span = s; next = after })
    array_done five s =
        record { span = rw (s, o.says) (array_measured d numbers at k i o.ready e.bodies b taken_as (rw o.fields at five)); next = o.past }

    pub choice_done : (kind_of r.fields ≡ 5 → ⊥) → ItemAs d numbers at k i (record { span = b; next = after })
    choice_done other =
        let f = fields_at d at in
        let choice = either_other (is_array f) (is_choice f) e.bodies (ne_eqb (kind_of f) 5 (rw o.fields at other)) in
        record { span = choice_measured d numbers at k i o.ready e.bodies b taken_as choice; next = o.past }
