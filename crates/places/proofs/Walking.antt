-- The item at a walk's place, as the code has it open: what is asked of it, and what the walk comes to past it. Assumes nothing.
use Rattle.std.specs.Prelude.{Result, Ok, Err}
use Prim.Native.Nat.{ℕ, ◌+◌, ◌-◌, ◌≤◌, min}
use mathlib.Core.Path.{◌≡◌, refl, sym, ◌∙◌}
use mathlib.Core.Bool.{Bool, true, false, cond, or-true}
use mathlib.Core.List.{List}
use lib.Dec.{eqb}
use lib.ListN.{length, set, length-set}
use borrow.Author.Tests.{ne_eqb}
use native.Mathlib.Omega.{arith}
use Rattle.meaning.specs.declared.Inner.{Inner}
use Rattle.meaning.specs.declared.Refusal.{Refusal}
use Rattle.meaning.specs.Description.{fields_at, is_choice, nests, nested, kind_of}
use Rattle.meaning.specs.Layout.{branches_in, branches_of, taken, leaf_octets, number_at, value}
use Rattle.meaning.proofs.Ranges.{fields_range}
use Rattle.items.specs.declared.Cursor.{Cursor}
use Rattle.items.specs.declared.Read.{Read}
use Rattle.items.specs.Read.{read_at}
use Rattle.laying.specs.Rows.{item_row}
use Rattle.laying.specs.Rows as def
use Rattle.laying.specs.Sizes.{item_size}
use Rattle.laying.proofs.Nodes.{choice_no_array}
use Rattle.places.specs.declared.measure.Sized.{Sized}
use Rattle.places.specs.declared.measure.Span.{Span}
use Rattle.places.specs.declared.walk.Aim.{Aim}
use Rattle.places.specs.declared.walk.Walk.{Walk}
use Rattle.places.specs.Measuring.{numbers_in, node_in, inner_of, leaf_span, SpanAs, ItemAs}
use Rattle.places.specs.Walking.{noted, StepReady, step_of, elsewhere, WalkBodyReady, WalkItemReady, WalksItem, WalksBody}
use Rattle.places.proofs.Measures.{leaf_measured}
use Rattle.places.proofs.Opened.{Opened, opened, Entered, entered, body_ready}
use Rattle.places.proofs.Pieces.{step_case}
use Rattle.places.proofs.RowLaws.{as_wider}
use Rattle.places.proofs.Walks.{Comes, leaf_comes, array_comes, choice_inside, choice_comes}

-- the walk is ready for it; it is read, its reference's value is x, and the place past it is `after`
pub record Here (d img : List ℕ) (a : Aim) (w : Walk) (k : ℕ) (r : Read) (x : ℕ) (after : Cursor) : Type 0 where
  pub ready : WalkItemReady d img a w k
  pub item : Opened d w.numbers w.next.at k r x after

pub here : {d img : List ℕ} {a : Aim} {w : Walk} {k : ℕ} {r : Read} {x : ℕ} {after : Cursor} → WalkItemReady d img a w k → r ≡ read_at d w.next.at
    → x ≡ value (numbers_in w.numbers) r.fields → after.at ≡ min (r.next.at + nested r.fields) 18446744073709551615
    → Here d img a w k r x after
here h e v p =
    record { ready = h; item = opened (record { few = h.ready.few; there = h.there; fit = h.fit; deep = h.ready.deep; slots = h.ready.slots }) e v p }

noted_length : (img numbers : List ℕ) (k p n : ℕ) → length (noted img numbers k p n) ≡ length numbers
unfolding noted
noted_length img numbers k p n = go (eqb k 0)
  where
    go : (b : Bool) → length (cond b numbers (set numbers k (number_at img p n))) ≡ length numbers
    go true = refl
    go false = simp length-set

-- up to four levels
span_wider : {k n : ℕ} {s : Span} {r : def.Row} → k ≤ 4 → SpanAs k s n r → SpanAs 4 s n r
span_wider {k} {n} {s} {r} l h = record { size_is = h.size_is; row_as = as_wider k 4 s.row r l h.row_as }

module _ {d img : List ℕ} {a : Aim} {w : Walk} {k : ℕ} {r : Read} {x : ℕ} {after : Cursor} (h : Here d img a w k r x after) where
  abbrev ready : WalkItemReady d img a w k
  ready = h.ready

  abbrev o : Opened d w.numbers w.next.at k r x after
  o = h.item

  -- past a piece, or short there
  stepped : (piece : Span) (slot : ℕ) {y : Result Walk Refusal} → Comes d img a w k after ready (step_of img a w piece slot after) → y ≡ step_of img a w piece slot after
      → WalksItem d img a w k y
  stepped piece slot comes e =
      rw e
      (step_case img a w piece slot after (λ (y : Result Walk Refusal). Comes d img a w k after ready y → WalksItem d img a w k y)
      (λ le c. record { walked = record { inside = omega arith; slots = noted_length _ _ _ _ _ ∙ ready.ready.slots }; moved = o.past; ends = c })
      (λ lt c. record { walked = tt; moved = tt; ends = c })
      comes)

  -- A UINT, BLOCK OR SET
  module _ {choice : Bool} (is : choice ≡ is_choice r.fields) (no : choice ≡ false) (five : kind_of r.fields ≡ 5 → ⊥) {p : ℕ} {s : Span} (place : p ≡ w.next.at)
      (e : s ≡ leaf_span r.fields x p a.wanted) where
    other : nests (fields_at d w.next.at) ≡ false
    other = let n : nests r.fields ≡ false = rw (ne_eqb (kind_of r.fields) 5 five, sym is ∙ no) in rw o.fields at n

    leaf_said : let t = node_in k d w.next.at in SpanAs 4 s (item_size t (numbers_in w.numbers)) (item_row t (numbers_in w.numbers) a.wanted)
    leaf_said =
        rw (e, place, o.fields, o.says) (span_wider ready.ready.deep (leaf_measured d w.numbers w.next.at k a.wanted o.ready other))

    pub leaf_ready : StepReady img a w s r.fields.sets
    unfolding leaf_span leaf_octets
    leaf_ready =
        let g = fields_range d w.next.at in
        record {
          small = ready.ready.small;
          inside = ready.ready.inside;
          size = omega (arith, leaf_said.size_is);
          slots = rw o.fields g.sets;
          dimension = rw (e, o.fields)
              (λ z. rw (g.owns (omega (arith, g.dimension z))) (omega (arith, g.some_octets z), omega (arith, g.few_octets z)));
        }

    pub leaf_walks : {y : Result Walk Refusal} → y ≡ step_of img a w s r.fields.sets after → WalksItem d img a w k y
    leaf_walks =
        stepped s r.fields.sets (rw o.fields (leaf_comes d img a w k after ready other s leaf_said))

  -- AN ARRAY
  module _ (five : kind_of r.fields ≡ 5) {s : Sized} (m : ItemAs d w.numbers w.next.at k a.wanted s) where
    pub array_step : StepReady img a w s.span 0
    array_step =
        record {
          small = ready.ready.small;
          inside = ready.ready.inside;
          size = omega (arith, m.span.size_is);
          slots = omega arith;
          dimension = λ z. absurd (omega arith);
        }

    pub array_walks : {y : Result Walk Refusal} → y ≡ step_of img a w s.span 0 after → WalksItem d img a w k y
    array_walks = stepped s.span 0 (array_comes d img a w k after ready (rw o.fields at five) s.span (span_wider ready.ready.deep m.span))

  -- A CHOICE
  -- it takes c, from a place on, where the walk goes on as `before`
  pub record Choosing (c : Inner) (from : Cursor) (before : Walk) : Type 0 where
    pub choice : is_choice (fields_at d w.next.at) ≡ true
    pub takes : c ≡ taken (branches_of d w.next.at) (value (numbers_in w.numbers) (fields_at d w.next.at))
    pub enters : Entered o c from.at
    pub goes : before ≡ elsewhere w from

  pub choosing : {b : Bool} {c : Inner} {from : Cursor} {before : Walk} → b ≡ is_choice r.fields → b ≡ true → c ≡ taken (branches_in d r.fields r.next.at) x
      → from.at ≡ min (r.next.at + c.skip) 18446744073709551615 → before ≡ elsewhere w from → Choosing c from before
  unfolding inner_of
  choosing is taken c p e =
      let choice = sym is ∙ taken in
      record {
        choice = rw o.fields at choice;
        takes = c ∙ rw (o.fields, o.next, o.says);
        enters = entered o {b = true} (sym (rw (choice, or-true))) refl (c ∙ rw (choice_no_array _ choice)) p;
        goes = e;
      }

module _ {d img : List ℕ} {a : Aim} {w : Walk} {k : ℕ} {r : Read} {x : ℕ} {after : Cursor} {h : Here d img a w k r x after}
    {c : Inner} {from : Cursor} {before : Walk} (g : Choosing h c from before) where
  -- the body taken, as the definitions have it
  abbrev chosen : Inner
  chosen = taken (branches_of d w.next.at) (value (numbers_in w.numbers) (fields_at d w.next.at))

  starts : from.at ≡ w.next.at + 1 + chosen.skip
  starts = g.enters.starts ∙ rw (← g.enters.takes, g.takes)

  pub through_ready : WalkBodyReady d img a before c.items (k - 1)
  through_ready =
      let b = body_ready g.enters in
      rw g.goes
      (record {
        ready = record {
          few = h.ready.ready.few;
          deep = omega (arith, h.ready.ready.deep);
          small = h.ready.ready.small;
          inside = h.ready.ready.inside;
          slots = h.ready.ready.slots;
        };
        there = b.there;
        fit = b.fit;
      })

  walked : {inner : Result Walk Refusal} → WalksBody d img a before c.items (k - 1) inner → WalksBody d img a (elsewhere w from) chosen.items (k - 1) inner
  walked b = rw (g.goes, g.takes) at b

  pub choice_stops : {x : Refusal} → WalksBody d img a before c.items (k - 1) (Err x) → WalksItem d img a w k (Err x)
  choice_stops {x} b =
      record { walked = tt; moved = tt; ends = choice_inside d img a w k after h.ready g.choice from starts (Err x) (walked b) }

  pub choice_walks : {inner : Walk} → WalksBody d img a before c.items (k - 1) (Ok inner) → WalksItem d img a w k (Ok (elsewhere inner after))
  choice_walks {inner} b =
      record {
        walked = record { inside = b.walked.inside; slots = b.walked.slots };
        moved = h.item.past;
        ends = choice_comes d img a w k after h.ready g.choice from starts inner (walked b);
      }
