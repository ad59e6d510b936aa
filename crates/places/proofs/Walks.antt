-- The walk over a table goes as laying out does: over a piece, through the body that a choice takes, and from item to item of a body. Assumes nothing.
use Rattle.std.specs.Prelude.{Result, Ok}
use Rattle.std.specs.Option.{option_map}
use Prim.Native.Nat.{ℕ, zero, suc, ◌+◌, ◌-◌, ◌<◌, ◌≤◌, min, max}
use mathlib.Core.Path.{◌≡◌, refl, ◌∙◌, ap, sym, subst, fun_ext}
use mathlib.Core.Bool.{Bool, true, false, cond, ◌&&◌, ◌||◌}
use mathlib.Core.List.{List, [], ◌∷◌}
use lib.Dec.{eqb, ltb}
use lib.ListN.{length, get_or, set}
use lib.Seq.{get_or-set_same, get_or-set_other}
use borrow.Author.Tests.{eqb-true, eqb-false, ne_eqb, le-leb, lt-leb, ltb-true, ltb-false, lt-ltb, le-ltb}
use native.Mathlib.Omega.{arith}
use Rattle.meaning.specs.Basics.{◌<?◌}
use Rattle.meaning.specs.declared.Fields.{Fields}
use Rattle.meaning.specs.declared.Inner.{Inner}
use Rattle.meaning.specs.declared.Refusal.{Refusal}
use Rattle.meaning.specs.Description.{fields_at, is_choice, nests, nested, kind_of}
use Rattle.meaning.specs.Layout.{Node, branches_of, taken, body_in, body_at, Slots, holds, set_slot, number_at, Placed, fault, short}
use Rattle.meaning.specs.Layout.{Laid, laid, stopped, in_image, placed, lay_body, lay_node, Numbers, value, number_of, slot_numbers}
use Rattle.meaning.specs.Refusals.{any_dimension}
use Rattle.items.specs.declared.Cursor.{Cursor}
use Rattle.laying.specs.Every.{Every}
use Rattle.laying.specs.Rows.{onward, in_array, body_row, item_row, walk_node, row_spot}
use Rattle.laying.specs.Rows as def
use Rattle.laying.specs.Sizes.{body_size, item_size}
use Rattle.laying.specs.Sound.{Known, FitNode, SoundNode}
use Rattle.laying.specs.Tree.{inner_at}
use Rattle.meaning.proofs.Ranges.{fields_range}
use Rattle.places.proofs.Held.{holds_one}
use Rattle.laying.proofs.Arms.{taken_lay, taken_walk, taken_fit, taken_sound}
use Rattle.laying.proofs.Nodes.{leaf_is, array_is, choice_is}
use Rattle.laying.proofs.Rising.{RisesNode, rises_at}
use Rattle.laying.proofs.Rows.{onward_twice}
use Rattle.laying.proofs.Whole.{Spots, Whole, w_array, w_body, value_is}
use Rattle.places.specs.declared.measure.Span.{Span}
use Rattle.places.specs.declared.walk.Aim.{Aim}
use Rattle.places.specs.declared.walk.Walk.{Walk}
use Rattle.places.specs.Measuring.{numbers_in, node_in, SpanAs}
use Rattle.places.specs.Rows.{cut, RowAs, onward_by}
use Rattle.places.specs.Walking.{dimension_at, noted, place, step_of, elsewhere, Ends, From, WalkItemReady, WalksBody}
use Rattle.places.proofs.Measures.{inner_fit}
use Rattle.places.proofs.Pieces.{step_case}
use Rattle.places.proofs.RowLaws.{as_first, as_onward}

-- THE NUMBERS OF THE SLOTS after a dimension
pub noted_numbers : (img numbers : List ℕ) (s : Slots) (k p n : ℕ) → k < length numbers → slot_numbers s ≡ numbers_in numbers
    → slot_numbers (set_slot k (holds n (number_at img p n)) s) ≡ numbers_in (noted img numbers k p n)
unfolding noted set_slot number_of
noted_numbers img numbers s zero p n h e = e
noted_numbers img numbers s (suc k) p n h e =
    rw (ne_eqb (suc k) 0 (λ z. omega arith)) (fun_ext (λ j. go j (eqb j (suc k)) refl))
  where
    go : (j : ℕ) (b : Bool) → eqb j (suc k) ≡ b → number_of (cond b (holds n (number_at img p n)) (s j)) ≡ get_or (set numbers (suc k) (number_at img p n)) j 0
    go j true g = let f : j ≡ suc k = eqb-true _ _ g in sym (rw f (get_or-set_same numbers (suc k) (number_at img p n) 0 h))
    go j false g = ap (λ (v : Numbers). v j) e ∙ sym (get_or-set_other numbers (suc k) j (number_at img p n) 0 (eqb-false _ _ g))

-- OCTETS OF DIMENSIONS, counted from the table's first octet or from the image's
shifted : (b k q m p n : ℕ) → dimension_at k (b + q) m (b + p) n ≡ dimension_at k q m p n
unfolding dimension_at
shifted b k q m p n = ap (λ (x : Bool). 0 <? k && x) (go (ltb (max p q) (min (p + n) (q + m))) refl)
  where
    go : (x : Bool) → ltb (max p q) (min (p + n) (q + m)) ≡ x → ltb (max (b + p) (b + q)) (min (b + p + n) (b + q + m)) ≡ x
    go true e =
        let h : max (b + p) (b + q) < min (b + p + n) (b + q + m) = omega (arith, ltb-true (max p q) (min (p + n) (q + m)) e) in
        lt-ltb (max (b + p) (b + q)) (min (b + p + n) (b + q + m)) h
    go false e =
        let h : min (b + p + n) (b + q + m) ≤ max (b + p) (b + q) = omega (arith, ltb-false (max p q) (min (p + n) (q + m)) e) in
        le-ltb (max (b + p) (b + q)) (min (b + p + n) (b + q + m)) h

-- A PIECE of n octets, with the row r, that sets slot k
module _ (img : List ℕ) (a : Aim) (w : Walk) (piece : Span) (k : ℕ) (next : Cursor) (n : ℕ) (r before : def.Row)
    (small : length img ≤ 65535) (inside : place a w ≤ length img) (said : SpanAs 4 piece n r) (found : RowAs 4 w.row before) where
  -- ends inside the image as laying out says, or is short there
  pub piece_ends : (j : ℕ) (ps : List Placed) (t : Slots) → w.next.at ≡ j → slot_numbers t ≡ numbers_in (noted img w.numbers k (place a w) n)
      → ((x m : ℕ) → any_dimension ps x m ≡ dimension_at k (place a w) n x m)
      → Ends a before w.held (step_of img a w piece k next) (onward (place a w) r) (in_image false (length img) j (place a w) (laid ps t (place a w + n)))
  unfolding in_image
  piece_ends j ps t e numbers dims =
      step_case img a w piece k next (λ (x : Result Walk Refusal). Ends a before w.held x (onward (place a w) r) (in_image false (length img) j (place a w) (laid ps t (place a w + n))))
      (λ le.
      let z : piece.size ≡ n = omega (arith, said.size_is) in
      let c : cut w.octets.0 ≡ w.octets.0 = omega arith in
      rw (le-leb (place a w + n) (length img) (omega arith))
      (record {
        here = omega arith;
        numbers = rw z numbers;
        holds = ap (λ (x : Bool). w.held || x) (rw z (sym (dims (a.start.0 + a.from.0) a.octets ∙ shifted a.start.0 k w.octets.0 n a.from.0 a.octets)));
        row_is = record {
          in_table = onward w.octets.0 r;
          is = onward_twice a.start.0 w.octets.0 r;
          row_as = as_first 4 w.row _ before _ found
              (subst (λ (x : ℕ). RowAs 4 (option_map (onward_by x) piece.row) (onward w.octets.0 r)) c (as_onward 4 w.octets.0 piece.row r said.row_as));
        };
      }))
      (λ lt.
      let l : length img < place a w + n = omega (arith, said.size_is) in
      rw (lt-leb (place a w + n) (length img) l, e))

-- elements that set no slot hold no octet of a dimension
unset_free : (ps : List Placed) (p n : ℕ) → Every (λ e. e.slot ≡ 0) ps → any_dimension ps p n ≡ false
unfolding any_dimension Every
unset_free [] p n h = refl
unset_free (e ∷ es) p n h = rw h.0 (unset_free es p n h.1)

-- PAST A CHOICE, a walk through its body goes on
past_ends : (a : Aim) (before : def.Row) (held : Bool) (r : Walk) (R : def.Row) (next : Cursor) (o : Laid) → Ends a before held (Ok r) R o → Ends a before held (Ok (elsewhere r next)) R o
past_ends a before held r R next (laid ps s q) h = record { here = h.here; numbers = h.numbers; holds = h.holds; row_is = h.row_is }
past_ends a before held r R next (stopped ps (fault x i)) h = tt
past_ends a before held r R next (stopped ps (short i p)) h = absurd h

-- ITEMS, at a walk's place
module _ (d img : List ℕ) (a : Aim) (w : Walk) (depth : ℕ) (next : Cursor) (ready : WalkItemReady d img a w depth) where
  abbrev at : ℕ
  at = w.next.at

  abbrev f : Fields
  f = fields_at d at

  abbrev t : Node
  t = node_in depth d at

  -- what the walk comes to over this item is r
  abbrev pub Comes : Result Walk Refusal → Type 0
  Comes r = (s : Slots) (κ : Known) (free : Bool) (before : def.Row) → From s κ w before → SoundNode free κ t
      → Ends a before w.held r (walk_node t img s (place a w) a.wanted) (lay_node t img false s (place a w))

  -- a UINT, BLOCK or SET
  pub leaf_comes : nests f ≡ false → (piece : Span) → SpanAs 4 piece (item_size t (numbers_in w.numbers)) (item_row t (numbers_in w.numbers) a.wanted)
      → Comes (step_of img a w piece f.sets next)
  unfolding SoundNode walk_node lay_node item_size placed
  leaf_comes other piece said s κ free before from sound =
      let is = leaf_is (inner_at depth d) d at (nested f) other ready.fit in
      let h = subst (SoundNode free κ) is sound in
      rw (is, value_is s κ f at _ from.matches h.refers, from.numbers)
      (piece_ends img a w piece f.sets next _ _ before ready.ready.small ready.ready.inside (rw is at said) from.row_as at _ _ refl
      (noted_numbers img w.numbers s f.sets (place a w) _ (omega (arith, ready.ready.slots, (fields_range d at).sets)) from.numbers)
      (λ x m. holds_one x m _))

  -- what is laid whole and sets no slot
  whole_ends : (piece : Span) (s : Slots) (before : def.Row) → slot_numbers s ≡ numbers_in w.numbers → RowAs 4 w.row before → (n : ℕ) (r : def.Row) (g : Spots) (o : Laid)
      → SpanAs 4 piece n r → Whole s (place a w) n g o
      → Ends a before w.held (step_of img a w piece 0 next) (onward (place a w) r) (in_image false (length img) at (place a w) o)
  unfolding noted dimension_at
  whole_ends piece s before numbers found n r g (laid ps t q) said h =
      rw (h.same, h.ends)
      (piece_ends img a w piece 0 next n r before ready.ready.small ready.ready.inside said found at ps s refl numbers (λ x m. unset_free ps x m h.unset))
  whole_ends piece s before numbers found n r g (stopped ps x) said h = absurd h

  -- an ARRAY
  pub array_comes : kind_of f ≡ 5 → (piece : Span) → SpanAs 4 piece (item_size t (numbers_in w.numbers)) (item_row t (numbers_in w.numbers) a.wanted)
      → Comes (step_of img a w piece 0 next)
  unfolding SoundNode RisesNode walk_node lay_node item_size item_row
  array_comes five piece said s κ free before from sound =
      let is = array_is (inner_at depth d) d at (nested f) five ready.fit in
      let h = subst (SoundNode free κ) is sound in
      let m = from.matches in
      let v = slot_numbers s in
      let body = inner_at depth d (at + 1 + 0) f.first in
      rw (is, value_is s κ f at _ m h.0)
      (whole_ends piece s before from.numbers from.row_as _ _ (λ j xs. row_spot (in_array (value v f) (body_size body v) (body_row body v j)) xs) _
      (rw (← from.numbers, is) at said)
      (w_array s (λ t q. lay_body body img true t q) (body_size body v) (λ j. body_row body v j)
      (λ q. w_body d img s κ m body 1 at (at + 1 + nested f) q h.1 (subst (RisesNode d 0 at (at + 1 + nested f)) is rises)) at (value v f) (place a w)))
    where
      rises : RisesNode d 0 at (at + 1 + nested f) t
      rises = rises_at d depth 0 at (nested f) at (at + 1 + nested f) (omega (arith, ready.ready.deep)) (omega (arith, ready.there))

  -- A CHOICE, by the body that it takes
  module _ (choice : is_choice f ≡ true) (from : Cursor) where
    abbrev x : ℕ
    x = value (numbers_in w.numbers) f

    abbrev c : Inner
    c = taken (branches_of d at) x

    module _ (starts : from.at ≡ at + 1 + c.skip) where
      pub choice_inside : (inner : Result Walk Refusal) → WalksBody d img a (elsewhere w from) c.items (depth - 1) inner → Comes inner
      unfolding FitNode SoundNode walk_node lay_node
      choice_inside inner h s κ free before fr sound =
          let arms = branches_of d at in
          let below = inner_at depth d in
          let body = body_at (depth - 1) d (at + 1 + c.skip) c.items in
          let node = choice_is below d at (nested f) choice ready.fit in
          let h' = subst (SoundNode free κ) node sound in
          let is : body_in below at c ≡ body = (inner_fit d depth _ _ (taken_fit below at x arms (subst FitNode node ready.fit))).1 in
          let v = ap (λ (v : Numbers). value v f) fr.numbers in
          let ends = h.ends s κ false before (record { numbers = fr.numbers; matches = fr.matches; row_as = fr.row_as })
          (rw (starts, ← is) (taken_sound below at x κ arms h'.1)) in
          let y = value (slot_numbers s) f in
          rw (node, taken_walk below at y arms img s (place a w) a.wanted, value_is s κ f at _ fr.matches h'.0, taken_lay below at y arms img false s (place a w), v, is)
          (rw starts at ends)

      pub choice_comes : (inner : Walk) → WalksBody d img a (elsewhere w from) c.items (depth - 1) (Ok inner) → Comes (Ok (elsewhere inner next))
      choice_comes inner h s κ free before fr sound =
          past_ends a before w.held inner (walk_node t img s (place a w) a.wanted) next (lay_node t img false s (place a w)) (choice_inside (Ok inner) h s κ free before fr sound)
