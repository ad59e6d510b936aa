-- A walk through a body, item by item: what is left of the body leads where the whole does, at the start, after each item, where the image is short, and at the
-- end. Assumes nothing.
use Rattle.std.specs.Prelude.{Result, Ok, Err}
use Prim.Native.Nat.{ℕ, ◌+◌, ◌-◌, ◌<◌, ◌≤◌}
use mathlib.Core.Path.{◌≡◌, refl, ◌∙◌, ap, ap₂, sym, subst}
use mathlib.Core.Bool.{Bool, false, ◌||◌, or_assoc, or-false}
use mathlib.Core.List.{List}
use native.Mathlib.Omega.{arith}
use Rattle.meaning.specs.declared.Refusal.{Refusal}
use Rattle.meaning.specs.Description.{fields_at, nested}
use Rattle.meaning.specs.Layout.{Node, Body, more, body_at, Slots, Placed, fault, short, Laid, laid, stopped, also, and_then, lay_body, lay_node}
use Rattle.meaning.specs.Refusals.{any_dimension}
use Rattle.laying.specs.Rows.{no_row, first_row, onward, row_after, walk_body, walk_node}
use Rattle.laying.specs.Rows as def
use Rattle.laying.specs.Slots.{Matches}
use Rattle.laying.specs.Sound.{Known, FitBody, SoundBody, SoundNode, after_node}
use Rattle.places.proofs.Held.{holds_none, holds_append}
use Rattle.laying.proofs.Reaches.{Reaches, r_node}
use Rattle.laying.proofs.Rising.{rises_at}
use Rattle.laying.proofs.Rows.{first_none_right, first_assoc, onward_first}
use Rattle.laying.proofs.Steps.{body_none}
use Rattle.places.specs.declared.walk.Aim.{Aim}
use Rattle.places.specs.declared.walk.Walk.{Walk}
use Rattle.places.specs.Measuring.{node_in}
use Rattle.places.specs.Walking.{place, WalkEnds, Ends, From, WalkItemReady, WalksItem, WalksBody, Leads, OnItsWay}
use Rattle.places.proofs.Measures.{FirstOf, first_of}

-- ONE AFTER ANOTHER
module _ (a : Aim) (before : def.Row) (held : Bool) (x : Walk) (R Q : def.Row) (ps : List Placed) (s : Slots) (q : ℕ) (h : WalkEnds a before held x R ps s q) where
  -- what follows the elements ps
  ends_also : (r : Result Walk Refusal) (o : Laid) → Ends a (first_row before h.row_is.in_table) x.held r Q o → Ends a before held r (first_row R Q) (also ps o)
  ends_also (Ok r) (laid qs t p) g =
      record {
        here = g.here;
        numbers = g.numbers;
        holds = g.holds ∙ rw h.holds (or_assoc held (any_dimension ps _ _) (any_dimension qs _ _) ∙ ap (λ (b : Bool). held || b) (sym (holds_append _ _ ps qs)));
        row_is = record {
          in_table = first_row h.row_is.in_table g.row_is.in_table;
          is = ap₂ first_row h.row_is.is g.row_is.is ∙ sym (onward_first a.start.0 h.row_is.in_table g.row_is.in_table);
          row_as = rw (← first_assoc before h.row_is.in_table g.row_is.in_table) g.row_is.row_as;
        };
      }
  ends_also (Ok r) (stopped qs (fault y i)) g = tt
  ends_also (Ok r) (stopped qs (short i p)) g = absurd g
  ends_also (Err e) (laid qs t p) g = absurd g
  ends_also (Err e) (stopped qs (fault y i)) g = tt
  ends_also (Err e) (stopped qs (short i p)) g = g

-- where a walk is refused, nothing follows
stops_there : (a : Aim) (before : def.Row) (held : Bool) (e : Refusal) (R : def.Row) (Q : Slots → ℕ → def.Row) (f : Slots → ℕ → Laid) (o : Laid)
    → Ends a before held (Err e) R o → Ends a before held (Err e) (first_row R (row_after o Q)) (and_then o f)
unfolding and_then
stops_there a before held e R Q f (laid ps s q) h = absurd h
stops_there a before held e R Q f (stopped ps (fault z i)) h = tt
stops_there a before held e R Q f (stopped ps (short i p)) h = h

-- what is laid, and what follows it
then_ends : (a : Aim) (before : def.Row) (held : Bool) (r : Result Walk Refusal) (R : def.Row) (Q : Slots → ℕ → def.Row) (f : Slots → ℕ → Laid) (o : Laid) (ps : List Placed) (t : Slots) (q : ℕ)
    → o ≡ laid ps t q → Ends a before held r (first_row R (Q t q)) (also ps (f t q)) → Ends a before held r (first_row R (row_after o Q)) (and_then o f)
unfolding and_then row_after
then_ends a before held r R Q f o ps t q e h = subst (λ (z : Laid). Ends a before held r (first_row R (row_after z Q)) (and_then z f)) (sym e) h

-- else something is laid
record Goes (a : Aim) (before : def.Row) (held : Bool) (y : Walk) (R : def.Row) (κ : Known) (o : Laid) : Type 0 where
  elements : List Placed
  slots : Slots
  octet : ℕ
  is : o ≡ laid elements slots octet
  ends : WalkEnds a before held y R elements slots octet
  matches : Matches slots κ

goes : (a : Aim) (before : def.Row) (held : Bool) (y : Walk) (R : def.Row) (κ : Known) (r : ℕ → def.Row) (o : Laid)
    → Ends a before held (Ok y) R o → Reaches κ r o → Goes a before held y R κ o
goes a before held y R κ r (laid ps t q) h g = record { elements = ps; slots = t; octet = q; is = refl; ends = h; matches = g.matches }
goes a before held y R κ r (stopped ps (fault z i)) h g = absurd g
goes a before held y R κ r (stopped ps (short i p)) h g = absurd h

module _ (d img : List ℕ) (a : Aim) (w : Walk) (n depth : ℕ) where
  abbrev end : ℕ
  end = w.next.at + n

  module _ (x : Walk) (way : OnItsWay d img a w n depth x) where
    -- at the end the walk has come to what the body comes to
    pub arrives : end ≤ x.next.at → WalksBody d img a w n depth (Ok x)
    unfolding lay_body walk_body onward
    arrives h =
        let z : end - x.next.at ≡ 0 = omega arith in
        record {
          walked = record { inside = way.rest.ready.inside; slots = way.rest.ready.slots };
          ends = λ s κ free before from sound.
              let l = way.leads s κ free before from sound in
              l.so (Ok x) (rw (z, body_none depth d x.next.at) (record {
                here = refl;
                numbers = l.from.numbers;
                holds = sym (rw (holds_none) (or-false x.held));
                row_is = record { in_table = no_row; is = refl; row_as = rw (first_none_right l.row) l.from.row_as };
              }));
        }

    module _ (some : x.next.at < end) where
      opened : FirstOf d depth x.next.at (end - x.next.at)
      opened = first_of d depth x.next.at (end - x.next.at) (omega arith) way.rest.fit

      -- the next item can be walked
      pub item_ready : WalkItemReady d img a x depth
      item_ready = record { ready = way.rest.ready; there = omega (arith, way.rest.there, opened.within); fit = opened.item_fit }

      -- what is left is that item and the rest
      abbrev at : ℕ
      at = x.next.at

      abbrev node : Node
      node = node_in depth d at

      abbrev after : ℕ
      after = at + 1 + nested (fields_at d at)

      abbrev rest : Body
      rest = body_at depth d after (end - after)

      left_is : body_at depth d at (end - at) ≡ more node rest
      left_is = let e : at + (end - at) - after ≡ end - after = omega (arith, opened.within) in opened.is ∙ ap (λ (m : ℕ). more node (body_at depth d after m)) e

      rest_fit : FitBody rest
      rest_fit = let e : at + (end - at) - after ≡ end - after = omega (arith, opened.within) in subst (λ (m : ℕ). FitBody (body_at depth d after m)) e opened.rest_fit

      module _ (s : Slots) (κ : Known) (free : Bool) (before : def.Row) (from : From s κ w before) (sound : SoundBody free κ (body_at depth d w.next.at n)) where
        l : Leads d img a w n depth x s free before
        l = way.leads s κ free before from sound

        both : SoundNode free l.known node × SoundBody free (after_node node l.known) rest
        unfolding SoundBody
        both = subst (SoundBody free l.known) left_is l.sound

        -- what the item is laid out to
        abbrev o : Laid
        o = lay_node node img false l.slots (place a x)

        ends : (r : Result Walk Refusal) → WalksItem d img a x depth r → Ends a l.row x.held r (walk_node node img l.slots (place a x) a.wanted) o
        ends r item = item.ends l.slots l.known free l.row l.from both.0

        reaches : Reaches (after_node node l.known) (λ i. walk_node node img l.slots (place a x) i) o
        reaches =
            r_node img d node free 0 at after l.slots l.known (place a x) l.from.matches both.0
            (rises_at d depth 0 at (nested (fields_at d at)) at after (omega (arith, way.rest.ready.deep)) (omega (arith, item_ready.there)))

        -- from the walk at x to the whole
        so : (r : Result Walk Refusal) → Ends a l.row x.held r (walk_body (more node rest) img l.slots (place a x) a.wanted) (lay_body (more node rest) img false l.slots (place a x))
            → Ends a before w.held r (walk_body (body_at depth d w.next.at n) img s (place a w) a.wanted) (lay_body (body_at depth d w.next.at n) img false s (place a w))
        so r h = l.so r (rw left_is h)

      -- where the image is short there, so is the body
      pub stops : {e : Refusal} → WalksItem d img a x depth (Err e) → WalksBody d img a w n depth (Err e)
      unfolding lay_body walk_body
      stops {e} item =
          record {
            walked = tt;
            ends = λ s κ free before from sound.
                let k = l s κ free before from sound in
                so s κ free before from sound (Err e)
                (stops_there a k.row x.held e (walk_node node img k.slots (place a x) a.wanted) (λ t q. walk_body rest img t q a.wanted) (λ t q. lay_body rest img false t q)
                (o s κ free before from sound) (ends s κ free before from sound (Err e) item));
          }

      -- else the walk goes on at the item after it
      module _ {y : Walk} (item : WalksItem d img a x depth (Ok y)) where
        pub further : at < y.next.at
        further = omega (arith, item.moved)

        gone : (s : Slots) (κ : Known) (free : Bool) (before : def.Row) (from : From s κ w before) (sound : SoundBody free κ (body_at depth d w.next.at n))
            → Goes a (l s κ free before from sound).row x.held y (walk_node node img (l s κ free before from sound).slots (place a x) a.wanted)
            (after_node node (l s κ free before from sound).known) (o s κ free before from sound)
        gone s κ free before from sound =
            goes a _ x.held y _ _ _ (o s κ free before from sound) (ends s κ free before from sound (Ok y) item)
            (reaches s κ free before from sound)

        same : body_at depth d y.next.at (end - y.next.at) ≡ rest
        same = ap (λ (j : ℕ). body_at depth d j (end - j)) item.moved

        pub goes_on : OnItsWay d img a w n depth y
        unfolding lay_body walk_body
        goes_on =
            let m = item.moved in
            record {
              rest = rw m (record {
                ready = record {
                  few = way.rest.ready.few;
                  deep = way.rest.ready.deep;
                  small = way.rest.ready.small;
                  inside = item.walked.inside;
                  slots = item.walked.slots;
                };
                there = omega (arith, way.rest.there, opened.within);
                fit = rest_fit;
              });
              ordered = omega (arith, m, opened.within);
              leads = λ s κ free before from sound.
                  let k = l s κ free before from sound in
                  let g = gone s κ free before from sound in
                  let found = first_row k.row g.ends.row_is.in_table in
                  record {
                    slots = g.slots;
                    known = after_node node k.known;
                    row = found;
                    from = record { numbers = g.ends.numbers; matches = g.matches; row_as = g.ends.row_is.row_as };
                    sound = subst (SoundBody free _) (sym same) (both s κ free before from sound).1;
                    so = λ r h.
                        so s κ free before from sound r
                        (then_ends a k.row x.held r _ _ _ _ _ _ _ g.is
                        (ends_also a k.row x.held y _ (walk_body rest img g.slots g.octet a.wanted) g.elements g.slots g.octet g.ends r
                        (lay_body rest img false g.slots g.octet)
                        (subst (λ (p : ℕ). Ends a found y.held r (walk_body rest img g.slots p a.wanted) (lay_body rest img false g.slots p)) g.ends.here
                        (subst (λ (b : Body). Ends a found y.held r (walk_body b img g.slots (place a y) a.wanted) (lay_body b img false g.slots (place a y))) same h))));
                  };
            }
