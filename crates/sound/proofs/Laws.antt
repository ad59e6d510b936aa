-- What one turn of the check leaves known: the slots after an item, what stands round the items of its bodies, and how bodies join. Assumes nothing.
use Prim.Native.Nat.{ℕ, zero, suc, ◌+◌, ◌-◌, ◌<◌, ◌≤◌}
use mathlib.Core.Path.{◌≡◌, refl, ◌∙◌, ap, sym, subst, subst₂}
use mathlib.Core.List.{List}
use mathlib.Core.Bool.{Bool, true, false, cond, ◌&&◌}
use lib.ListN.{length, get_or, set, replicate, length-set, length-replicate, get_or-replicate}
use lib.Seq.{get_or-set_same, get_or-set_other}
use lib.Dec.{eqb, ltb}
use native.Mathlib.Omega.{arith}
use borrow.Author.Count.{below_more}
use borrow.Author.Tests.{ltb-true, eqb-true, eqb-false, ne_eqb}
use Rattle.meaning.specs.declared.Fields.{Fields}
use Rattle.meaning.specs.declared.Round.{Round}
use Rattle.meaning.specs.Description.{item_count, fields_at, is_table, nests, inside, round, slot_octets, lowest_broken, rule_broken, breaks1}
use Rattle.meaning.specs.Passed.{Keeps}
use Rattle.meaning.proofs.Rules.{slot_none, slot_step, round_none, beyond, in_first, in_second, keeps, length_allowed}
use Rattle.meaning.proofs.Ranges.{fields_range}
use Rattle.meaning.proofs.Nesting.{one_more}
use Rattle.items.specs.declared.Read.{Read}
use Rattle.items.specs.Read.{read_at}
use Rattle.items.proofs.ReadLaws.{range_read, fields_read, next_read}
use Rattle.meaning.specs.declared.Refusal.{Refusal}
use Rattle.meaning.specs.Numbers.{breaks_rule}
use Rattle.std.specs.Prelude.{Some, None}
use Rattle.meaning.proofs.Either.{clash}
use Rattle.sound.specs.Walk.{Known, noted, rule_of, Kept, Told, LevelsLeft, Fine, Quiet, Before, Entered, Clear, Broken, Going, Turn}

-- THE SLOTS
-- a test on the octets of a slot that an item names
pub known_test : (d : List ℕ) (k : ℕ) (slots : List ℕ) (s : ℕ) → Known d k slots → s < 64 → (g : ℕ → Bool)
    → (ltb 0 s && g (get_or slots s 0)) ≡ (ltb 0 s && g (slot_octets d k s))
known_test d k slots s h q g = go (ltb 0 s) refl
  where
    go : (b : Bool) → ltb 0 s ≡ b → (b && g (get_or slots s 0)) ≡ (b && g (slot_octets d k s))
    go true e = ap g (h.octets s (ltb-true 0 s e) q)
    go false e = refl

-- the slots after one more item
module _ (d : List ℕ) (at : ℕ) (slots : List ℕ) (k : Known d at slots) (small : (fields_at d at).sets < 64) where
  set_known : (s : ℕ) → 0 < s → s < 64 → (b : Bool) → eqb (fields_at d at).sets s ≡ b
      → get_or (set slots (fields_at d at).sets (fields_at d at).octets) s 0 ≡ cond b (fields_at d at).octets (slot_octets d at s)
  set_known s p q true e =
      let x : (fields_at d at).sets ≡ s = eqb-true _ _ e in
      let w : (fields_at d at).sets < length slots = omega (arith, k.size) in
      rw (← x) (get_or-set_same slots (fields_at d at).sets (fields_at d at).octets 0 w)
  set_known s p q false e =
      let x : s ≡ (fields_at d at).sets → ⊥ = λ h. eqb-false _ _ e (sym h) in
      get_or-set_other slots (fields_at d at).sets s (fields_at d at).octets 0 x ∙ k.octets s p q

  pub known_step : Known d (at + 1) (noted slots (fields_at d at))
  unfolding noted
  known_step = go (eqb (fields_at d at).sets 0) refl
    where
      go : (b : Bool) → eqb (fields_at d at).sets 0 ≡ b → Known d (at + 1) (cond b slots (set slots (fields_at d at).sets (fields_at d at).octets))
      go true e =
          let z : (fields_at d at).sets ≡ 0 = eqb-true _ _ e in
          record {
            size = k.size;
            octets = λ s p q.
                let ne : (fields_at d at).sets ≡ s → ⊥ = omega arith in
                k.octets s p q ∙ sym (slot_step d at s ∙ rw (ne_eqb _ _ ne));
          }
      go false e =
          record {
            size = length-set slots (fields_at d at).sets (fields_at d at).octets ∙ k.size;
            octets = λ s p q. set_known s p q (eqb (fields_at d at).sets s) refl ∙ sym (slot_step d at s);
          }

-- THE RULE TOLD
pub rule_none : (n : ℕ) → rule_of n ≡ None → n ≡ 0
unfolding rule_of
rule_none zero e = refl
rule_none (suc n) e = clash (cc)

pub rule_some : (n x : ℕ) → rule_of n ≡ Some x → (x ≡ n) × (x ≡ 0 → ⊥)
unfolding rule_of
rule_some zero x e = clash (cc)
rule_some (suc n) x e = let same : x ≡ suc n = cc in (same, λ z. omega (arith, same))

-- ONE ITEM READ AND JUDGED
module _ (d : List ℕ) (at : ℕ) (r : Round) (h : at < item_count d) {read : Read} {rule : ℕ} (er : read ≡ read_at d at) (e : rule ≡ lowest_broken d read.fields at r) where
  rule_is : rule ≡ lowest_broken d (fields_at d at) at r
  rule_is = e ∙ ap (λ (x : Fields). lowest_broken d x at r) (fields_read d at h er)

  pub judged_kept : rule ≡ 0 → Kept d at r read
  judged_kept z = record { fields = fields_read d at h er; range = range_read d at er; passes = sym rule_is ∙ z; next = next_read d at h er }

  pub judged_told : (rule ≡ 0 → ⊥) → Told d at r (breaks_rule rule at)
  judged_told some = record { some = λ z. some (rule_is ∙ z); is = ap (λ (x : ℕ). breaks_rule x at) rule_is }

-- ONE LEVEL DOWN: in the bodies of an item that breaks no rule one level fewer is left
deeper : (d : List ℕ) (at : ℕ) (r : Round) (levels : ℕ) → LevelsLeft r levels → Keeps d (fields_at d at) at r → ((fields_at d at).first + (fields_at d at).second ≡ 0 → ⊥)
    → (0 < levels) × ((e : ℕ) → LevelsLeft (inside (fields_at d at) e r) (levels - 1))
unfolding inside
deeper d at r levels l k some =
    let one = (fields_range d at).encloses (omega (arith, some)) in
    let more = one_more (is_table (fields_at d at)) (nests (fields_at d at)) _ _ one k.top k.within k.shallow l.round.one l.round.four in
    (omega arith, λ e. record { left = omega arith; round = record { one = more.0; four = more.1 } })

-- ONE TURN: item `at` of a body, with r round it, judged
module _ {d : List ℕ} {at : ℕ} {slots : List ℕ} {r : Round} {levels : ℕ} (b : Before d at slots r levels) (more : at < r.limit) where
  turn_is : rule_broken d at ≡ lowest_broken d (fields_at d at) at r
  unfolding rule_broken
  turn_is = rw (b.held at (omega arith) more)

  pub broke : {e : Refusal} → Told d at r e → Broken d e
  broke t = record { at = at; rule = lowest_broken d (fields_at d at) at r; is = t.is; some = t.some; fine = b.fine; breaks = turn_is; there = omega (arith, b.there.whole) }

-- and it breaks no rule
module _ {d : List ℕ} {from at : ℕ} {slots : List ℕ} {r : Round} {levels : ℕ} {j : Read} {later : List ℕ} (turn : Turn d from at slots r levels j later) where
  before : Before d at slots r levels
  before = turn.going.now

  on : Keeps d (fields_at d at) at r
  on = keeps d (fields_at d at) at r turn.judged.passes

  known : Known d (at + 1) later
  known = rw (turn.set, turn.judged.fields) (known_step d at slots before.known (fields_range d at).sets)

  enter_at : Entered d (fields_at d at) (at + 1) later r levels
  unfolding inside
  enter_at =
      record {
        there = record { few = omega (arith, on.fits, before.there.few); whole = omega (arith, on.fits, before.there.whole) };
        deeper = λ some. deeper d at r levels before.levels_left on some;
        fine = below_more (λ (i : ℕ). rule_broken d i ≡ 0) at before.fine (turn_is before turn.more ∙ turn.judged.passes);
        known = known;
        held_first = λ i p q. in_first d at i q ∙ ap (inside (fields_at d at) _) (before.held i (omega arith) (omega (arith, on.fits)));
        held_second = λ i p q. in_second d at i p q ∙ ap (inside (fields_at d at) _) (before.held i (omega arith) (omega (arith, on.fits)));
      }

  -- the item's bodies may be gone into
  pub enter : Entered d j.fields j.next.at later r levels
  enter = subst₂ (λ (f : Fields) (n : ℕ). Entered d f n later r levels) (sym turn.judged.fields) (sym turn.judged.next) enter_at

  -- and once they are clear, the check goes on after them
  module _ {p : ℕ} {m : List ℕ} (c : Clear d j.next.at (j.next.at + j.fields.first + j.fields.second) p m) where
    past : Clear d (at + 1) (at + 1 + (fields_at d at).first + (fields_at d at).second) p m
    past = subst₂ (λ (f : Fields) (n : ℕ). Clear d n (n + f.first + f.second) p m) turn.judged.fields turn.judged.next c

    pub further : (at < p) × (p ≤ r.limit)
    further = (omega (arith, past.ends), omega (arith, past.ends, on.fits))

    same : (i : ℕ) → p ≤ i → round d p i ≡ round d at i
    same i h =
        let e = past.ends in
        let g : at + 1 + (fields_at d at).first + (fields_at d at).second ≤ i = omega arith in
        ap (λ (x : ℕ). round d x i) e ∙ past.quiet i g ∙ beyond d at i g

    pub leave : Going d from p m r levels
    leave =
        record {
          now =
              record {
                there = before.there;
                ordered = further.1;
                levels_left = before.levels_left;
                fine = subst (λ (x : ℕ). Fine d x) (sym past.ends) past.fine;
                known = subst (λ (x : ℕ). Known d x m) (sym past.ends) past.known;
                held = λ i g h. same i g ∙ before.held i (omega (arith, further.0)) h;
              };
          quiet = λ i g. same i g ∙ turn.going.quiet i (omega (arith, further.0));
        }

-- the end of a body
pub ended : {d : List ℕ} {from at : ℕ} {slots : List ℕ} {r : Round} {levels : ℕ} → Going d from at slots r levels → r.limit ≤ at → Clear d from r.limit at slots
ended {d} {from} {at} {slots} {r} g h =
    let e : at ≡ r.limit = omega (arith, g.now.ordered) in
    record {
      ends = e;
      fine = subst (λ (x : ℕ). Fine d x) e g.now.fine;
      known = subst (λ (x : ℕ). Known d x slots) e g.now.known;
      quiet = subst (λ (x : ℕ). Quiet d from x) e g.quiet;
    }

-- THE BODIES OF ONE ITEM
module _ {d : List ℕ} {f : Fields} {at : ℕ} {slots : List ℕ} {r : Round} {levels : ℕ} (b : Entered d f at slots r levels) where
  -- none
  pub entered_none : f.first + f.second ≡ 0 → Clear d at (at + f.first + f.second) at slots
  entered_none z =
      let e : at ≡ at + f.first + f.second = omega arith in
      record {
        ends = e;
        fine = subst (λ (x : ℕ). Fine d x) e b.fine;
        known = subst (λ (x : ℕ). Known d x slots) e b.known;
        quiet = λ i h. ap (λ (x : ℕ). round d x i) (sym e);
      }

  pub first_before : {s : Round} → (f.first + f.second ≡ 0 → ⊥) → s ≡ inside f (at + f.first) r → Before d at slots s (levels - 1)
  unfolding inside
  first_before some e =
      subst (λ (x : Round). Before d at slots x (levels - 1)) (sym e)
      (record {
        there = record { few = omega (arith, b.there.few); whole = omega (arith, b.there.whole) };
        ordered = omega arith;
        levels_left = (b.deeper some).1 _;
        fine = b.fine;
        known = b.known;
        held = b.held_first;
      })

  module _ {s : Round} (es : s ≡ inside f (at + f.first) r) {p : ℕ} {m : List ℕ} (c : Clear d at s.limit p m) where
    first_clear : Clear d at (at + f.first) p m
    unfolding inside
    first_clear = subst (λ (x : Round). Clear d at x.limit p m) es c

    pub second_before : {u : Round} → (f.first + f.second ≡ 0 → ⊥) → u ≡ inside f (at + f.first + f.second) r → Before d p m u (levels - 1)
    unfolding inside
    second_before some e =
        subst (λ (x : Round). Before d p m x (levels - 1)) (sym e)
        (subst (λ (y : ℕ). Before d y m (inside f (at + f.first + f.second) r) (levels - 1)) (sym first_clear.ends)
        (record {
          there = b.there;
          ordered = omega arith;
          levels_left = (b.deeper some).1 _;
          fine = first_clear.fine;
          known = first_clear.known;
          held = λ i g h. first_clear.quiet i g ∙ b.held_second i g h;
        }))

    -- the two bodies are one stretch
    pub joined : {u : Round} → u ≡ inside f (at + f.first + f.second) r → {q : ℕ} {o : List ℕ} → Clear d p u.limit q o → Clear d at (at + f.first + f.second) q o
    unfolding inside
    joined e {q} {o} k =
        let g : Clear d p (at + f.first + f.second) q o = subst (λ (x : Round). Clear d p x.limit q o) e k in
        let n : Clear d (at + f.first) (at + f.first + f.second) q o = subst (λ (y : ℕ). Clear d y (at + f.first + f.second) q o) first_clear.ends g in
        record { ends = n.ends; fine = n.fine; known = n.known; quiet = λ i g. n.quiet i g ∙ first_clear.quiet i (omega arith) }

-- THE WHOLE DESCRIPTION, before its first item
pub whole : (d : List ℕ) → breaks1 d ≡ false → Before d 0 (replicate 64 0) (record { limit = item_count d; tables = 0; nests = 0 }) 5
whole d e =
    let l = length_allowed d e in
    record {
      there = record { few = omega (arith, l.few); whole = omega arith };
      ordered = omega arith;
      levels_left = record { left = omega arith; round = record { one = omega arith; four = omega arith } };
      fine = λ j h. absurd (omega arith);
      known =
          record {
            size = length-replicate {A = ℕ} 64 0;
            octets = λ s p q. get_or-replicate {A = ℕ} 64 s 0 0 q ∙ sym (slot_none d s);
          };
      held = λ i p q. round_none d i;
    }
