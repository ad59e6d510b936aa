-- Our check says what document 01's rules say, as specs/Rules.antt puts them in words, for every description. Each rule's test fails exactly where the rule is kept
-- in words; only rule 7 leans on earlier items, which set no slot twice. Assumes nothing.
use Prim.Native.Nat.{ℕ, ◌+◌, ◌*◌, ◌%◌, ◌<◌, ◌≤◌}
use mathlib.Core.Path.{◌≡◌, refl, sym, ◌∙◌}
use mathlib.Core.List.{List}
use mathlib.Core.Bool.{Bool, true, false, cond, true≢false}
use native.Mathlib.Omega.{arith}
use borrow.Author.Tests.{eq-eqb, ne_eqb}
use lib.Dec.{eqb, ltb}
use lib.ListN.{length}
use Rattle.meaning.specs.Description.{item_count, fields_at, is_table_named, is_table00, is_data_order, round, slot_octets, table_given, misplaced, breaks1, breaks2, breaks3, breaks4, breaks5, breaks6, breaks7, check_reply, kind_of}
use Rattle.meaning.specs.Passed.{Exactly, breaks, end_of, MeetsRules as BreaksNone, FirstToBreak as FirstBroken, LengthAllowed}
use Rattle.meaning.proofs.Rules.{slot_step, given_none, given_step}
use Rattle.meaning.proofs.Nesting.{upward}
use Rattle.meaning.proofs.Ranges.{fields_range}
use Rattle.meaning.proofs.Given.{slot_given, setter, table_given_lem}
use Rattle.meaning.proofs.Passed.{check_says}
use Rattle.almanac.proofs.Choices.{put}
use Rattle.demands.specs.Rules.{WellFormed, InPlace, EndsInside, Shallow, Once, RefersBack, KeepsRule, KeepsRules, MeetsRules, FirstToBreak, CheckSays}
use Rattle.demands.proofs.Told.{Fails, onward, itself, below, equal, at_most, denied, fails_not, holds_not, nothing, both, neither, given, chosen}
use Rattle.demands.proofs.Surrounds.{Rising, tables, depth, over, each, no_one, by_limit}

-- WHAT EARLIER ITEMS GAVE
-- a TABLE isn't given exactly where no earlier item is that TABLE
no_table : (d : List ℕ) (i m n : ℕ) → Fails (table_given d i m n) ((j : ℕ) → j < i → is_table_named (fields_at d j) m n ≡ true → ⊥)
no_table d i m n = (
  λ e j l h. true≢false (sym (table_given_lem d j m n h i (omega arith)) ∙ e),
  λ h.
      upward (λ k. k ≤ i → table_given d k m n ≡ false) 0 (λ l. given_none d m n)
      (λ k z rec l. rw (given_step d k m n, (fails_not itself).1 (h k (omega arith)), rec (omega arith)))
      i (omega arith) (omega arith),
)

-- a slot has no octets exactly where no earlier item sets it
no_setter : (d : List ℕ) (i s : ℕ) → 0 < s → Fails (ltb 0 (slot_octets d i s)) ((j : ℕ) → j < i → (fields_at d j).sets ≡ s → ⊥)
no_setter d i s some =
    put (fails_not (below 0 (slot_octets d i s)))
    (λ none j l e. none (slot_given d j s e some i (omega arith)))
    (λ none p.
    let e = setter d s 1 i (omega arith) (omega arith) in
    none e.dimension e.earlier e.sets)

-- where no slot is set twice, it has the octets of the item that sets it
octets_set : (d : List ℕ) (i : ℕ) → ((j : ℕ) → j < i → Once d j) → (j s : ℕ) → (fields_at d j).sets ≡ s → 0 < s → j < i → slot_octets d i s ≡ (fields_at d j).octets
octets_set d i once j s e some l =
    upward (λ k. k ≤ i → slot_octets d k s ≡ (fields_at d j).octets) (j + 1) (λ m. rw (slot_step d j s, eq-eqb _ s e))
    (λ k h rec m.
    let other : (fields_at d k).sets ≡ s → ⊥ = λ x. (once k (omega arith)).slot (omega arith) j (omega arith) (omega arith) in
    rw (slot_step d k s, ne_eqb (fields_at d k).sets s other) (rec (omega arith)))
    i (omega arith) (omega arith)

-- THE RULES, by their numbers
module _ (d : List ℕ) (i : ℕ) where
  rule2 : Fails (breaks2 (fields_at d i)) (WellFormed d i)
  unfolding breaks2
  rule2 = put (fails_not (equal (kind_of (fields_at d i)) 0)) (λ h. omega arith) (λ h e. omega arith)

  rule3 : Fails (breaks3 (fields_at d i) i (round d i i)) (InPlace d i)
  unfolding breaks3 misplaced is_table00 is_data_order
  rule3 =
      put
      (neither
      (neither
      (given (equal i 0) (λ e. denied (both itself (below 0 (fields_at d i).first))))
      (given (equal i 1) (λ e. denied (both (below 0 (fields_at d i).sets) (equal (fields_at d i).octets 1)))))
      (neither
      (neither (given (nothing (round d i i).tables (no_one tables d i)) (λ e. denied itself)) (given (over tables d i 0) (λ e. itself)))
      (given (below 0 (fields_at d i).sets) (λ e. no_one depth d i))))
      (λ p.
      record {
        table00 = p.0.0;
        data_order = p.0.1;
        top = p.1.0.0;
        within = (each tables d i).0 p.1.0.1;
        direct = p.1.1;
      })
      (λ p. ((p.table00, p.data_order), ((p.top, (each tables d i).1 p.within), p.direct)))

  rule4 : Fails (breaks4 (fields_at d i) i (round d i i)) (EndsInside d i)
  unfolding breaks4
  rule4 = onward (at_most (round d i i).limit (end_of d i)) (by_limit d i)

  rule5 : Fails (breaks5 (fields_at d i) (round d i i)) (Shallow d i)
  unfolding breaks5 Rising
  rule5 =
      put (given itself (λ e. fails_not (over depth d i 3)))
      (λ h t a b c e ab bc ce pa pb pc pe. h t (e, pe.0.0, pe, (c, ce, pc, (b, bc, pb, (a, ab, pa, tt)))))
      (λ h t r.
      let c = r.3 in
      let b = c.3 in
      let a = b.3 in
      h t a.0 b.0 c.0 r.0 a.1 b.1 c.1 a.2 b.2 c.2 r.2)

  rule6 : Fails (breaks6 d (fields_at d i) i) (Once d i)
  unfolding breaks6
  rule6 =
      put
      (neither
      (given itself (λ e. no_table d i (fields_at d i).manufacturer (fields_at d i).number))
      (given (below 0 (fields_at d i).sets) (no_setter d i (fields_at d i).sets)))
      (λ p. record { table = p.0; slot = p.1 })
      (λ p. (p.table, p.slot))

  rule7 : ((j : ℕ) → j < i → Once d j) → Fails (breaks7 d (fields_at d i) i) (RefersBack d i)
  unfolding breaks7
  rule7 once =
      given (below 0 (fields_at d i).slot) (λ some.
      let bits = (fields_at d i).low + (fields_at d i).width in
      put (at_most (8 * slot_octets d i (fields_at d i).slot) bits)
      (setter d (fields_at d i).slot bits i (omega (arith, (fields_range d i).some_bits some)))
      (λ e. rw (octets_set d i once e.dimension (fields_at d i).slot e.sets some e.earlier) e.inside))

  -- whatever the rule's number
  rule : ((j : ℕ) → j < i → Once d j) → (n : ℕ) → Fails (breaks d n i) (KeepsRule d n i)
  unfolding breaks KeepsRule
  rule once n =
      chosen (eqb n 2) rule2 (chosen (eqb n 3) rule3 (chosen (eqb n 4) rule4 (chosen (eqb n 5) rule5 (chosen (eqb n 6) rule6
      (chosen (eqb n 7) (rule7 once) (λ e. tt, λ x. refl))))))

  -- all of them are kept exactly where each is
  keeps_rule : KeepsRules d i → (n : ℕ) → KeepsRule d n i
  unfolding KeepsRule
  keeps_rule k n =
      either (eqb n 2) k.well_formed (either (eqb n 3) k.in_place (either (eqb n 4) k.ends_inside (either (eqb n 5) k.shallow
      (either (eqb n 6) k.once (either (eqb n 7) k.refers_back tt)))))
    where
      either : (t : Bool) {A B : Type 0} → A → B → cond t A B
      either true x y = x
      either false x y = y

  keeps_rules : ((n : ℕ) → KeepsRule d n i) → KeepsRules d i
  unfolding KeepsRule
  keeps_rules k = record { well_formed = k 2; in_place = k 3; ends_inside = k 4; shallow = k 5; once = k 6; refers_back = k 7 }

  -- so none is broken by its test exactly where all are kept in words
  rules : ((j : ℕ) → j < i → Once d j) → Exactly ((n : ℕ) → breaks d n i ≡ false) (KeepsRules d i)
  rules once = (λ h. keeps_rules (λ n. (rule once n).0 (h n)), λ k n. (rule once n).1 (keeps_rule k n))

-- THE REPLY
module _ (d : List ℕ) where
  -- 1: the length
  rule1 : Fails (breaks1 d) (LengthAllowed d)
  unfolding breaks1
  rule1 =
      put (neither (neither (fails_not (equal (length d) 0)) (at_most 2048 (length d))) (at_most 0 (length d % 4)))
      (λ p. record { some = omega arith; few = p.0.1; whole = omega arith })
      (λ p. ((λ e. omega arith, p.few), omega arith))

  -- the items before e break no rule exactly where they keep the rules
  earlier : (e : ℕ) → Exactly ((i : ℕ) → i < e → (n : ℕ) → breaks d n i ≡ false) ((i : ℕ) → i < e → KeepsRules d i)
  unfolding breaks
  earlier e = (
    λ h i l. (rules d i (λ j m. (rule6 d j).0 (h j (omega arith) 6))).0 (h i l),
    λ h i l. (rules d i (λ j m. (h j (omega arith)).once)).1 (h i l),
  )

  passes : Exactly (BreaksNone d) (MeetsRules d)
  passes = (
    λ m. record { allowed = rule1.0 m.allowed; keeps = (earlier (item_count d)).0 m.kept },
    λ m. record { allowed = rule1.1 m.allowed; kept = (earlier (item_count d)).1 m.keeps },
  )

  breaks_first : (n i : ℕ) → Exactly (FirstBroken d n i) (FirstToBreak d n i)
  breaks_first n i = (
    λ f.
        let kept = (earlier i).0 f.earlier in
        let told = rule d i (λ j l. (kept j l).once) in
        record {
          allowed = rule1.0 f.allowed;
          there = f.there;
          earlier = kept;
          lower = λ m l. (told m).0 (f.lowest m l);
          broken = (holds_not (told n)).0 f.broken;
        },
    λ f.
        let told = rule d i (λ j l. (f.earlier j l).once) in
        record {
          allowed = rule1.1 f.allowed;
          there = f.there;
          earlier = (earlier i).1 f.earlier;
          broken = (holds_not (told n)).1 f.broken;
          lowest = λ m l. (told m).1 (f.lower m l);
        },
  )

  pub check_in_words : CheckSays d (check_reply d)
  check_in_words =
      let says = check_says d in
      record {
        passed = onward says.passed passes;
        length = onward says.description_length (holds_not rule1);
        broken = λ n i l. onward (says.broken n i l) (breaks_first n i);
      }
