-- What the rules' definitions say, case by case: the searches over earlier items, what stands round an item, an item that breaks no rule, the reply.
-- Assumes nothing.
use Prim.Native.Nat.{ℕ, zero, suc, ◌+◌, ◌%◌, ◌<◌, ◌≤◌}
use mathlib.Core.Path.{◌≡◌, refl, sym, ◌∙◌}
use mathlib.Core.Logic.{◌⊎◌, inl, inr}
use mathlib.Core.List.{List}
use mathlib.Core.Bool.{Bool, true, false, not, cond, ◌&&◌, ◌||◌, true≢false}
use native.Mathlib.Nat.{eq-or-lt_of_le}
use native.Mathlib.Numerals.{add-one}
use native.Mathlib.Omega.{arith}
use borrow.Author.Tests.{lt-ltb, le-ltb, eq-eqb, ne_eqb, ltb-false, eqb-false, not-false}
use lib.Dec.{eqb, ltb}
use lib.ListN.{length}
use Rattle.meaning.specs.declared.Fields.{Fields}
use Rattle.meaning.specs.declared.Round.{Round}
use Rattle.meaning.specs.Description.{item_count, fields_at, is_table, is_table_named, is_table00, is_data_order, is_dimension, nests, refers, inside, around, round, slot_octets, table_given, misplaced, breaks1, breaks2, breaks3, breaks4, breaks5, breaks6, breaks7, lowest_broken, rule_broken, first_broken, check_reply, kind_of}
use Rattle.meaning.specs.Passed.{Keeps, LengthAllowed}
use Rattle.meaning.specs.Numbers.{description_length, breaks_rule}
use Rattle.std.specs.Prelude.{Err}
use Rattle.meaning.specs.Values.{passed}

-- WHAT EARLIER ITEMS GAVE, before the first item and past one more
pub slot_none : (d : List ℕ) (s : ℕ) → slot_octets d 0 s ≡ 0
unfolding slot_octets
slot_none d s = refl

pub slot_step : (d : List ℕ) (j s : ℕ) → slot_octets d (j + 1) s ≡ cond (eqb (fields_at d j).sets s) (fields_at d j).octets (slot_octets d j s)
unfolding slot_octets
slot_step d j s = rw (add-one j)

pub given_none : (d : List ℕ) (m n : ℕ) → table_given d 0 m n ≡ false
unfolding table_given
given_none d m n = refl

pub given_step : (d : List ℕ) (j m n : ℕ) → table_given d (j + 1) m n ≡ (is_table_named (fields_at d j) m n || table_given d j m n)
unfolding table_given
given_step d j m n = rw (add-one j)

-- WHAT STANDS ROUND AN ITEM: at the top level the end of the description alone
pub round_none : (d : List ℕ) (i : ℕ) → round d 0 i ≡ record { limit = item_count d; tables = 0; nests = 0 }
unfolding round
round_none d i = refl

-- past one more item
module _ (d : List ℕ) (k i : ℕ) where
  step : round d (k + 1) i ≡ around (fields_at d k) k i (round d k i)
  unfolding round
  step = rw (add-one k)

  -- after its bodies it adds nothing
  pub beyond : k + 1 + (fields_at d k).first + (fields_at d k).second ≤ i → round d (k + 1) i ≡ round d k i
  unfolding around
  beyond h =
      let p : k + 1 + (fields_at d k).first ≤ i = omega arith in
      step ∙ simp (le-ltb _ _ p, le-ltb _ _ h)

  -- in its first body it stands round what it encloses, which ends with that body
  pub in_first : i < k + 1 + (fields_at d k).first → round d (k + 1) i ≡ inside (fields_at d k) (k + 1 + (fields_at d k).first) (round d k i)
  unfolding around
  in_first h = step ∙ simp (lt-ltb _ _ h)

  -- in its second body likewise
  pub in_second : k + 1 + (fields_at d k).first ≤ i → i < k + 1 + (fields_at d k).first + (fields_at d k).second
      → round d (k + 1) i ≡ inside (fields_at d k) (k + 1 + (fields_at d k).first + (fields_at d k).second) (round d k i)
  unfolding around
  in_second p h = step ∙ simp (le-ltb _ _ p, lt-ltb _ _ h)

-- AN ITEM THAT BREAKS NO RULE
-- a test of which one side or the other would do fails: both fail
pub either_false : (a b : Bool) → (a || b) ≡ false → (a ≡ false) × (b ≡ false)
either_false true b e = absurd (true≢false e)
either_false false b e = (refl, e)

-- one of which both sides have to hold fails where one holds: the other fails
pub both_false : (a b : Bool) → (a && b) ≡ false → a ≡ true → b ≡ false
both_false true b e h = e
both_false false b e h = absurd (true≢false (sym h))

-- where no number is chosen, no test holds
unbroken : (a b c d e f : Bool) → ◌≡◌ {A = ℕ} (cond a 2 (cond b 3 (cond c 4 (cond d 5 (cond e 6 (cond f 7 0)))))) 0
    → (a ≡ false) × (b ≡ false) × (c ≡ false) × (d ≡ false) × (e ≡ false) × (f ≡ false)
unbroken true b c d e f h = absurd (omega arith)
unbroken false true c d e f h = absurd (omega arith)
unbroken false false true d e f h = absurd (omega arith)
unbroken false false false true e f h = absurd (omega arith)
unbroken false false false false true f h = absurd (omega arith)
unbroken false false false false false true h = absurd (omega arith)
unbroken false false false false false false h = (refl, refl, refl, refl, refl, refl)

-- no rule is broken: each rule as a fact
pub keeps : (d : List ℕ) (f : Fields) (i : ℕ) (r : Round) → lowest_broken d f i r ≡ 0 → Keeps d f i r
unfolding lowest_broken breaks2 breaks3 breaks4 breaks5 breaks6 breaks7 misplaced
keeps d f i r e =
    let u = unbroken (breaks2 f) (breaks3 f i r) (breaks4 f i r) (breaks5 f r) (breaks6 d f i) (breaks7 d f i) e in
    let wrong0 = eqb i 0 && not (is_table00 f) in
    let wrong1 = eqb i 1 && not (is_data_order f) in
    let stray = eqb r.tables 0 && not (is_table f) in
    let inner = ltb 0 r.tables && is_table f in
    let deep = is_dimension f && ltb 0 r.nests in
    let again = is_table f && table_given d i f.manufacturer f.number in
    let twice = is_dimension f && ltb 0 (slot_octets d i f.sets) in
    let p = either_false (wrong0 || wrong1) (misplaced f r) u.1 in
    let q = either_false wrong0 wrong1 p.0 in
    let s = either_false (stray || inner) deep p.1 in
    let t = either_false stray inner s.0 in
    let g = either_false again twice u.4 in
    let k : kind_of f ≡ 0 → ⊥ = eqb-false _ _ u.0 in
    record {
      well_formed = omega arith;
      table00 = λ h. not-false _ (both_false (eqb i 0) _ q.0 (eq-eqb i 0 h));
      data_order = λ h. not-false _ (both_false (eqb i 1) _ q.1 (eq-eqb i 1 h));
      top = λ h. not-false _ (both_false (eqb r.tables 0) _ t.0 (eq-eqb _ 0 h));
      within = λ h. both_false (ltb 0 r.tables) _ t.1 (lt-ltb 0 _ h);
      direct = λ h. omega (arith, ltb-false 0 r.nests (both_false (is_dimension f) _ s.1 (lt-ltb 0 _ h)));
      fits = ltb-false _ _ u.2;
      shallow = λ h. ltb-false 3 _ (both_false (nests f) _ u.3 h);
      table_once = λ h. both_false (is_table f) _ g.0 h;
      slot_once = λ h. omega (arith, ltb-false 0 (slot_octets d i f.sets) (both_false (is_dimension f) _ g.1 (lt-ltb 0 _ h)));
      refers = λ h. ltb-false _ _ (both_false (refers f) _ u.5 (lt-ltb 0 _ h));
    }

-- THE REPLY
-- items that break no rule are passed
pub first_passed : (d : List ℕ) (m i : ℕ) → ((j : ℕ) → i ≤ j → j < i + m → rule_broken d j ≡ 0) → first_broken d m i ≡ passed
unfolding first_broken
first_passed d zero i h = refl
first_passed d (suc m) i h = rw (h i (omega arith) (omega arith)) (first_passed d m (i + 1) (λ j p q. h j (omega arith) (omega arith)))

-- of items the first that breaks a rule is reported
pub first_refused : (d : List ℕ) (m i k n : ℕ) → i ≤ k → k < i + m → ((j : ℕ) → i ≤ j → j < k → rule_broken d j ≡ 0) → rule_broken d k ≡ n → (n ≡ 0 → ⊥)
    → first_broken d m i ≡ Err (breaks_rule n k)
unfolding first_broken
first_refused d zero i k n p q h e ne = absurd (omega arith)
first_refused d (suc m) i k n p q h e ne =
    go (λ x. first_refused d m (i + 1) k n (omega arith) (omega arith) (λ j p q. h j (omega arith) q) e ne) (eq-or-lt_of_le p)
  where
    go : (i < k → first_broken d m (i + 1) ≡ Err (breaks_rule n k)) → (i ≡ k) ⊎ (i < k)
        → cond (eqb (rule_broken d i) 0) (first_broken d m (i + 1)) (Err (breaks_rule (rule_broken d i) i)) ≡ Err (breaks_rule n k)
    go rec (inl x) = rw (x, e, ne_eqb _ _ ne)
    go rec (inr x) = rw (h i (omega arith) x) (rec x)

pub length_allowed : (d : List ℕ) → breaks1 d ≡ false → LengthAllowed d
unfolding breaks1
length_allowed d e =
    let a = either_false (eqb (length d) 0 || ltb 2048 (length d)) (ltb 0 (length d % 4)) e in
    let b = either_false (eqb (length d) 0) (ltb 2048 (length d)) a.0 in
    let z : length d ≡ 0 → ⊥ = eqb-false _ _ b.0 in
    let m : length d % 4 ≤ 0 = ltb-false _ _ a.1 in
    record { some = omega arith; few = ltb-false _ _ b.1; whole = omega arith }

-- a length that is not allowed is refused before any item is looked at
pub sound_length : (d : List ℕ) → breaks1 d ≡ true → check_reply d ≡ Err description_length
unfolding check_reply
sound_length d e = rw e

-- a description whose items break no rule is passed
pub sound_passed : (d : List ℕ) → breaks1 d ≡ false → ((j : ℕ) → j < item_count d → rule_broken d j ≡ 0) → check_reply d ≡ passed
unfolding check_reply
sound_passed d e h = rw e (first_passed d (item_count d) 0 (λ j p q. h j (omega arith)))

-- the first item that breaks a rule is reported, with the lowest that it breaks
pub sound_refused : (d : List ℕ) (k n : ℕ) → breaks1 d ≡ false → ((j : ℕ) → j < k → rule_broken d j ≡ 0) → rule_broken d k ≡ n → k < item_count d → (n ≡ 0 → ⊥)
    → check_reply d ≡ Err (breaks_rule n k)
unfolding check_reply
sound_refused d k n e h b q ne = rw e (first_refused d (item_count d) 0 k n (omega arith) (omega arith) (λ j p q. h j q) b ne)
