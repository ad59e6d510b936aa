-- The statements of specs/Passed.antt hold for every description: the reply says what the rules say, and a passed description has what document 01
-- asks of one. Assumes nothing.
use Prim.Native.Nat.{ℕ, ◌+◌, ◌<◌, ◌≤◌}
use mathlib.Core.Path.{◌≡◌, refl, sym, ap, subst, ◌∙◌}
use mathlib.Core.Logic.{◌⊎◌, inl, inr}
use mathlib.Core.List.{List}
use mathlib.Core.Bool.{Bool, true, false, not, cond, true≢false, false≢true, and-eq-true_iff}
use native.Mathlib.Decide.{ℕ_discrete}
use native.Mathlib.Omega.{arith}
use borrow.Author.Count.{below_more}
use borrow.Author.Tests.{eq-eqb, ne_eqb, ltb-true}
use lib.Dec.{eqb}
use Rattle.meaning.specs.declared.Refusal.{Refusal}
use Rattle.meaning.specs.Description.{item_count, fields_at, is_table, is_table_named, is_table00, count, round, breaks1, breaks2, breaks3, breaks4, breaks5, breaks6, breaks7, lowest_broken, rule_broken, check_reply}
use Rattle.meaning.specs.Passed.{breaks, MeetsRules, FirstToBreak, Passes, OfRules, CheckSays, Keeps, PassedLaws}
use Rattle.meaning.proofs.Rules.{round_none, keeps, length_allowed, sound_length, sound_passed, sound_refused}
use Rattle.meaning.proofs.Nesting.{upward, bodies_nest, shared, levels}
use Rattle.meaning.proofs.Ranges.{fields_range}
use Rattle.meaning.proofs.Given.{slot_given, setter, table_given_lem, named_swap}
use Rattle.meaning.specs.Numbers.{description_length, breaks_rule}
use Rattle.std.specs.Prelude.{Err}
use Rattle.meaning.specs.Values.{Verdict, passed}

-- THE RULE REPORTED: x is the lowest number of `from` to 7 for which q holds, 0 where it holds for none
record Lowest (x : ℕ) (q : ℕ → Bool) (from : ℕ) : Type 0 where
  none : x ≡ 0 → (n : ℕ) → q n ≡ false
  some : (x ≡ 0 → ⊥) → (q x ≡ true) × (from ≤ x) × (x ≤ 7)
  below : (n : ℕ) → n < x → q n ≡ false
  start : (n : ℕ) → n < from → q n ≡ false

-- one number more to choose from, below the others
lower : (m : ℕ) (b : Bool) {x : ℕ} {q : ℕ → Bool} → 0 < m → m ≤ 7 → Lowest x q (m + 1) → Lowest (cond b m x) (λ n. cond (eqb n m) b (q n)) m
lower m true {q = q} z s l =
    let less : (n : ℕ) → n < m → cond (eqb n m) true (q n) ≡ false = λ n h. rw (ne_eqb n m (omega arith)) (l.start n (omega arith)) in
    record { none = λ e. absurd (omega arith); some = λ e. (rw (eq-eqb m m refl), omega arith, s); below = less; start = less }
lower m false {x} {q} z s l =
    record {
      none = λ e n. no (eqb n m) (l.none e n);
      some = λ e.
          let t = l.some e in
          (rw (ne_eqb x m (omega arith)) t.0, omega arith, t.2);
      below = λ n h. no (eqb n m) (l.below n h);
      start = λ n h. no (eqb n m) (l.start n (omega arith));
    }
  where
    no : (t : Bool) {y : Bool} → y ≡ false → cond t false y ≡ false
    no true e = refl
    no false e = e

-- the rule reported for an item is the lowest that it breaks
lowest : (d : List ℕ) (i : ℕ) → Lowest (rule_broken d i) (λ n. breaks d n i) 2
unfolding rule_broken lowest_broken breaks
lowest d i =
    lower 2 (breaks2 (fields_at d i)) (omega arith) (omega arith)
    (lower 3 (breaks3 (fields_at d i) i (round d i i)) (omega arith) (omega arith)
    (lower 4 (breaks4 (fields_at d i) i (round d i i)) (omega arith) (omega arith)
    (lower 5 (breaks5 (fields_at d i) (round d i i)) (omega arith) (omega arith)
    (lower 6 (breaks6 d (fields_at d i) i) (omega arith) (omega arith)
    (lower 7 (breaks7 d (fields_at d i) i) (omega arith) (omega arith)
    (record { none = λ e n. refl; some = λ e. absurd (e refl); below = λ n h. refl; start = λ n h. refl }))))))

-- a test does not both hold and fail
clash : {b : Bool} → b ≡ true → b ≡ false → ⊥
clash p q = true≢false (sym p ∙ q)

-- THE REPLY SAYS WHAT THE RULES SAY
module _ (d : List ℕ) where
  -- no rule is reported for an item that breaks none
  none_broken : (i : ℕ) → ((n : ℕ) → breaks d n i ≡ false) → rule_broken d i ≡ 0
  none_broken i h = go (ℕ_discrete (rule_broken d i) 0)
    where
      go : Dec (rule_broken d i ≡ 0) → rule_broken d i ≡ 0
      go (yes e) = e
      go (no e) = absurd (clash ((lowest d i).some e).0 (h (rule_broken d i)))

  -- a rule that an item breaks, and below which it breaks none, is the one reported
  lowest_broken_lem : (n i : ℕ) → breaks d n i ≡ true → ((m : ℕ) → m < n → breaks d m i ≡ false) → (rule_broken d i ≡ n) × (n ≡ 0 → ⊥)
  lowest_broken_lem n i b h =
      let some : rule_broken d i ≡ 0 → ⊥ = λ e. clash b ((lowest d i).none e n) in
      let over : rule_broken d i < n → ⊥ = λ l. clash ((lowest d i).some some).0 (h (rule_broken d i) l) in
      let under : n < rule_broken d i → ⊥ = λ l. clash b ((lowest d i).below n l) in
      omega arith

  -- what meets the rules is passed, and the first item to break one is reported
  meets_passed : MeetsRules d → Passes d
  meets_passed m = sound_passed d m.allowed (λ j l. none_broken j (m.kept j l))

  breaking_refused : (n i : ℕ) → FirstToBreak d n i → check_reply d ≡ Err (breaks_rule n i)
  breaking_refused n i f =
      let l = lowest_broken_lem n i f.broken f.lowest in
      sound_refused d i n f.allowed (λ j p. none_broken j (f.earlier j p)) l.0 f.there l.1

  -- of the first m items none breaks a rule, or one is the first that does
  record Found (m : ℕ) : Type 0 where
    item : ℕ
    there : item < m
    earlier : (j : ℕ) → j < item → rule_broken d j ≡ 0
    broken : rule_broken d item ≡ 0 → ⊥

  Searched : ℕ → Type 0
  Searched m = ((j : ℕ) → j < m → rule_broken d j ≡ 0) ⊎ Found m

  searched : (m : ℕ) → Searched m
  unfolding Searched
  searched m = upward Searched 0 (inl (λ j h. absurd (omega arith))) more m (omega arith)
    where
      more : (m : ℕ) → 0 ≤ m → Searched m → Searched (m + 1)
      more m z (inl h) = go (ℕ_discrete (rule_broken d m) 0)
        where
          go : Dec (rule_broken d m ≡ 0) → Searched (m + 1)
          go (yes e) = inl (below_more _ m h e)
          go (no e) = inr (record { item = m; there = omega arith; earlier = h; broken = e })
      more m z (inr f) = inr (record { item = f.item; there = omega arith; earlier = f.earlier; broken = f.broken })

  -- so of every description one of three things can be said
  data Said : Type 0 where
    bad : breaks1 d ≡ true → Said
    meets : MeetsRules d → Said
    breaking : (n i : ℕ) → FirstToBreak d n i → 2 ≤ n → n ≤ 7 → Said

  said : Said
  unfolding Searched
  said = go (breaks1 d) refl (searched (item_count d))
    where
      go : (b : Bool) → breaks1 d ≡ b → Searched (item_count d) → Said
      go true e h = bad e
      go false e (inl h) = meets (record { allowed = e; kept = λ i l. (lowest d i).none (h i l) })
      go false e (inr f) =
          let l = lowest d f.item in
          let s = l.some f.broken in
          breaking (rule_broken d f.item) f.item
          (record { allowed = e; there = f.there; earlier = λ j p. (lowest d j).none (f.earlier j p); broken = s.0; lowest = l.below })
          s.1 s.2

  -- and since each has a reply of its own, the reply tells which
  differ : {r : Refusal} → Passes d → check_reply d ≡ Err r → ⊥
  differ p q = let z : ◌≡◌ {A = ℕ} 0 1 = cc in omega arith

  passed_meets : Said → Passes d → MeetsRules d
  passed_meets (bad e) p = absurd (differ p (sound_length d e))
  passed_meets (meets m) p = m
  passed_meets (breaking n i f a b) p = absurd (differ p (breaking_refused n i f))

  -- told by its number and its item
  number_in : Verdict → ℕ
  number_in passed = 0
  number_in (Err r) = r.number

  item_in : Verdict → ℕ
  item_in passed = 0
  item_in (Err r) = r.item

  same_number : {r s : Refusal} → check_reply d ≡ Err r → check_reply d ≡ Err s → r.number ≡ s.number
  unfolding number_in
  same_number p q = ap number_in (sym p ∙ q)

  refused_bad : Said → check_reply d ≡ Err description_length → breaks1 d ≡ true
  refused_bad (bad e) p = e
  refused_bad (meets m) p = absurd (differ (meets_passed m) p)
  refused_bad (breaking n i f a b) p = absurd (omega (arith, same_number p (breaking_refused n i f)))

  refused_breaking : Said → (n i : ℕ) → 2 ≤ n → check_reply d ≡ Err (breaks_rule n i) → FirstToBreak d n i
  unfolding item_in
  refused_breaking (bad e) n i h p = absurd (omega (arith, same_number (sound_length d e) p))
  refused_breaking (meets m) n i h p = absurd (differ (meets_passed m) p)
  refused_breaking (breaking m j f a b) n i h p =
      let q = breaking_refused m j f in
      rw (← same_number q p, ← ap item_in (sym q ∙ p)) f

  refused_rules : Said → (r : Refusal) → check_reply d ≡ Err r → OfRules r
  refused_rules (bad e) r p =
      let q = sound_length d e in
      let x : description_length ≡ r = cc in
      inl (sym x)
  refused_rules (meets m) r p = absurd (differ (meets_passed m) p)
  refused_rules (breaking n i f a b) r p =
      let q = breaking_refused n i f in
      let x : breaks_rule n i ≡ r = cc in
      subst OfRules x (inr (a, b, refl))

  pub check_says : CheckSays d
  check_says =
      record {
        passed = (passed_meets said, meets_passed);
        description_length = (refused_bad said, sound_length d);
        broken = λ n i h. (refused_breaking said n i h, breaking_refused n i);
        nothing_else = refused_rules said;
      }

-- A PASSED DESCRIPTION
module _ (d : List ℕ) (p : Passes d) where
  rules : MeetsRules d
  rules = (check_says d).passed.0 p

  -- each item breaks no rule
  kept : (i : ℕ) → i < item_count d → Keeps d (fields_at d i) i (round d i i)
  unfolding rule_broken
  kept i l = keeps d (fields_at d i) i (round d i i) (none_broken d i (rules.kept i l))

  -- table 00 has a body item, and it ends before the description does
  two_items : 1 < item_count d
  unfolding is_table00
  two_items =
      let l = length_allowed d rules.allowed in
      let k = kept 0 (omega (arith, l.some, l.whole)) in
      let body = ltb-true 0 (fields_at d 0).first ((and-eq-true_iff (is_table_named (fields_at d 0) 0 0) _).0 (k.table00 refl)).1 in
      omega (arith, rw round_none at k.fits)

  -- there is no TABLE round a TABLE, and one round every other item
  tables_round : (i : ℕ) → i < item_count d → (round d i i).tables ≡ count (not (is_table (fields_at d i)))
  tables_round i l =
      let k = kept i l in
      go (is_table (fields_at d i)) (round d i i).tables (levels d kept i i (omega arith) l).one k.top k.within
    where
      go : (t : Bool) (n : ℕ) → n ≤ 1 → (n ≡ 0 → t ≡ true) → (0 < n → t ≡ false) → n ≡ count (not t)
      go true n h top within = let z : 0 < n → ⊥ = λ q. true≢false (within q) in omega arith
      go false n h top within = let z : n ≡ 0 → ⊥ = λ q. false≢true (top q) in omega arith

  -- no earlier item sets the same slot, or is the same TABLE
  slot_once_lem : (i j : ℕ) → j < i → i < item_count d → 0 < (fields_at d i).sets → (fields_at d j).sets ≡ (fields_at d i).sets → ⊥
  slot_once_lem i j l n s e = omega (arith, slot_given d j (fields_at d i).sets e s i (omega arith), (kept i n).slot_once s)

  table_once_lem : (i j : ℕ) → j < i → i < item_count d → is_table (fields_at d i) ≡ true
      → is_table_named (fields_at d j) (fields_at d i).manufacturer (fields_at d i).number ≡ true → ⊥
  table_once_lem i j l n t e = clash (table_given_lem d j _ _ e i (omega arith)) ((kept i n).table_once t)

  pub passed_laws : PassedLaws d
  passed_laws =
      record {
        keeps = kept;
        few = omega (arith, (length_allowed d rules.allowed).few);
        two = two_items;
        begins = (kept 0 (omega (arith, two_items))).table00 refl;
        ordered = (kept 1 two_items).data_order refl;
        refers = λ i l h. setter d (fields_at d i).slot ((fields_at d i).low + (fields_at d i).width) i (omega (arith, (fields_range d i).some_bits h)) ((kept i l).refers h);
        nest = bodies_nest d kept;
        shared = shared d kept;
        tables = tables_round;
        levels = λ i l. levels d kept i i (omega arith) l;
        direct = λ i l h. (tables_round i l ∙ rw ((fields_range d i).dimension h), (kept i l).direct h);
        slots = λ i j n m h e.
            let over : j < i → ⊥ = λ l. slot_once_lem i j l n h (sym e) in
            let under : i < j → ⊥ = λ l. slot_once_lem j i l m (omega arith) e in
            omega arith;
        names = λ i j n m t e.
            let s = named_swap (fields_at d i) (fields_at d j) t e in
            let over : j < i → ⊥ = λ l. table_once_lem i j l n t e in
            let under : i < j → ⊥ = λ l. table_once_lem j i l m s.0 s.1 in
            omega arith;
      }
