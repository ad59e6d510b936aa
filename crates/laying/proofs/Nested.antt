-- A body of a passed description is a run of items with the same TABLE, ARRAYs and choices round each of them: so are the bodies of its first item, and what
-- follows those. Assumes nothing.
use Prim.Native.Nat.{ℕ, ◌+◌, ◌<◌, ◌≤◌}
use mathlib.Core.Path.{◌≡◌, refl, ◌∙◌, ap}
use mathlib.Core.Bool.{true}
use mathlib.Core.List.{List}
use borrow.Author.Tests.{ne_eqb}
use native.Mathlib.Omega.{arith}
use native.Mathlib.Decide.{dec_lt}
use Rattle.meaning.specs.declared.Round.{Round}
use Rattle.meaning.specs.Description.{item_count, fields_at, nests, count, inside, round, slot_octets}
use Rattle.meaning.specs.Passed.{Keeps, PassedLaws, end_of}
use Rattle.meaning.proofs.Rules.{beyond, in_first, in_second, slot_step}
use Rattle.meaning.proofs.Nesting.{upward}

-- the items from a up to e, with r round each of them
pub record Run (d : List ℕ) (a e : ℕ) (r : Round) : Type 0 where
  pub whole : e ≤ item_count d
  pub ends : r.limit ≡ e
  pub held : (i : ℕ) → a ≤ i → i < e → round d a i ≡ r

-- items that end by b put nothing round an item from b on
passing : (d : List ℕ) (a b i : ℕ) → a ≤ b → b ≤ i → ((j : ℕ) → a ≤ j → j < b → end_of d j ≤ b) → round d b i ≡ round d a i
passing d a b i p q h =
    upward (λ k. k ≤ b → round d k i ≡ round d a i) a (λ z. refl)
    (λ k l rec z. beyond d k i (omega (arith, h k l (omega arith))) ∙ rec (omega arith))
    b p (omega arith)

module _ {d : List ℕ} (p : PassedLaws d) {a e : ℕ} {r : Round} (b : Run d a e r) (l : a < e) where
  -- its first item keeps the rules, with r round it
  pub first_keeps : Keeps d (fields_at d a) a r
  first_keeps = rw (b.held a (omega arith) l) at (p.keeps a (omega (arith, b.whole)))

  -- and ends in the run
  pub first_ends : end_of d a ≤ e
  first_ends = omega (arith, first_keeps.fits, b.ends)

  -- that item's first body
  pub first_body : Run d (a + 1) (a + 1 + (fields_at d a).first) (inside (fields_at d a) (a + 1 + (fields_at d a).first) r)
  unfolding inside
  first_body =
      record {
        whole = omega (arith, first_ends, b.whole);
        ends = refl;
        held = λ i m n. in_first d a i n ∙ ap (inside (fields_at d a) _) (b.held i (omega arith) (omega (arith, first_ends)));
      }

  -- and its second
  pub second_body : Run d (a + 1 + (fields_at d a).first) (end_of d a) (inside (fields_at d a) (end_of d a) r)
  unfolding inside
  second_body =
      record {
        whole = omega (arith, first_ends, b.whole);
        ends = refl;
        held = λ i m n.
            passing d (a + 1) (a + 1 + (fields_at d a).first) i (omega arith) m
            (λ j s t. p.nest.first a j (omega (arith, first_ends, b.whole)) (omega arith) t)
            ∙ in_second d a i m n ∙ ap (inside (fields_at d a) _) (b.held i (omega arith) (omega (arith, first_ends)));
      }

  -- what follows those
  pub rest_body : Run d (end_of d a) e r
  rest_body =
      record {
        whole = b.whole;
        ends = b.ends;
        held = λ i m n.
            passing d a (end_of d a) i (omega arith) m (λ j s t. within j s t (dec_lt a j) (dec_lt j (a + 1 + (fields_at d a).first)))
            ∙ b.held i (omega arith) n;
      }
    where
      -- an item from a on ends with a's bodies
      within : (j : ℕ) → a ≤ j → j < end_of d a → Dec (a < j) → Dec (j < a + 1 + (fields_at d a).first) → end_of d j ≤ end_of d a
      within j s t (no n) y = let x : j ≡ a = omega arith in rw x (omega arith)
      within j s t (yes x) (yes y) = omega (arith, p.nest.first a j (omega (arith, first_ends, b.whole)) x y)
      within j s t (yes x) (no n) = p.nest.second a j (omega (arith, first_ends, b.whole)) (omega arith) t

-- WHAT STANDS IN AN ARRAY OR A CHOICE sets no slot
-- items before an item put no less round it than fewer of them do
grows : (d : List ℕ) (k i : ℕ) → (round d k i).nests ≤ (round d (k + 1) i).nests
unfolding inside
grows d k i = go (dec_lt i (k + 1 + (fields_at d k).first)) (dec_lt i (end_of d k))
  where
    go : Dec (i < k + 1 + (fields_at d k).first) → Dec (i < end_of d k) → (round d k i).nests ≤ (round d (k + 1) i).nests
    go (yes x) y = rw (in_first d k i x) (omega arith)
    go (no x) (yes y) = rw (in_second d k i (omega arith) y) (omega arith)
    go (no x) (no y) = rw (beyond d k i (omega arith)) (omega arith)

module _ {d : List ℕ} (p : PassedLaws d) {a e : ℕ} {r : Round} (b : Run d a e r) (l : a < e) (nest : nests (fields_at d a) ≡ true) where
  deep : (i : ℕ) → a < i → i < end_of d a → 0 < (round d i i).nests
  unfolding inside
  deep i s t = upward (λ k. 0 < (round d k i).nests) (a + 1) (go (dec_lt i (a + 1 + (fields_at d a).first))) (λ k z h. omega (arith, grows d k i)) i (omega arith)
    where
      go : Dec (i < a + 1 + (fields_at d a).first) → 0 < (round d (a + 1) i).nests
      go (yes x) = let one : count (nests (fields_at d a)) ≡ 1 = rw nest in rw (in_first d a i x) (omega arith)
      go (no x) = let one : count (nests (fields_at d a)) ≡ 1 = rw nest in rw (in_second d a i (omega arith) t) (omega arith)

  pub still : (j : ℕ) → 0 < j → (k : ℕ) → a + 1 ≤ k → k ≤ end_of d a → slot_octets d k j ≡ slot_octets d (a + 1) j
  still j some =
      upward (λ k. k ≤ end_of d a → slot_octets d k j ≡ slot_octets d (a + 1) j) (a + 1) (λ z. refl)
      (λ k s rec t.
      let none = (p.keeps k (omega (arith, first_ends p b l, b.whole))).direct in
      slot_step d k j ∙ rw (ne_eqb (fields_at d k).sets j (λ e. omega (arith, none (omega arith), deep k (omega arith) (omega arith)))) (rec (omega arith)))
