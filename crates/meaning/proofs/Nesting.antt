-- How the items stand in one another where each keeps the rules: bodies nest, what stands round an item stands round all that is in it, and nothing stands
-- deeper than a TABLE and four levels in it. Assumes nothing.
use Prim.Native.Nat.{ℕ, ◌+◌, ◌*◌, ◌<◌, ◌≤◌}
use mathlib.Core.Path.{◌≡◌, refl, sym, ap, ◌∙◌}
use mathlib.Core.List.{List}
use mathlib.Core.Bool.{Bool, true, false, true≢false, false≢true}
use native.Mathlib.Decide.{dec_lt, le_ind}
use native.Mathlib.Numerals.{add-one}
use native.Mathlib.Omega.{arith}
use Rattle.meaning.specs.Description.{item_count, fields_at, is_table, nests, count, inside, round}
use Rattle.meaning.specs.Passed.{Keeps, Levels, BodiesNest, end_of}
use Rattle.meaning.proofs.Ranges.{fields_range}
use Rattle.meaning.proofs.Rules.{round_none, beyond, in_first, in_second}

-- what holds at some number, and at each next one, holds from there on
pub upward : (P : ℕ → Type 0) (from : ℕ) → P from → ((k : ℕ) → from ≤ k → P k → P (k + 1)) → (k : ℕ) → from ≤ k → P k
upward P from base step k h = le_ind P base (λ m l p. rw add-one at (step m l p)) k h

-- where a later item i stands to the bodies of item k
data Stands (d : List ℕ) (k i : ℕ) : Type 0 where
  past : end_of d k ≤ i → Stands d k i
  in_one : i < k + 1 + (fields_at d k).first → Stands d k i
  in_two : k + 1 + (fields_at d k).first ≤ i → i < end_of d k → Stands d k i

stands : (d : List ℕ) (k i : ℕ) → Stands d k i
stands d k i = go (dec_lt i (k + 1 + (fields_at d k).first)) (dec_lt i (end_of d k))
  where
    go : Dec (i < k + 1 + (fields_at d k).first) → Dec (i < end_of d k) → Stands d k i
    go (yes p) q = in_one p
    go (no n) (yes q) = in_two (omega arith) q
    go (no n) (no m) = past (omega arith)

-- a TABLE, ARRAY or IF that may stand where it does adds a level that may be there
pub one_more : (t a : Bool) (tables deep : ℕ) → count t + count a ≡ 1 → (tables ≡ 0 → t ≡ true) → (0 < tables → t ≡ false) → (a ≡ true → deep ≤ 3)
    → tables ≤ 1 → deep ≤ 4 * tables → (count t + tables ≤ 1) × (count a + deep ≤ 4 * (count t + tables))
one_more true true n m h top within shallow p q = absurd (omega arith)
one_more true false n m h top within shallow p q =
    let z : 0 < n → ⊥ = λ l. true≢false (within l) in
    omega arith
one_more false true n m h top within shallow p q =
    let z : n ≡ 0 → ⊥ = λ e. false≢true (top e) in
    let s : m ≤ 3 = shallow refl in
    omega arith
one_more false false n m h top within shallow p q = absurd (omega arith)

module _ (d : List ℕ) (kept : (i : ℕ) → i < item_count d → Keeps d (fields_at d i) i (round d i i)) where
  -- BODIES NEST. A body of items a up to e, which the items before `from` put round its items; items from there up to a end by a
  module _ (from a e : ℕ) (starts : (i : ℕ) → a ≤ i → i < e → (round d from i).limit ≤ e) (before : (k : ℕ) → from ≤ k → k < item_count d → k < a → end_of d k ≤ a) where
    -- what the items before k put round an item of that body ends inside it
    Ends : ℕ → Type 0
    Ends k = (i : ℕ) → k ≤ i → i < item_count d → a ≤ i → i < e → (round d k i).limit ≤ e

    -- and so does item k, if it has bodies round an item of that body: it starts there, or would have ended
    inner : (k : ℕ) → from ≤ k → Ends k → (i : ℕ) → k < i → i < item_count d → a ≤ i → i < e → i < end_of d k → end_of d k ≤ e
    unfolding Ends
    inner k f h i l n p q b = go (dec_lt k a)
      where
        go : Dec (k < a) → end_of d k ≤ e
        go (yes y) = let z : end_of d k ≤ a = before k f (omega arith) y in absurd (omega arith)
        go (no y) = omega (arith, (kept k (omega arith)).fits, h k (omega arith) (omega arith) (omega arith) (omega arith))

    more : (k : ℕ) → from ≤ k → Ends k → Ends (k + 1)
    unfolding Ends inside
    more k f h i l n p q = go (stands d k i)
      where
        go : Stands d k i → (round d (k + 1) i).limit ≤ e
        go (past b) = rw (beyond d k i b) (h i (omega arith) n p q)
        go (in_one b) = rw (in_first d k i b) (omega (arith, inner k f h i (omega arith) n p q (omega arith)))
        go (in_two b c) = rw (in_second d k i b c) (inner k f h i (omega arith) n p q c)

    -- so what starts in it ends in it
    nested : (i : ℕ) → from ≤ i → i < item_count d → a ≤ i → i < e → end_of d i ≤ e
    unfolding Ends
    nested i f n p q =
        let h = upward Ends from (λ i l n p q. starts i p q) more i f i in
        omega (arith, (kept i n).fits, h (omega arith) n p q)

  -- the description, an item's first body and its second are such bodies
  pub bodies_nest : BodiesNest d
  unfolding inside
  bodies_nest = record { whole = all; first = one; second = two }
    where
      all : (i : ℕ) → i < item_count d → end_of d i ≤ item_count d
      all i n = nested 0 0 (item_count d) (λ i p q. rw round_none (omega arith)) (λ k f n l. absurd (omega arith)) i (omega arith) n (omega arith) n

      one : (j i : ℕ) → i < item_count d → j < i → i < j + 1 + (fields_at d j).first → end_of d i ≤ j + 1 + (fields_at d j).first
      one j i n p q =
          nested (j + 1) (j + 1) (j + 1 + (fields_at d j).first)
          (λ i p q. rw (in_first d j i q) (omega arith))
          (λ k f n l. absurd (omega arith))
          i (omega arith) n (omega arith) q

      two : (j i : ℕ) → i < item_count d → j + 1 + (fields_at d j).first ≤ i → i < end_of d j → end_of d i ≤ end_of d j
      two j i n p q =
          nested (j + 1) (j + 1 + (fields_at d j).first) (end_of d j)
          (λ i p q. rw (in_second d j i p q) (omega arith))
          (λ k f n l. one j k n (omega arith) l)
          i (omega arith) n p q

  -- WHAT STANDS ROUND AN ITEM stands round all that is nested in it
  pub shared : (k i : ℕ) → k < item_count d → k < i → i < end_of d k → round d k i ≡ round d k k
  shared k i n l b = upward (λ m. m ≤ k → round d m i ≡ round d m k) 0 (λ h. round_none d i ∙ sym (round_none d k)) more k (omega arith) (omega arith)
    where
      more : (m : ℕ) → 0 ≤ m → (m ≤ k → round d m i ≡ round d m k) → m + 1 ≤ k → round d (m + 1) i ≡ round d (m + 1) k
      more m z h p = go (stands d m k)
        where
          go : Stands d m k → round d (m + 1) i ≡ round d (m + 1) k
          go (past e) = beyond d m i (omega arith) ∙ h (omega arith) ∙ sym (beyond d m k e)
          go (in_one e) =
              in_first d m i (omega (arith, bodies_nest.first m k n (omega arith) e)) ∙ ap (inside (fields_at d m) _) (h (omega arith)) ∙ sym (in_first d m k e)
          go (in_two e f) =
              in_second d m i (omega arith) (omega (arith, bodies_nest.second m k n e f)) ∙ ap (inside (fields_at d m) _) (h (omega arith)) ∙ sym (in_second d m k e f)

  -- DEPTH. An item that keeps the rules stands round what is in it with one level more
  enclosed : (k i e : ℕ) → k < i → i < item_count d → i < end_of d k → round d (k + 1) i ≡ inside (fields_at d k) e (round d k i) → Levels (round d k k)
      → Levels (round d (k + 1) i)
  unfolding inside
  enclosed k i e l n b s h =
      let c = kept k (omega arith) in
      let m = one_more (is_table (fields_at d k)) (nests (fields_at d k)) _ _ ((fields_range d k).encloses (omega arith)) c.top c.within c.shallow h.one h.four in
      rw (s, shared k i (omega arith) l b) (record { one = m.0; four = m.1 })

  -- nothing stands deeper than a TABLE and four levels in it
  pub levels : (k i : ℕ) → k ≤ i → i < item_count d → Levels (round d k i)
  levels k = upward (λ k. (i : ℕ) → k ≤ i → i < item_count d → Levels (round d k i)) 0 (λ i l n. rw round_none (omega arith)) more k (omega arith)
    where
      more : (k : ℕ) → 0 ≤ k → ((i : ℕ) → k ≤ i → i < item_count d → Levels (round d k i)) → (i : ℕ) → k + 1 ≤ i → i < item_count d → Levels (round d (k + 1) i)
      more k z h i l n = go (stands d k i)
        where
          deeper : (e : ℕ) → i < end_of d k → round d (k + 1) i ≡ inside (fields_at d k) e (round d k i) → Levels (round d (k + 1) i)
          deeper e b s = enclosed k i e (omega arith) n b s (h k (omega arith) (omega arith))

          go : Stands d k i → Levels (round d (k + 1) i)
          go (past b) = rw (beyond d k i b) (h i (omega arith) n)
          go (in_one b) = deeper _ (omega arith) (in_first d k i b)
          go (in_two b c) = deeper _ c (in_second d k i b c)
