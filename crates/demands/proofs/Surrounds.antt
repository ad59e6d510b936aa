-- What stands round an item, by the items that enclose it: its levels count them, and its limit is where the innermost one's body ends. Assumes nothing.
use Prim.Native.Nat.{ℕ, zero, suc, ◌+◌, ◌<◌, ◌≤◌}
use mathlib.Core.Path.{◌≡◌, refl, sym, subst, ◌∙◌}
use mathlib.Core.List.{List}
use mathlib.Core.Bool.{Bool, true, false, true≢false}
use native.Mathlib.Decide.{dec_lt}
use native.Mathlib.Omega.{arith}
use borrow.Author.Count.{below_more}
use borrow.Author.Tests.{ltb-true, ltb-false}
use lib.Dec.{ltb}
use Rattle.meaning.specs.declared.Fields.{Fields}
use Rattle.meaning.specs.declared.Round.{Round}
use Rattle.meaning.specs.Description.{item_count, fields_at, is_table, nests, count, inside, round}
use Rattle.meaning.specs.Passed.{Exactly, end_of}
use Rattle.meaning.proofs.Either.{tested}
use Rattle.meaning.proofs.Rules.{round_none, beyond, in_first, in_second}
use Rattle.meaning.proofs.Nesting.{upward}
use Rattle.demands.specs.Rules.{Encloses, body_end, EndsInside}
use Rattle.demands.proofs.Told.{Holds, Fails, onward, below, fails_not}

-- an item stands round what it encloses, up to the end of the body that holds it
entered : (d : List ℕ) (k i : ℕ) → i < end_of d k → round d (k + 1) i ≡ inside (fields_at d k) (body_end d k i) (round d k i)
unfolding body_end
entered d k i h =
    tested (λ e. round d (k + 1) i ≡ inside (fields_at d k) e (round d k i)) (ltb i (k + 1 + (fields_at d k).first)) _ _
    (λ t. in_first d k i (ltb-true _ _ t))
    (λ t. in_second d k i (ltb-false _ _ t) h)

-- LEVELS
-- n numbers below k, each below the one before, with P of each
unfoldable pub Rising : (P : ℕ → Type 0) → (n k : ℕ) → Type 0
Rising P zero k = Unit {0}
Rising P (suc n) k = (j : ℕ) × (j < k) × P j × Rising P n j

-- they lie below all that is more
wider : (P : ℕ → Type 0) (n k m : ℕ) → k ≤ m → Rising P n k → Rising P n m
unfolding Rising
wider P zero k m l r = tt
wider P (suc n) k m l r = (r.0, omega arith, r.2, r.3)

-- a level counts the items of one sort: none at the top, and one more inside each of them
pub record Level (sort : Fields → Bool) (level : Round → ℕ) : Type 0 where
  pub none : (d : List ℕ) (i : ℕ) → level (round d 0 i) ≡ 0
  pub adds : (f : Fields) (e : ℕ) (r : Round) → level (inside f e r) ≡ count (sort f) + level r

pub tables : Level is_table (λ r. r.tables)
unfolding inside
tables = record { none = λ d i. rw round_none; adds = λ f e r. refl }

pub depth : Level nests (λ r. r.nests)
unfolding inside
depth = record { none = λ d i. rw round_none; adds = λ f e r. refl }

module _ {sort : Fields → Bool} {level : Round → ℕ} (c : Level sort level) (d : List ℕ) (i : ℕ) where
  -- item j is one that it counts round item i
  abbrev pub Around : ℕ → Type 0
  Around j = Encloses d j i × (sort (fields_at d j) ≡ true)

  -- item k is one of them and counts, or is none and doesn't
  data Next (k : ℕ) : Type 0 where
    one : Around k → level (round d (k + 1) i) ≡ 1 + level (round d k i) → Next k
    other : (Around k → ⊥) → level (round d (k + 1) i) ≡ level (round d k i) → Next k

  next : (k : ℕ) → k < i → Next k
  next k l = go (dec_lt i (end_of d k)) (sort (fields_at d k)) refl
    where
      go : Dec (i < end_of d k) → (b : Bool) → sort (fields_at d k) ≡ b → Next k
      go (yes x) true e = one ((l, x), e) (rw (entered d k i x, c.adds, e))
      go (yes x) false e = other (λ p. true≢false (sym p.1 ∙ e)) (rw (entered d k i x, c.adds, e) (omega arith))
      go (no x) b e = other (λ p. x p.0.1) (rw (beyond d k i (omega arith)))

  -- so the items before k make it at least n exactly where n of them are such
  abbrev Counts : ℕ → Type 0
  Counts k = (n : ℕ) → Exactly (n ≤ level (round d k i)) (Rising Around n k)

  counts : Counts i
  unfolding Rising
  counts = upward (λ k. k ≤ i → Counts k) 0 (λ l. start) (λ k z rec l. more k (next k (omega arith)) (rec (omega arith))) i (omega arith) (omega arith)
    where
      start : Counts 0
      start zero = (λ h. tt, λ r. omega arith)
      start (suc n) = (λ h. absurd (omega (arith, c.none d i)), λ r. absurd (omega arith))

      more : (k : ℕ) → Next k → Counts k → Counts (k + 1)
      more k x rec zero = (λ h. tt, λ r. omega arith)
      more k (one p e) rec (suc n) =
          (λ h. (k, omega arith, p, (rec n).0 (omega arith)), λ r. omega (arith, (rec n).1 (wider Around n r.0 k (omega arith) r.3)))
      more k (other p e) rec (suc n) = (
        λ h. wider Around (suc n) k (k + 1) (omega arith) ((rec (suc n)).0 (omega arith)),
        λ r.
            let not-it : r.0 ≡ k → ⊥ = λ e. p (subst Around e r.2) in
            omega (arith, (rec (suc n)).1 (r.0, omega arith, r.2, r.3)),
      )

  -- more than n
  pub over : (n : ℕ) → Holds (ltb n (level (round d i i))) (Rising Around (suc n) i)
  over n = onward (below n (level (round d i i))) (counts (suc n))

  -- what follows where there is one follows of each
  pub each : {A : Type 0} → Exactly (Rising Around 1 i → A) ((j : ℕ) → Around j → A)
  unfolding Rising
  each = (λ h j p. h (j, p.0.0, p, tt), λ h r. h r.0 r.2)

  -- none at all
  pub no_one : Fails (ltb 0 (level (round d i i))) ((j : ℕ) → Around j → ⊥)
  no_one = onward (fails_not (over 0)) each

-- THE LIMIT
-- of the items before k, the innermost that encloses item i sets it; where none does, the description's end
data Limit (d : List ℕ) (k i : ℕ) : Type 0 where
  in_body : (j : ℕ) → Encloses d j i → ((m : ℕ) → m < k → Encloses d m i → m ≤ j) → (round d k i).limit ≡ body_end d j i → Limit d k i
  at_top : ((m : ℕ) → m < k → Encloses d m i → ⊥) → (round d k i).limit ≡ item_count d → Limit d k i

limited : (d : List ℕ) (i : ℕ) → Limit d i i
unfolding inside
limited d i = upward (λ k. k ≤ i → Limit d k i) 0 (λ l. at_top (λ m h. absurd (omega arith)) (rw round_none)) more i (omega arith) (omega arith)
  where
    more : (k : ℕ) → 0 ≤ k → (k ≤ i → Limit d k i) → k + 1 ≤ i → Limit d (k + 1) i
    more k z rec l = go (dec_lt i (end_of d k)) (rec (omega arith))
      where
        go : Dec (i < end_of d k) → Limit d k i → Limit d (k + 1) i
        go (yes x) was = in_body k (omega arith, x) (λ m h e. omega arith) (rw (entered d k i x))
        go (no x) (in_body j e last s) =
            in_body j e (below_more (λ m. Encloses d m i → m ≤ j) k last (λ y. absurd (x y.1))) (rw (beyond d k i (omega arith)) s)
        go (no x) (at_top last s) = at_top (below_more (λ m. Encloses d m i → ⊥) k last (λ y. x y.1)) (rw (beyond d k i (omega arith)) s)

-- what ends by the limit ends with what encloses it
pub by_limit : (d : List ℕ) (i : ℕ) → Exactly (end_of d i ≤ (round d i i).limit) (EndsInside d i)
by_limit d i = go (limited d i)
  where
    go : Limit d i i → Exactly (end_of d i ≤ (round d i i).limit) (EndsInside d i)
    go (in_body j e last s) = (
      λ h.
          record {
            enclosed = λ k n.
                let same : j ≡ k = omega (arith, last k n.encloses.0 n.encloses, n.latest j e) in
                rw (← same) (omega arith);
            alone = λ none. absurd (none j e);
          },
      λ h. omega (arith, h.enclosed j (record { encloses = e; latest = λ k x. last k x.0 x })),
    )
    go (at_top last s) = (
      λ h. record { enclosed = λ k n. absurd (last k n.encloses.0 n.encloses); alone = λ x. omega arith },
      λ h. omega (arith, h.alone (λ j x. last j x.0 x)),
    )
