-- Of demand 2: the mark that a write looks at is that of the table named, or of the one table that the element's item stands in. Assumes nothing.
use Prim.Native.Nat.{ℕ, zero, suc, ◌+◌, ◌<◌, ◌≤◌}
use mathlib.Core.Path.{◌≡◌, refl}
use mathlib.Core.Bool.{Bool, true, false, not}
use mathlib.Core.List.{List}
use native.Mathlib.Decide.{dec_lt}
use native.Mathlib.Omega.{arith}
use Rattle.meaning.specs.Description.{item_count, fields_at, is_table, count, inside, round}
use Rattle.meaning.specs.Passed.{PassedLaws, end_of}
use Rattle.meaning.specs.Refusals.{table_around, writable}
use Rattle.meaning.proofs.Rules.{round_none, beyond, in_first, in_second}
use Rattle.meaning.proofs.Nesting.{upward}
use Rattle.laying.specs.Own.{OfItem}
use Rattle.laying.proofs.Tops.{table_one}
use Rattle.demands.specs.Demand2.{TableWritable, RoundWritable}
use Rattle.demands.proofs.Tables.{TableNamed, named_is, is_named, one_table, body_none}

-- THE TABLE ROUND AN ITEM
-- the latest TABLE before item j is the one after which no other comes
around_latest : (d : List ℕ) (t j : ℕ) → t < j → is_table (fields_at d t) ≡ true → ((i : ℕ) → t < i → i < j → is_table (fields_at d i) ≡ false)
    → table_around d j ≡ t
unfolding table_around
around_latest d t zero l is h = absurd (omega arith)
around_latest d t (suc j) l is h = go (dec_lt t j) (λ g. around_latest d t j g is (λ i a b. h i a (omega arith)))
  where
    go : Dec (t < j) → (t < j → table_around d j ≡ t) → table_around d (suc j) ≡ t
    go (yes g) rest = rw (h j g (omega arith)) (rest g)
    go (no n) rest = let e : j ≡ t = omega arith in rw (e, is)

-- a TABLE before item k, in whose body item i comes before the end
record RoundBy (d : List ℕ) (k i : ℕ) : Type 0 where
  table : ℕ
  before : table < k
  is : is_table (fields_at d table) ≡ true
  ends : i < table + 1 + (fields_at d table).first

-- where a TABLE is put round an item, there is one
round_by : (d : List ℕ) (i k : ℕ) → 1 ≤ (round d k i).tables → RoundBy d k i
unfolding inside
round_by d i k =
    upward (λ k. 1 ≤ (round d k i).tables → RoundBy d k i) 0 (λ h. absurd (omega (arith, rw (round_none d i) at h))) more k (omega arith)
  where
    more : (k : ℕ) → 0 ≤ k → (1 ≤ (round d k i).tables → RoundBy d k i) → 1 ≤ (round d (k + 1) i).tables → RoundBy d (k + 1) i
    more k z rec h = go (is_table (fields_at d k)) refl (dec_lt i (k + 1 + (fields_at d k).first)) (dec_lt i (end_of d k))
      where
        earlier : 1 ≤ (round d k i).tables → RoundBy d (k + 1) i
        earlier g = let r = rec g in record { table = r.table; before = omega (arith, r.before); is = r.is; ends = r.ends }

        go : (b : Bool) → is_table (fields_at d k) ≡ b → Dec (i < k + 1 + (fields_at d k).first) → Dec (i < end_of d k) → RoundBy d (k + 1) i
        go true t (yes f) g = record { table = k; before = omega arith; is = t; ends = f }
        go true t (no n) (yes g) = absurd (omega (arith, table_one d k t))
        go false t (yes f) g = earlier (omega (arith, rw (in_first d k i f, t) at h))
        go false t (no n) (yes g) = earlier (omega (arith, rw (in_second d k i (omega arith) g, t) at h))
        go b t (no n) (no m) = earlier (rw (beyond d k i (omega arith)) at h)

-- OF A PASSED DESCRIPTION
module _ {d : List ℕ} (p : PassedLaws d) (img : List ℕ) where
  -- the table in whose body an item stands is the latest TABLE before it
  around_body : (t j : ℕ) → is_table (fields_at d t) ≡ true → t < j → j < t + 1 + (fields_at d t).first → j < item_count d → table_around d j ≡ t
  around_body t j is a b l = around_latest d t j a is (λ i f g. body_none p t i is f (omega arith) (omega arith))

  -- the table that an element's item stands in is writable exactly where the latest TABLE before the item is
  pub round_writable : {j k n : ℕ} → OfItem d j k n → RoundWritable d img j → writable d img (table_around d j) ≡ true
  round_writable {j} h r = rw (around_body r.item j r.is r.round.0 r.round.1 h.there) r.marked

  -- and the other way round
  pub writable_round : {j k n : ℕ} → OfItem d j k n → writable d img (table_around d j) ≡ true → RoundWritable d img j
  writable_round {j} h w =
      let one : count (not (is_table (fields_at d j))) ≡ 1 = rw h.inner in
      let r = round_by d j j (omega (arith, p.tables j h.there)) in
      record {
        item = r.table;
        is = r.is;
        round = (r.before, r.ends);
        marked = rw (around_body r.table j r.is r.before r.ends h.there) at w;
      }

  -- the table of that name is writable exactly where the TABLE found is
  pub named_writable : {m k i : ℕ} → TableNamed d m k i → TableWritable d img m k → writable d img i ≡ true
  named_writable {m} {k} h w =
      let same = one_table p (named_is w.there w.is) h in
      rw same at w.marked

  -- and the other way round
  pub writable_named : {m k i : ℕ} → TableNamed d m k i → writable d img i ≡ true → TableWritable d img m k
  writable_named {i = i} h w =
      record { item = i; there = h.there; is = is_named h; marked = w }
