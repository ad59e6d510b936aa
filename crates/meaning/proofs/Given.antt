-- What earlier items gave: a slot that one sets has octets from there on, and a slot with octets is set by one; likewise a TABLE that is given.
-- Assumes nothing.
use Prim.Native.Nat.{ℕ, ◌+◌, ◌*◌, ◌<◌, ◌≤◌}
use mathlib.Core.Path.{◌≡◌, refl, sym}
use mathlib.Core.Logic.{◌⊎◌, inl, inr}
use mathlib.Core.List.{List}
use mathlib.Core.Bool.{Bool, true, false, cond, ◌&&◌, or-true, and-eq-true_iff}
use native.Mathlib.Omega.{arith}
use borrow.Author.Tests.{eq-eqb, eqb-true, eqb-false}
use lib.Dec.{eqb}
use Rattle.meaning.specs.declared.Fields.{Fields}
use Rattle.meaning.specs.Basics.{◌=?◌}
use Rattle.meaning.specs.Description.{fields_at, is_table, is_table_named, slot_octets, table_given}
use Rattle.meaning.specs.Passed.{SetEarlier}
use Rattle.meaning.proofs.Rules.{slot_none, slot_step, given_step}
use Rattle.meaning.proofs.Ranges.{fields_range}
use Rattle.meaning.proofs.Nesting.{upward}

-- SLOTS
module _ (d : List ℕ) where
  -- a slot that an item sets has octets after that item
  pub slot_given : (j s : ℕ) → (fields_at d j).sets ≡ s → 0 < s → (k : ℕ) → j + 1 ≤ k → 0 < slot_octets d k s
  slot_given j s e p = upward (λ k. 0 < slot_octets d k s) (j + 1) (more j (inl e)) (λ k l h. more k (inr h))
    where
      more : (k : ℕ) → ((fields_at d k).sets ≡ s) ⊎ (0 < slot_octets d k s) → 0 < slot_octets d (k + 1) s
      more k h = rw (slot_step d k s) (go (eqb (fields_at d k).sets s) refl h)
        where
          go : (b : Bool) → eqb (fields_at d k).sets s ≡ b → ((fields_at d k).sets ≡ s) ⊎ (0 < slot_octets d k s)
              → 0 < cond b (fields_at d k).octets (slot_octets d k s)
          go true e h = (fields_range d k).some_octets (omega (arith, eqb-true (fields_at d k).sets s e))
          go false e (inl h) = absurd (eqb-false _ _ e h)
          go false e (inr h) = h

  -- bits that lie inside a slot's octets lie inside an earlier item that sets it
  pub setter : (s b k : ℕ) → 0 < b → b ≤ 8 * slot_octets d k s → SetEarlier d k s b
  setter s b k p = upward (λ k. b ≤ 8 * slot_octets d k s → SetEarlier d k s b) 0 (λ h. absurd (omega (arith, slot_none d s))) more k (omega arith)
    where
      more : (k : ℕ) → 0 ≤ k → (b ≤ 8 * slot_octets d k s → SetEarlier d k s b) → b ≤ 8 * slot_octets d (k + 1) s → SetEarlier d (k + 1) s b
      more k z rec h = go (eqb (fields_at d k).sets s) refl (rw (slot_step d k s) at h)
        where
          go : (t : Bool) → eqb (fields_at d k).sets s ≡ t → b ≤ 8 * cond t (fields_at d k).octets (slot_octets d k s) → SetEarlier d (k + 1) s b
          go true e h = record { dimension = k; earlier = omega arith; sets = eqb-true _ _ e; inside = h }
          go false e h =
              let r = rec h in
              record { dimension = r.dimension; earlier = omega arith; sets = r.sets; inside = r.inside }

-- TABLES
-- a TABLE that is an item is given after that item
pub table_given_lem : (d : List ℕ) (j m n : ℕ) → is_table_named (fields_at d j) m n ≡ true → (k : ℕ) → j + 1 ≤ k → table_given d k m n ≡ true
table_given_lem d j m n e =
    upward (λ k. table_given d k m n ≡ true) (j + 1)
    (rw (given_step d j m n, e))
    (λ k l h. rw (given_step d k m n, h) (or-true (is_table_named (fields_at d k) m n)))

-- where g is the TABLE that f is, f is the TABLE that g is
pub named_swap : (f g : Fields) → is_table f ≡ true → is_table_named g f.manufacturer f.number ≡ true
    → (is_table g ≡ true) × (is_table_named f g.manufacturer g.number ≡ true)
named_swap f g t e =
    let a = (and-eq-true_iff (is_table g && g.manufacturer =? f.manufacturer) (g.number =? f.number)).0 e in
    let b = (and-eq-true_iff (is_table g) (g.manufacturer =? f.manufacturer)).0 a.0 in
    (b.0, rw (t, eq-eqb f.manufacturer _ (sym (eqb-true _ _ b.1)), eq-eqb f.number _ (sym (eqb-true _ _ a.1))))
