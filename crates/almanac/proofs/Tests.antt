-- Which side of a test holds, tests joined, and what a test chooses. Assumes nothing.
use mathlib.Core.Path.{◌≡◌, refl}
use mathlib.Core.Logic.{◌⊎◌, inl, inr}
use mathlib.Core.Bool.{Bool, true, false, cond, ◌&&◌, false≢true}
use Prim.Native.Nat.{ℕ, ◌<◌, ◌≤◌}
use native.Mathlib.Omega.{arith}
use borrow.Author.Tests.{ltb-true, ltb-false}
use lib.Dec.{ltb}
use Rattle.meaning.proofs.Either.{tested}

pub lt_or_ge : (i j : ℕ) → (i < j) ⊎ (j ≤ i)
lt_or_ge i j = (elim (ltb i j) as (λ b. ltb i j ≡ b → (i < j) ⊎ (j ≤ i)) [ true ↦ λ e. inl (ltb-true i j e) | false ↦ λ e. inr (ltb-false i j e) ]) refl

pub both_true : (a b : Bool) → (a && b) ≡ true → (a ≡ true) × (b ≡ true)
both_true true b e = (refl, e)
both_true false b e = absurd (false≢true e)

-- four tests joined
pub all_four : (a b c d : Bool) → (a && b && c && d) ≡ true → (a ≡ true) × (b ≡ true) × (c ≡ true) × (d ≡ true)
all_four a b c d e = let p = both_true _ d e in let q = both_true _ c p.0 in let r = both_true a b q.0 in (r.0, r.1, q.1, p.1)

-- the most that a test chooses of two
pub cond_most : (b : Bool) (x y : ℕ) → y ≤ x → cond b x y ≤ x
cond_most b x y h = tested (λ n. n ≤ x) b _ _ (λ e. omega arith) (λ e. h)
