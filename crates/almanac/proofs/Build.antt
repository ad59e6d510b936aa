-- A list built of what f gives for 0, 1, ..: its length, its elements, and a list that a loop fills from index 0 on. Assumes nothing.
use mathlib.Core.Path.{◌≡◌, refl, sym, ap, ap₂, ◌∙◌}
use mathlib.Core.List.{List, ◌∷◌}
use mathlib.Core.Logic.{⊎_elim}
use Prim.Native.Nat.{ℕ, zero, suc, ◌+◌, ◌<◌, ◌≤◌}
use native.Mathlib.Nat.{le_of_suc-le-suc, not-suc-le-zero, ne_of_lt, ne_of_gt}
use native.Mathlib.Omega.{arith}
use borrow.Author.Count.{below_none, below_more}
use lib.ListN.{length, get_or, set, replicate, length-set, length-replicate, get_or-replicate}
use lib.Seq.{get_or-set_same, get_or-set_other, ext_get_or}
use Rattle.meaning.specs.Basics.{build}
use Rattle.almanac.proofs.Tests.{lt_or_ge}

module _ {A : Type 0} where
  pub build_long : (n : ℕ) (f : ℕ → A) → length (build n f) ≡ n
  unfolding build
  build_long zero f = refl
  build_long (suc n) f = ap suc (build_long n (λ (i : ℕ). f (suc i)))

  pub build_at : (n : ℕ) (f : ℕ → A) (k : ℕ) (d : A) → k < n → get_or (build n f) k d ≡ f k
  unfolding build
  build_at zero f k d h = absurd (not-suc-le-zero h)
  build_at (suc n) f zero d h = refl
  build_at (suc n) f (suc k) d h = build_at n (λ (i : ℕ). f (suc i)) k d (le_of_suc-le-suc h)

  pub build_same : (n : ℕ) (f g : ℕ → A) → ((k : ℕ) → f k ≡ g k) → build n f ≡ build n g
  unfolding build
  build_same zero f g e = refl
  build_same (suc n) f g e = ap₂ (λ (x : A) (xs : List A). x ∷ xs) (e zero) (build_same n (λ (i : ℕ). f (suc i)) (λ (i : ℕ). g (suc i)) (λ k. e (suc k)))

  -- n elements, of which those below j are what f gives; the others still hold z. d stands for what lies past the end
  pub record Filled (d z : A) (n : ℕ) (f : ℕ → A) (xs : List A) (j : ℕ) : Type 0 where
    pub long : length xs ≡ n
    pub done : (k : ℕ) → k < j → get_or xs k d ≡ f k
    pub rest : (k : ℕ) → j ≤ k → k < n → get_or xs k d ≡ z

  pub fill_start : (d z : A) (n : ℕ) (f : ℕ → A) → Filled d z n f (replicate n z) 0
  fill_start d z n f =
      record {
        long = length-replicate n z;
        done = below_none (λ (k : ℕ). get_or (replicate n z) k d ≡ f k);
        rest = λ k h l. get_or-replicate n k z d l;
      }

  pub fill_step : {d z : A} {n : ℕ} {f : ℕ → A} {xs : List A} {j : ℕ} (v : A) → Filled d z n f xs j → j < n → v ≡ f j
      → Filled d z n f (set xs j v) (j + 1)
  fill_step {d} {z} {n} {f} {xs} {j} v F h e =
      record {
        long = length-set xs j v ∙ F.long;
        done =
            below_more (λ (k : ℕ). get_or (set xs j v) k d ≡ f k) j
            (λ k l. get_or-set_other xs j k v d (ne_of_lt l) ∙ F.done k l)
            (get_or-set_same xs j v d (omega (arith, F.long)) ∙ e);
        rest = λ k l m. get_or-set_other xs j k v d (ne_of_gt (omega arith)) ∙ F.rest k (omega arith) m;
      }

  -- where f gives z from j on, the list is built
  pub fill_end : {d z : A} {n : ℕ} {f : ℕ → A} {xs : List A} {j : ℕ} → Filled d z n f xs j → ((k : ℕ) → j ≤ k → k < n → z ≡ f k) → xs ≡ build n f
  fill_end {d} {z} {n} {f} {xs} {j} F g =
      ext_get_or d xs (build n f) (F.long ∙ sym (build_long n f))
      (λ i h.
      let m : i < n = omega (arith, F.long) in
      ⊎_elim (λ l. F.done i l) (λ l. F.rest i l m ∙ g i l m) (lt_or_ge i j) ∙ sym (build_at n f i d m))
