-- Elements that follow one another without gaps from octet p to q all lie between p and q, those of no octets too. Assumes nothing.
use Prim.Native.Nat.{ℕ, ◌+◌, ◌≤◌}
use mathlib.Core.Path.{◌≡◌}
use mathlib.Core.List.{List, [], ◌∷◌, ◌++◌}
use native.Mathlib.Omega.{arith}
use Rattle.meaning.specs.Layout.{Placed}
use Rattle.laying.specs.Every.{Every}
use Rattle.laying.proofs.Every.{every_map}

-- an element ends by octet q
abbrev pub EndsBy : (q : ℕ) → Placed → Type 0
EndsBy q e = e.start + e.size ≤ q

-- and starts at p or after
pub record Lies (p q : ℕ) (e : Placed) : Type 0 where
  pub starts : p ≤ e.start
  pub ends : EndsBy q e

-- elements between p and q
pub record Fill (p : ℕ) (ps : List Placed) (q : ℕ) : Type 0 where
  pub order : p ≤ q
  pub lies : Every (Lies p q) ps

-- elements that follow one another without gaps, from octet p to q
pub data Consecutive : (p : ℕ) → List Placed → (q : ℕ) → Type 0 where
  no_more : {p : ℕ} → Consecutive p [] p
  next : {p : ℕ} {e : Placed} {es : List Placed} {q : ℕ} → e.start ≡ p → Consecutive (p + e.size) es q → Consecutive p (e ∷ es) q

-- up to q, and from there on
pub consecutive_append : {p q r : ℕ} {ps qs : List Placed} → Consecutive p ps q → Consecutive q qs r → Consecutive p (ps ++ qs) r
consecutive_append no_more k = k
consecutive_append (next e h) k = next e (consecutive_append h k)

-- they lie between these octets
pub consecutive_fill : {p q : ℕ} {ps : List Placed} → Consecutive p ps q → Fill p ps q
unfolding Every
consecutive_fill no_more = record { order = omega arith; lies = tt }
consecutive_fill {p} {q} (next {e = e} {es} s h) =
    let f = consecutive_fill h in
    record {
      order = omega arith;
      lies = (omega arith, every_map (Lies (p + e.size) q) (Lies p q) (λ x g. omega arith) es f.lies);
    }
