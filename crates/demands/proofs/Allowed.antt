-- Of demand 2: octets may be written, by what a write looks at, exactly where the table is marked writable and no dimension is found among them. Assumes nothing.
use Rattle.std.specs.Prelude.{if◌then◌else◌, Err}
use Prim.Native.Nat.{ℕ}
use mathlib.Core.Path.{◌≡◌, refl}
use mathlib.Core.Bool.{Bool, true, false, not}
use mathlib.Core.List.{List}
use Rattle.meaning.specs.declared.Refusal.{Refusal}
use Rattle.meaning.specs.Layout.{Placed}
use Rattle.meaning.specs.Refusals.{place_verdict, writable, any_dimension, allowed}
use Rattle.meaning.specs.Numbers.{not_writable, holds_dimension}
use Rattle.demands.specs.Replies.{octets_at}
use Rattle.meaning.proofs.Either.{clash}
use Rattle.meaning.specs.Values.{passed}

-- a refusal isn't passed
pub refused_not : (r : Refusal) → place_verdict (Err r) ≡ passed → ⊥
unfolding place_verdict
refused_not r e = clash (cc)

-- the table is marked writable, and no dimension is found
pub record Open (d img : List ℕ) (es : List Placed) (t p n : ℕ) : Type 0 where
  pub marked : writable d img t ≡ true
  pub free : any_dimension es p n ≡ false

module _ (d img : List ℕ) (es : List Placed) (t p n : ℕ) where
  -- there the octets may be written
  pub allowed_is : Open d img es t p n → allowed d img es t p n ≡ octets_at p n
  unfolding allowed
  allowed_is h = rw (h.marked, h.free)

  -- and nowhere else
  pub allowed_only : place_verdict (allowed d img es t p n) ≡ passed → Open d img es t p n
  unfolding allowed
  allowed_only = go (writable d img t) (any_dimension es p n) refl refl
    where
      go : (a b : Bool) → writable d img t ≡ a → any_dimension es p n ≡ b
          → place_verdict (if not a then Err not_writable else if b then Err holds_dimension else octets_at p n) ≡ passed
          → Open d img es t p n
      go true false e f h = record { marked = e; free = f }
      go true true e f h = absurd (refused_not _ h)
      go false b e f h = absurd (refused_not _ h)
