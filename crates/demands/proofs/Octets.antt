-- Of demand 2: the octets of a number are octets, each below 256, of any width and in either DATA_ORDER. Assumes nothing.
use Rattle.std.specs.Prelude.{if◌then◌else◌}
use Prim.Native.Nat.{ℕ, zero, suc, ◌/◌, ◌<◌}
use mathlib.Core.Bool.{Bool, true, false}
use mathlib.Core.List.{List, [], ◌∷◌, reverse, reverse-cons}
use lib.ListN.{get_or}
use native.Mathlib.Omega.{arith}
use Rattle.meaning.specs.Basics.{◌=?◌, octets_least_first, octets_in}
use Rattle.laying.specs.Every.{Every}
use Rattle.laying.proofs.Every.{every_append}

abbrev Octet : ℕ → Type 0
Octet x = x < 256

-- in the other order too
every_reverse : {A : Type 0} (P : A → Type 0) (xs : List A) → Every P xs → Every P (reverse xs)
unfolding Every
every_reverse P [] h = tt
every_reverse P (x ∷ xs) h = rw (reverse-cons x xs) (every_append P (reverse xs) (x ∷ []) (every_reverse P xs h.1) (h.0, tt))

least_octets : (n x : ℕ) → Every Octet (octets_least_first n x)
unfolding Every octets_least_first
least_octets zero x = tt
least_octets (suc n) x = (omega arith, least_octets n (x / 256))

all_octets : (order n x : ℕ) → Every Octet (octets_in order n x)
unfolding octets_in
all_octets order n x = go (order =? 0)
  where
    go : (b : Bool) → Every Octet (if b then octets_least_first n x else reverse (octets_least_first n x))
    go true = least_octets n x
    go false = every_reverse Octet (octets_least_first n x) (least_octets n x)

-- at any place, 0 past the end
octet_at : (xs : List ℕ) → Every Octet xs → (i : ℕ) → get_or xs i 0 < 256
unfolding Every
octet_at [] h i = omega arith
octet_at (x ∷ xs) h zero = h.0
octet_at (x ∷ xs) h (suc i) = octet_at xs h.1 i

pub octets_below : (order n x i : ℕ) → get_or (octets_in order n x) i 0 < 256
octets_below order n x = octet_at (octets_in order n x) (all_octets order n x)
