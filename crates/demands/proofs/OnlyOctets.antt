-- A NUMBER HAS ONE WRITING in octets of a width, in either DATA_ORDER. Assumes nothing.
use Prim.Native.Nat.{ℕ, zero, suc, ◌<◌}
use mathlib.Core.Path.{◌≡◌, refl, sym, ◌∙◌, ap}
use mathlib.Core.Bool.{Bool, true, false, cond}
use mathlib.Core.List.{List, [], ◌∷◌, reverse, reverse-cons, reverse-reverse}
use lib.ListN.{length, get_or, length-reverse}
use native.Mathlib.Omega.{arith}
use Rattle.meaning.specs.Basics.{◌=?◌, least_first, most_first, number_in}
use Rattle.meaning.proofs.Octets.{most_reverse}
use Rattle.laying.specs.Every.{Every}
use Rattle.laying.proofs.Every.{every_append}
use Rattle.demands.specs.Messages.{Octets}

-- OCTETS
pub octet_at : (xs : List ℕ) → Octets xs → (i : ℕ) → get_or xs i 0 < 256
unfolding Every
octet_at [] h i = omega arith
octet_at (x ∷ xs) h zero = h.0
octet_at (x ∷ xs) h (suc i) = octet_at xs h.1 i

pub octets_at_lem : (xs : List ℕ) → ((i : ℕ) → i < length xs → get_or xs i 0 < 256) → Octets xs
unfolding Every
octets_at_lem [] h = tt
octets_at_lem (x ∷ xs) h = (h 0 (omega arith), octets_at_lem xs (λ i l. h (suc i) (omega arith)))

octets_reverse : (xs : List ℕ) → Octets xs → Octets (reverse xs)
unfolding Every
octets_reverse [] h = tt
octets_reverse (x ∷ xs) h = rw (reverse-cons x xs) (every_append (λ x. x < 256) (reverse xs) (x ∷ []) (octets_reverse xs h.1) (h.0, tt))

-- least significant octet first
least_only : (xs ys : List ℕ) → length xs ≡ length ys → Octets xs → Octets ys → least_first xs ≡ least_first ys → xs ≡ ys
unfolding least_first Every
least_only [] [] l h k e = refl
least_only [] (y ∷ ys) l h k e = absurd (omega arith)
least_only (x ∷ xs) [] l h k e = absurd (omega arith)
least_only (x ∷ xs) (y ∷ ys) l h k e =
    let first : x ≡ y = omega (arith, h.0, k.0) in
    let rest = least_only xs ys (omega arith) h.1 k.1 (omega (arith, h.0, k.0)) in
    cc

-- and most, as the same octets the other way round
most_least : (xs : List ℕ) → most_first xs ≡ least_first (reverse xs)
most_least xs = ap most_first (sym (reverse-reverse xs)) ∙ most_reverse (reverse xs)

most_only : (xs ys : List ℕ) → length xs ≡ length ys → Octets xs → Octets ys → most_first xs ≡ most_first ys → xs ≡ ys
most_only xs ys l h k e =
    let same =
    least_only (reverse xs) (reverse ys) (length-reverse xs ∙ l ∙ sym (length-reverse ys)) (octets_reverse xs h) (octets_reverse ys k)
    (sym (most_least xs) ∙ e ∙ most_least ys) in
    sym (reverse-reverse xs) ∙ ap reverse same ∙ reverse-reverse ys

pub writing_only : (order : ℕ) (xs ys : List ℕ) → length xs ≡ length ys → Octets xs → Octets ys → number_in order xs ≡ number_in order ys → xs ≡ ys
unfolding number_in
writing_only order xs ys l h k = go (order =? 0)
  where
    go : (b : Bool) → cond b (least_first xs) (most_first xs) ≡ cond b (least_first ys) (most_first ys) → xs ≡ ys
    go true = least_only xs ys l h k
    go false = most_only xs ys l h k
