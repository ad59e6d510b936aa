-- What looking for an octet leans on: `position` of the library answers how many octets stand before the first of it. Assumes nothing.
use mathlib.Core.Path.{◌≡◌, refl, ap}
use mathlib.Core.List.{List, [], ◌∷◌}
use mathlib.Core.Bool.{cond}
use Prim.Native.Nat.{ℕ, ◌≤◌, zero-le, suc-le-suc}
use native.Mathlib.Omega.{arith}
use borrow.Author.Tests.{lt-ltb, le-ltb}
use lib.Dec.{eqb}
use lib.ListN.{length}
use Rattle.std.specs.Prelude.{Some, None}
use Rattle.std.specs.List.{position, position_or_len}
use Rattle.std.proofs.lemmas.List.Recursion.{is_position_or_len}
use Rattle.words.specs.Find.{first_of}
use Rattle.words.proofs.Cases.{by_test, by_less}

first_is : (b : ℕ) (xs : List ℕ) → first_of b xs ≡ position_or_len (λ x. eqb x b) xs
unfolding first_of
first_is b = is_position_or_len (first_of b) (λ x. eqb x b) refl (λ x xs. ap (cond (eqb x b) 0) (omega arith))

first_within : (b : ℕ) (xs : List ℕ) → first_of b xs ≤ length xs
unfolding first_of
first_within b [] = zero-le
first_within b (x ∷ xs) = by_test (eqb x b) (λ e. rw e zero-le) (λ e. rw e (suc-le-suc (first_within b xs)))

pub found : (b : ℕ) (xs : List ℕ) (i : ℕ) → Some i ≡ position (λ x. eqb x b) xs → i ≡ first_of b xs
found b xs i e =
    by_less (first_of b xs) (length xs)
    (λ h. cc (rw (← first_is b xs, lt-ltb _ _ h) at e))
    (λ h. absurd (cc (rw (← first_is b xs, le-ltb _ _ h) at e)))

pub not_found : (b : ℕ) (xs : List ℕ) → None ≡ position (λ x. eqb x b) xs → length xs ≡ first_of b xs
not_found b xs e =
    by_less (first_of b xs) (length xs)
    (λ h. absurd (cc (rw (← first_is b xs, lt-ltb _ _ h) at e)))
    (λ h. omega (arith, first_within b xs))
