-- What tests tell: a test holds, or fails, exactly where a fact is so. One law for each way in which tests are joined. Assumes nothing.
use Prim.Native.Nat.{ℕ, ◌<◌, ◌≤◌}
use mathlib.Core.Path.{◌≡◌, refl}
use mathlib.Core.Bool.{Bool, true, false, not, cond, ◌&&◌, ◌||◌, true≢false, false≢true}
use native.Mathlib.Omega.{arith}
use borrow.Author.Tests.{ltb-true, ltb-false, leb-true, eqb-true, lt-ltb, le-ltb, le-leb, eq-eqb}
use lib.Dec.{eqb, leb, ltb}
use Rattle.meaning.specs.Passed.{Exactly}
use Rattle.almanac.proofs.Choices.{put}

abbrev pub Holds : Bool → Type 0 → Type 0
Holds b A = Exactly (b ≡ true) A

abbrev pub Fails : Bool → Type 0 → Type 0
Fails b A = Exactly (b ≡ false) A

-- one exactly where another, and that exactly where a third
pub onward : {A B C : Type 0} → Exactly A B → Exactly B C → Exactly A C
onward e f = put e f.0 f.1

-- TESTS
pub itself : {A : Type 0} → Exactly A A
itself = (λ x. x, λ x. x)

pub below : (m n : ℕ) → Holds (ltb m n) (m < n)
below m n = (ltb-true m n, lt-ltb m n)

pub upto : (m n : ℕ) → Holds (leb m n) (m ≤ n)
upto m n = (leb-true m n, le-leb m n)

pub equal : (m n : ℕ) → Holds (eqb m n) (m ≡ n)
equal m n = (eqb-true m n, eq-eqb m n)

pub at_most : (m n : ℕ) → Fails (ltb m n) (n ≤ m)
at_most m n = (ltb-false m n, le-ltb m n)

-- A TEST THE OTHER WAY ROUND
pub denied : {a : Bool} {A : Type 0} → Holds a A → Fails (not a) A
denied {a = true} h = (λ e. h.0 refl, λ x. refl)
denied {a = false} h = (λ e. absurd (true≢false e), λ x. absurd (false≢true (h.1 x)))

pub fails_not : {a : Bool} {A : Type 0} → Holds a A → Fails a (A → ⊥)
fails_not {a = true} h = (λ e. absurd (true≢false e), λ n. absurd (n (h.0 refl)))
fails_not {a = false} h = (λ e x. false≢true (h.1 x), λ n. refl)

pub holds_not : {a : Bool} {A : Type 0} → Fails a A → Holds a (A → ⊥)
holds_not {a = true} h = (λ e x. true≢false (h.1 x), λ n. refl)
holds_not {a = false} h = (λ e. absurd (false≢true e), λ n. absurd (n (h.0 refl)))

-- that a number is 0 says what fails where it is more
pub nothing : (n : ℕ) {A : Type 0} → Fails (ltb 0 n) A → Holds (eqb n 0) A
nothing n h = (λ e. h.0 (le-ltb 0 n (omega (arith, eqb-true n 0 e))), λ x. eq-eqb n 0 (omega (arith, ltb-false 0 n (h.1 x))))

-- TESTS JOINED
pub both : {a b : Bool} {A B : Type 0} → Holds a A → Holds b B → Holds (a && b) (A × B)
both {a = true} h k = (λ e. (h.0 refl, k.0 e), λ p. k.1 p.1)
both {a = false} h k = (λ e. absurd (false≢true e), λ p. h.1 p.0)

pub neither : {a b : Bool} {A B : Type 0} → Fails a A → Fails b B → Fails (a || b) (A × B)
neither {a = true} h k = (λ e. absurd (true≢false e), λ p. h.1 p.0)
neither {a = false} h k = (λ e. (h.0 refl, k.0 e), λ p. k.1 p.1)

-- a second test that matters only where the first holds
pub given : {a b : Bool} {A B : Type 0} → Holds a A → (A → Fails b B) → Fails (a && b) (A → B)
given {a = true} h k =
    let x = h.0 refl in
    (λ e y. (k x).0 e, λ f. (k x).1 (f x))
given {a = false} h k = (λ e x. absurd (false≢true (h.1 x)), λ f. refl)

-- a test chosen by another
pub chosen : (t : Bool) {a b : Bool} {A B : Type 0} → Fails a A → Fails b B → Fails (cond t a b) (cond t A B)
chosen true h k = h
chosen false h k = k
