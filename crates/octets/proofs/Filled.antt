-- The octets of a number, filled in one after another: shown once, for any width and either DATA_ORDER. Assumes nothing.
use Prim.Native.Nat.{ℕ, suc, ◌+◌, ◌-◌, ◌/◌, ◌%◌, ◌<◌, ◌≤◌}
use mathlib.Core.Path.{◌≡◌, refl, ◌∙◌, ap, sym}
use mathlib.Core.List.{List, ◌++◌, reverse, append_assoc, append-nil}
use lib.ListN.{length, take, set, length-set}
use lib.Seq.{take-suc-set, take_all}
use borrow.Author.Tests.{ne_eqb}
use native.Mathlib.Omega.{arith}
use Rattle.meaning.specs.Basics.{octets_least_first, octets_in}
use Rattle.octets.specs.Octets.{Filling}

-- before the first octet
pub filled_none : (room : List ℕ) (x : ℕ) → Filling room x room x 0
unfolding octets_least_first
filled_none room x =
    let z : length room - 0 ≡ length room = omega arith in
    record { within = omega arith; long = refl; leads = rw z }

-- one octet more
pub filled_next : (room : List ℕ) (x : ℕ) (later : List ℕ) (rest i v : ℕ) → Filling room x later rest i → i < length room → v ≡ rest % 256 → Filling room x (set later i v) (rest / 256) (i + 1)
unfolding octets_least_first
filled_next room x later rest i v f h e =
    let l : i < length later = omega (arith, f.long) in
    let a : i + 1 ≡ suc i = omega arith in
    let b : length room - i ≡ suc (length room - (i + 1)) = omega arith in
    record {
      within = omega arith;
      long = length-set later i v ∙ f.long;
      leads = f.leads ∙ ap (λ (k : ℕ). take i later ++ octets_least_first k rest) b ∙ rw (a, take-suc-set later i v l, e) (sym (append_assoc (take i later) _ _));
    }

-- all of them
pub filled_all : (room : List ℕ) (x : ℕ) (later : List ℕ) (rest i : ℕ) → Filling room x later rest i → length room ≤ i → later ≡ octets_in 0 (length room) x
unfolding octets_least_first octets_in
filled_all room x later rest i f h =
    let z : length room - i ≡ 0 = omega arith in
    sym (f.leads ∙ rw z (append-nil (take i later) ∙ take_all i later (omega (arith, f.long))))

-- DATA_ORDER 0 leaves them so, and any other turns them round
pub order_least : (room later : List ℕ) (order x : ℕ) → order ≡ 0 → later ≡ octets_in 0 (length room) x → later ≡ octets_in order (length room) x
order_least room later order x e h = rw e h

pub order_most : (room least later : List ℕ) (order x : ℕ) → (order ≡ 0 → ⊥) → least ≡ octets_in 0 (length room) x → later ≡ reverse least → later ≡ octets_in order (length room) x
unfolding octets_in
order_most room least later order x n h e = rw (ne_eqb order 0 n) (e ∙ ap reverse h)
