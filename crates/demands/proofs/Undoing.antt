-- READING AND WRITING, each undoing the other, in any family that reads by forms and writes them; and what is written is decided. One law for requests and replies. Assumes nothing.
use Prim.Native.Nat.{ℕ, ◌≤◌}
use mathlib.Core.Path.{◌≡◌, sym, ◌∙◌}
use mathlib.Core.Logic.{inl, inr}
use mathlib.Core.List.{List}
use lib.ListN.{length, take}
use native.Mathlib.Omega.{arith}
use Rattle.meaning.specs.Basics.{part}
use Rattle.meaning.specs.Passed.{Exactly}
use Rattle.meaning.proofs.Either.{clash}
use Rattle.demands.specs.Messages.{Octets, Written, fits, does_not, EachUndoes}
use Rattle.demands.proofs.Forms.{Kind}
use Rattle.demands.proofs.OnlyWrites.{later_same}
use Rattle.std.specs.Prelude.{Ok}
use Rattle.meaning.specs.Values.{Reply}
use Rattle.meaning.specs.declared.Answer.{Answer}

module _ {A : Type 0} (Form : List ℕ → A → Type 0) (Fits : A → Type 0) (long : A → ℕ) (new : A → List ℕ) (kind : Kind Form Fits long new) where
  abbrev Writes : A → (room : List ℕ) → Reply → (later : List ℕ) → Type 0
  Writes a = Written (Fits a) (λ xs. Form xs a) (long a) (new a)

  module _ (Reads : List ℕ → A → Type 0) (reads : (xs : List ℕ) (a : A) → Exactly (Reads xs a) (Form xs a))
      (write : A → List ℕ → Reply) (after : A → List ℕ → List ℕ) (writes : (a : A) (room : List ℕ) → Writes a room (write a room) (after a room)) where
    pub undoes : EachUndoes Form Reads write after
    undoes = record { back = λ a room n e. back a room n e (writes a room); again = λ xs a room are r l. again xs a room are ((reads xs a).0 r) l (writes a room); one = kind.one }
      where
        back : (a : A) (room : List ℕ) (n : ℕ) → write a room ≡ Ok (Answer.Total n) → Writes a room (write a room) (after a room) → Reads (take n (after a room)) a
        back a room n e (fits ok l s) = let same : long a ≡ n = cc s.total in (reads _ a).1 (rw (← same) s.form)
        back a room n e (does_not f s) = clash (cc s.refused)

        again : (xs : List ℕ) (a : A) (room : List ℕ) → Octets xs → Form xs a → length xs ≤ length room → Writes a room (write a room) (after a room)
            → (write a room ≡ Ok (Answer.Total (length xs))) × (take (length xs) (after a room) ≡ xs)
        again xs a room are form l (fits ok m s) =
            let e = kind.as_long_lem xs a form in
            (rw e s.total, rw e (kind.same _ xs (s.octets (kind.octets xs are a form)) are a s.form form))
        again xs a room are form l (does_not (inl f) s) = absurd (f (kind.fitting xs are a form))
        again xs a room are form l (does_not (inr f) s) = let e = kind.as_long_lem xs a form in absurd (omega arith)

  -- what is written is decided: the reply; and the room, where data are octets
  pub written_same : (a : A) (F : Type 0) (room : List ℕ) {x y : Reply} {later other : List ℕ} → Written F (λ xs. Form xs a) (long a) (new a) room x later
      → Written F (λ xs. Form xs a) (long a) (new a) room y other → (x ≡ y) × (Octets (new a) → later ≡ other)
  unfolding part
  written_same a F room {later = later} {other = other} (fits f l s) (fits g m t) =
      (s.total ∙ sym t.total, λ h. later_same room later other 0 (long a) s.others t.others (kind.same _ _ (s.octets h) (t.octets h) a s.form t.form))
  written_same a F room (does_not f s) (does_not g t) = (s.refused ∙ sym t.refused, λ h. s.unchanged ∙ sym t.unchanged)
  written_same a F room (fits f l s) (does_not (inl g) t) = absurd (g f)
  written_same a F room (fits f l s) (does_not (inr g) t) = absurd (omega arith)
  written_same a F room (does_not (inl f) s) (fits g m t) = absurd (f g)
  written_same a F room (does_not (inr f) s) (fits g m t) = absurd (omega arith)
