-- What the tests of a kind say of an item whose kind a number names, any number: a choice is 6, what nests is 5 or 6. Assumes nothing.
use Prim.Native.Nat.{ℕ}
use mathlib.Core.Path.{◌≡◌, refl, ap, ◌∙◌}
use mathlib.Core.Bool.{Bool, true, false, ◌||◌}
use borrow.Author.Tests.{eqb-true}
use Rattle.std.specs.Prelude.{if◌then◌else◌}
use Rattle.meaning.specs.Basics.{◌=?◌}
use Rattle.meaning.specs.declared.Fields.{Fields}
use Rattle.meaning.specs.declared.Kind.{Kind}
use Rattle.meaning.specs.Description.{kind_number, is_choice, nests}
use Rattle.items.specs.Numbered.{kind_numbered}

-- the kind, by which of the six tests hold
abbrev tested : (a b c d e f : Bool) → Kind
tested a b c d e f = if a then Kind.Table else if b then Kind.Uint else if c then Kind.Block else if d then Kind.Set else if e then Kind.Array else if f then Kind.If else Kind.Malformed

not_five : (a b c d f : Bool) → (kind_number (tested a b c d false f) =? 5) ≡ false
not_five true b c d f = refl
not_five false true c d f = refl
not_five false false true d f = refl
not_five false false false true f = refl
not_five false false false false true = refl
not_five false false false false false = refl

not_six : (a b c d e : Bool) → (kind_number (tested a b c d e false) =? 6) ≡ false
not_six true b c d e = refl
not_six false true c d e = refl
not_six false false true d e = refl
not_six false false false true e = refl
not_six false false false false true = refl
not_six false false false false false = refl

is_five : (n : ℕ) → (kind_number (kind_numbered n) =? 5) ≡ (n =? 5)
unfolding kind_numbered
is_five n = go (n =? 5) refl
  where
    go : (t : Bool) → (n =? 5) ≡ t → (kind_number (tested (n =? 1) (n =? 2) (n =? 3) (n =? 4) (n =? 5) (n =? 6)) =? 5) ≡ (n =? 5)
    go true e = rw (eqb-true n 5 e) refl
    go false e = rw e (not_five (n =? 1) (n =? 2) (n =? 3) (n =? 4) (n =? 6))

is_six : (n : ℕ) → (kind_number (kind_numbered n) =? 6) ≡ (n =? 6)
unfolding kind_numbered
is_six n = go (n =? 6) refl
  where
    go : (t : Bool) → (n =? 6) ≡ t → (kind_number (tested (n =? 1) (n =? 2) (n =? 3) (n =? 4) (n =? 5) (n =? 6)) =? 6) ≡ (n =? 6)
    go true e = rw (eqb-true n 6 e) refl
    go false e = rw e (not_six (n =? 1) (n =? 2) (n =? 3) (n =? 4) (n =? 5))

module _ (f : Fields) (n : ℕ) (named : f.kind ≡ kind_numbered n) where
  pub choice_numbered : is_choice f ≡ (n =? 6)
  choice_numbered = ap (λ (k : Kind). kind_number k =? 6) named ∙ is_six n

  pub nests_numbered : nests f ≡ (n =? 5 || n =? 6)
  nests_numbered = rw (named, is_five n, is_six n) refl
