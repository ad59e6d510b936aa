-- The arm that a choice takes, by its branches: the arm is laid, as long as, and has the row that, the body of the branch taken has; and what holds of each
-- branch holds of that one. Of any branches. Assumes nothing.
use Rattle.std.specs.Prelude.{if◌then◌else◌}
use Prim.Native.Nat.{ℕ, ◌+◌, ◌≤◌}
use mathlib.Core.Path.{◌≡◌, refl}
use mathlib.Core.Bool.{Bool, true, false}
use mathlib.Core.List.{List}
use Rattle.meaning.specs.declared.Inner.{Inner}
use Rattle.meaning.specs.Layout.{Body, Branches, otherwise, branch, taken, body_in, arms_of, Slots, lay_body, lay_arms, Numbers}
use Rattle.laying.specs.Rows.{body_row, arms_row, walk_body, walk_arms}
use Rattle.laying.specs.Sizes.{body_size, arms_size}
use Rattle.laying.specs.Sound.{Known, FitBody, FitArms, SoundBody, SoundArms}
use Rattle.laying.proofs.Branches.{Within}
use Rattle.meaning.proofs.Either.{tested}

-- what is picked by a test, made of what is picked
pub picked : {A : Type 0} (f : Inner → A) (b : Bool) (c e : Inner) {x : A} → x ≡ f e → (if b then f c else x) ≡ f (if b then c else e)
picked f true c e h = refl
picked f false c e h = h

module _ (inner : ℕ → ℕ → Body) (at x : ℕ) where
  -- the body taken
  abbrev pub taken_body : Branches → Body
  taken_body b = body_in inner at (taken b x)

  pub taken_lay : (b : Branches) (img : List ℕ) (a : Bool) (s : Slots) (p : ℕ) → lay_arms (arms_of inner at b) x img a s p ≡ lay_body (taken_body b) img a s p
  unfolding arms_of taken lay_arms
  taken_lay (otherwise c) img a s p = refl
  taken_lay (branch t c rest) img a s p = picked (λ c. lay_body (body_in inner at c) img a s p) (t x) c _ (taken_lay rest img a s p)

  pub taken_size : (b : Branches) (v : Numbers) → arms_size (arms_of inner at b) x v ≡ body_size (taken_body b) v
  unfolding arms_of taken arms_size
  taken_size (otherwise c) v = refl
  taken_size (branch t c rest) v = picked (λ c. body_size (body_in inner at c) v) (t x) c _ (taken_size rest v)

  pub taken_row : (b : Branches) (v : Numbers) (i : ℕ) → arms_row (arms_of inner at b) x v i ≡ body_row (taken_body b) v i
  unfolding arms_of taken arms_row
  taken_row (otherwise c) v i = refl
  taken_row (branch t c rest) v i = picked (λ c. body_row (body_in inner at c) v i) (t x) c _ (taken_row rest v i)

  pub taken_walk : (b : Branches) (img : List ℕ) (s : Slots) (p i : ℕ) → walk_arms (arms_of inner at b) x img s p i ≡ walk_body (taken_body b) img s p i
  unfolding arms_of taken walk_arms
  taken_walk (otherwise c) img s p i = refl
  taken_walk (branch t c rest) img s p i = picked (λ c. walk_body (body_in inner at c) img s p i) (t x) c _ (taken_walk rest img s p i)

  pub taken_fit : (b : Branches) → FitArms (arms_of inner at b) → FitBody (taken_body b)
  unfolding arms_of taken FitArms
  taken_fit (otherwise c) h = h
  taken_fit (branch t c rest) h = tested (λ c. FitBody (body_in inner at c)) (t x) _ _ (λ e. h.0) (λ e. taken_fit rest h.1)

  pub taken_sound : (κ : Known) (b : Branches) → SoundArms κ (arms_of inner at b) → SoundBody false κ (taken_body b)
  unfolding arms_of taken SoundArms
  taken_sound κ (otherwise c) h = h
  taken_sound κ (branch t c rest) h = tested (λ c. SoundBody false κ (body_in inner at c)) (t x) _ _ (λ e. h.0) (λ e. taken_sound κ rest h.1)

-- and stands where each does
pub taken_within : (n x : ℕ) (b : Branches) → Within n b → (taken b x).skip + (taken b x).items ≤ n
unfolding taken Within
taken_within n x (otherwise c) h = h
taken_within n x (branch t c rest) h = tested (λ (c : Inner). c.skip + c.items ≤ n) (t x) _ _ (λ e. h.0) (λ e. taken_within n x rest h.1)
