-- The branches of a choice, kind by kind: they lie among its items, and by the rules each is a run of items with the choice round it. What else is shown of
-- choices goes by this. Assumes nothing.
use Prim.Native.Nat.{ℕ, ◌+◌, ◌<◌, ◌≤◌}
use mathlib.Core.Path.{◌≡◌}
use mathlib.Core.List.{List}
use native.Mathlib.Omega.{arith}
use Rattle.meaning.specs.declared.Inner.{Inner}
use Rattle.meaning.specs.declared.Round.{Round}
use Rattle.meaning.specs.Description.{fields_at, nested, inside}
use Rattle.meaning.specs.Layout.{Branches, otherwise, branch, if_branches, branches_in, branches_of, only_body}
use Rattle.meaning.specs.Passed.{PassedLaws}
use Rattle.laying.proofs.Nested.{Run, first_body, second_body}

-- each branch stands among the n items of its choice
unfoldable pub Within : (n : ℕ) → Branches → Type 0
Within n (otherwise c) = c.skip + c.items ≤ n
Within n (branch t c rest) = (c.skip + c.items ≤ n) × Within n rest

-- a body of item a, which has r round it
abbrev pub BodyRun : (description : List ℕ) → (a : ℕ) → Round → Inner → Type 0
BodyRun d a r c = let end = a + 1 + c.skip + c.items in Run d (a + 1 + c.skip) end (inside (fields_at d a) end r)

unfoldable pub BranchRuns : (description : List ℕ) → (a : ℕ) → Round → Branches → Type 0
BranchRuns d a r (otherwise c) = BodyRun d a r c
BranchRuns d a r (branch t c rest) = BodyRun d a r c × BranchRuns d a r rest

pub branches_within : (d : List ℕ) (at : ℕ) → Within (nested (fields_at d at)) (branches_of d at)
unfolding branches_in if_branches Within
branches_within d at = omega arith

module _ {d : List ℕ} (p : PassedLaws d) {a e : ℕ} {r : Round} (b : Run d a e r) (l : a < e) where
  pub only_run : BodyRun d a r (only_body (fields_at d a))
  only_run = let z : a + 1 + 0 ≡ a + 1 = omega arith in rw z (first_body p b l)

  pub branch_runs : BranchRuns d a r (branches_of d a)
  unfolding branches_in if_branches BranchRuns
  branch_runs = (only_run, second_body p b l)
