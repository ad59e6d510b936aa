-- AN ITEM OF THE TREE BY ITS NUMBER. Assumes nothing.
use Rattle.std.specs.Prelude.{ℕ, zero, suc, List}
use Rattle.meaning.specs.Description.{fields_at}
use Rattle.meaning.specs.Layout.{Node, Body, stray, done, more, branches_of, node_of, body_at}

-- the bodies one level down, where `depth` levels are left
unfoldable pub inner_at : (depth : ℕ) → (description : List ℕ) → (at n : ℕ) → Body
inner_at zero d = λ a m. more (stray a) done
inner_at (suc k) d = body_at k d

-- item `at`, with n items after it in its body
abbrev pub node_at : (depth : ℕ) → (description : List ℕ) → (at n : ℕ) → Node
node_at k d at n = node_of (inner_at k d) (fields_at d at) (branches_of d at) at n
