-- SIZES: how long an item of the tree is, worked out by arithmetic from the numbers of the slots, with no image at hand. Sizes are whole numbers without
-- limit. Assumes nothing.
use Rattle.std.specs.Prelude.{ℕ, ◌+◌, ◌*◌, if◌then◌else◌}
use Rattle.meaning.specs.Layout.{Node, Body, Arms, leaf, array, choice, stray, done, more, last_arm, arm, leaf_octets, Numbers, value}

unfoldable mutual
  -- a body is as long as its items
  pub body_size : Body → Numbers → ℕ
  body_size done v = 0
  body_size (more n b) v = item_size n v + body_size b v

  -- an item is as long as its body: an ARRAY takes count times that, a choice only the chosen one
  pub item_size : Node → Numbers → ℕ
  item_size (leaf i f) v = leaf_octets f (value v f)
  item_size (array i f b) v = value v f * body_size b v
  item_size (choice i f arms) v = arms_size arms (value v f) v
  item_size (stray i) v = 0

  pub arms_size : Arms → (value : ℕ) → Numbers → ℕ
  arms_size (last_arm b) x v = body_size b v
  arms_size (arm t b arms) x v = if t x then body_size b v else arms_size arms x v
