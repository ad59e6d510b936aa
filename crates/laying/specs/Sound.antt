-- SOUND TREES: what the rules on a description come to for its tree, and the smaller part of it that the code leans on. Assumes nothing.
use Rattle.std.specs.Prelude.{ℕ, zero, suc, ◌+◌, ◌*◌, ◌<◌, ◌≤◌, ◌≡◌, Bool, true, false, if◌then◌else◌}
use Rattle.meaning.specs.Basics.{◌=?◌}
use Rattle.meaning.specs.declared.Fields.{Fields}
use Rattle.meaning.specs.Layout.{Node, Body, Arms, Tables, leaf, array, choice, stray, done, more, last_arm, arm, no_more, table, stray_table}

-- NOTHING STRAY
unfoldable mutual
  pub FitBody : Body → Type 0
  FitBody done = Unit {0}
  FitBody (more n b) = FitNode n × FitBody b

  pub FitNode : Node → Type 0
  FitNode (leaf i f) = Unit {0}
  FitNode (array i f b) = FitBody b
  FitNode (choice i f arms) = FitArms arms
  FitNode (stray i) = ⊥

  pub FitArms : Arms → Type 0
  FitArms (last_arm b) = FitBody b
  FitArms (arm t b arms) = FitBody b × FitArms arms

-- REFERENCES ARE GOOD TOO
-- the octets of the dimension that sets each slot, 0 where none has yet
abbrev pub Known : Type 0
Known = ℕ → ℕ

unfoldable pub set_known : (slot octets : ℕ) → Known → Known
set_known zero o κ = κ
set_known (suc k) o κ = λ j. if j =? suc k then o else κ j

-- a reference has bits, and they lie inside the element that set its slot
pub record GoodReference (κ : Known) (f : Fields) : Type 0 where
  pub some : 0 < f.slot → 0 < f.width
  pub inside : 0 < f.slot → f.low + f.width ≤ 8 * κ f.slot

-- the slots known after an item: in a TABLE's body a UINT may be a dimension
unfoldable pub after_node : Node → Known → Known
after_node (leaf i f) κ = set_known f.sets f.octets κ
after_node (array i f b) κ = κ
after_node (choice i f arms) κ = κ
after_node (stray i) κ = κ

-- and after a body
unfoldable pub after_body : Body → Known → Known
after_body done κ = κ
after_body (more n b) κ = after_body b (after_node n κ)

-- a UINT, BLOCK or SET: where it isn't free to, it sets no slot; what sets one has octets of its own
pub record SoundLeaf (free : Bool) (κ : Known) (f : Fields) : Type 0 where
  pub refers : GoodReference κ f
  pub unset : free ≡ false → f.sets ≡ 0
  pub owns : 0 < f.sets → f.slot ≡ 0

-- `free`: directly in a TABLE's body, where a dimension may stand
unfoldable mutual
  pub SoundBody : (free : Bool) → Known → Body → Type 0
  SoundBody free κ done = Unit {0}
  SoundBody free κ (more n b) = SoundNode free κ n × SoundBody free (after_node n κ) b

  pub SoundNode : (free : Bool) → Known → Node → Type 0
  SoundNode free κ (leaf i f) = SoundLeaf free κ f
  SoundNode free κ (array i f b) = GoodReference κ f × SoundBody false κ b
  SoundNode free κ (choice i f arms) = GoodReference κ f × SoundArms κ arms
  SoundNode free κ (stray i) = ⊥

  pub SoundArms : Known → Arms → Type 0
  SoundArms κ (last_arm b) = SoundBody false κ b
  SoundArms κ (arm t b arms) = SoundBody false κ b × SoundArms κ arms

unfoldable pub SoundTables : Known → Tables → Type 0
SoundTables κ no_more = Unit {0}
SoundTables κ (table i f body rest) = SoundBody true κ body × SoundTables (after_body body κ) rest
SoundTables κ (stray_table i) = ⊥

-- before the first table no slot is known
abbrev pub none_known : Known
none_known k = 0
