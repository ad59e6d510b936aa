-- WHAT THE FUNCTIONS THAT MEASURE PROMISE, by sizes and rows. Assumes nothing.
use Rattle.std.specs.Prelude.{ℕ, ◌+◌, ◌-◌, ◌*◌, ◌≤◌, ◌≡◌, List, Some, None, length, get_or, if◌then◌else◌}
use Rattle.std.specs.Option.{option_map, option_or}
use Rattle.meaning.specs.Basics.{◌=?◌}
use Rattle.meaning.specs.declared.Fields.{Fields}
use Rattle.meaning.specs.declared.Inner.{Inner}
use Rattle.meaning.specs.Description.{item_count, fields_at, is_array, nested}
use Rattle.meaning.specs.Layout.{Node, branches_in, taken, only_body, leaf_octets, body_at, Numbers}
use Rattle.laying.specs.Rows.{first_row, onward, body_row, item_row}
use Rattle.laying.specs.Rows as def
use Rattle.laying.specs.Sizes.{body_size, item_size}
use Rattle.laying.specs.Sound.{FitBody, FitNode}
use Rattle.laying.specs.Tree.{node_at}
use Rattle.places.specs.declared.measure.Sized.{Sized}
use Rattle.places.specs.declared.measure.Span.{Span}
use Rattle.places.specs.Rows.{cut, RowAs, alone, onward_by, with_array}

-- the numbers of the slots, as the code has them
abbrev pub numbers_in : List ℕ → Numbers
numbers_in l = λ k. get_or l k 0

-- the body that an ARRAY or a choice that is f takes, with its items from item `first` on, for its reference's value
unfoldable pub inner_of : (description : List ℕ) → Fields → (first value : ℕ) → Inner
inner_of d f first x = if is_array f then only_body f else taken (branches_in d f first) x

unfoldable pub leaf_span : Fields → (value at i : ℕ) → Span
leaf_span f x at i = record { size = cut (leaf_octets f x); row = if at =? i then Some (alone (leaf_octets f x)) else None }

abbrev pub joined : Span → Span → Span
joined a b = record { size = cut (a.size + b.size); row = option_or a.row (option_map (onward_by a.size) b.row) }

abbrev pub array_span : (count : ℕ) → Span → Span
array_span c b = record { size = cut (c * b.size); row = option_map (with_array c b.size) b.row }

-- a size and a row, cut
pub record SpanAs (k : ℕ) (r : Span) (size : ℕ) (row : def.Row) : Type 0 where
  pub size_is : r.size ≡ cut size
  pub row_as : RowAs k r.row row

-- item `at` of the tree, with as many items after it as stand inside it
abbrev pub node_in : (depth : ℕ) → (description : List ℕ) → (at : ℕ) → Node
node_in k d at = node_at k d at (nested (fields_at d at))

-- before n items from `at` on are measured, as a body at most `depth` deep: nothing in it is stray
pub record BodyReady (d numbers : List ℕ) (at n depth : ℕ) : Type 0 where
  pub few : item_count d ≤ 512
  pub there : at + n ≤ item_count d
  pub fit : FitBody (body_at depth d at n)
  pub deep : depth ≤ 4
  pub slots : length numbers ≡ 64

pub record ItemReady (d numbers : List ℕ) (at depth : ℕ) : Type 0 where
  pub few : item_count d ≤ 512
  pub there : at + 1 + nested (fields_at d at) ≤ item_count d
  pub fit : FitNode (node_in depth d at)
  pub deep : depth ≤ 4
  pub slots : length numbers ≡ 64

abbrev pub BodyAs : (d numbers : List ℕ) → (at n depth i : ℕ) → Span → Type 0
BodyAs d numbers at n k i r = SpanAs k r (body_size (body_at k d at n) (numbers_in numbers)) (body_row (body_at k d at n) (numbers_in numbers) i)

pub record ItemAs (d numbers : List ℕ) (at depth i : ℕ) (r : Sized) : Type 0 where
  pub span : SpanAs depth r.span (item_size (node_in depth d at) (numbers_in numbers)) (item_row (node_in depth d at) (numbers_in numbers) i)
  pub next : r.next.at ≡ at + 1 + nested (fields_at d at)

-- what is measured so far, of this size and row, and what is left from item `next` on come to the whole body of n items from `at` on
pub record Going (d numbers : List ℕ) (at n depth i : ℕ) (s : Span) (next : ℕ) : Type 0 where
  pub size : ℕ
  pub row : def.Row
  pub ordered : next ≤ at + n
  pub rest : BodyReady d numbers next (at + n - next) depth
  pub measured : SpanAs depth s size row
  pub sizes : size + body_size (body_at depth d next (at + n - next)) (numbers_in numbers) ≡ body_size (body_at depth d at n) (numbers_in numbers)
  pub rows : first_row row (onward size (body_row (body_at depth d next (at + n - next)) (numbers_in numbers) i)) ≡ body_row (body_at depth d at n) (numbers_in numbers) i
