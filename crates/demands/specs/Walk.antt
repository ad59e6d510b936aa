-- LAYING OUT, item by item, in the words of document 01's section of that name: no tree and no list of elements. What stands round an item is a search over the items before it; the
-- pieces of the image follow one another; which names have an element, how long it is and which stand earlier is told by the description and the numbers of its dimensions.
-- Assumes nothing.
use Rattle.std.specs.Prelude.{ℕ, zero, suc, ◌+◌, ◌*◌, ◌<◌, ◌≡◌, ◌⊎◌, Bool, true, false, ◌&&◌, ◌||◌, List, [], ◌∷◌, length, if◌then◌else◌}
use Rattle.meaning.specs.Basics.{◌=?◌, ◌<?◌, ◌≤?◌}
use Rattle.meaning.specs.declared.ElementName.{ElementName}
use Rattle.meaning.specs.Causes.{subscripts_of}
use Rattle.meaning.specs.Description.{item_count, fields_at, is_element, is_array, is_choice, nests, nested}
use Rattle.meaning.specs.Layout.{leaf_octets, number_at, Numbers, value}
use Rattle.meaning.specs.Passed.{end_of}
use Rattle.laying.specs.Outcomes.{set_number}

-- WHAT STANDS ROUND AN ITEM
-- item j encloses item i: counts include nested items
unfoldable pub encloses : (description : List ℕ) → (j i : ℕ) → Bool
encloses d j i = j <? i && i <? end_of d j

-- the ARRAYs and IFs, among the n items from `at` on, that enclose item i, outermost first
unfoldable pub nests_in : (description : List ℕ) → (n at i : ℕ) → List ℕ
nests_in d zero at i = []
nests_in d (suc n) at i = if nests (fields_at d at) && encloses d at i then at ∷ nests_in d n (at + 1) i else nests_in d n (at + 1) i

abbrev pub nests_round : (description : List ℕ) → (i : ℕ) → List ℕ
nests_round d i = nests_in d i 0 i

-- of these, the ARRAYs
unfoldable pub arrays_of : (description : List ℕ) → List ℕ → List ℕ
arrays_of d [] = []
arrays_of d (j ∷ js) = if is_array (fields_at d j) then j ∷ arrays_of d js else arrays_of d js

abbrev pub arrays_round : (description : List ℕ) → (i : ℕ) → List ℕ
arrays_round d i = arrays_of d (nests_round d i)

-- item i stands in the body that the IF at item j takes: nonzero is true, and its false items follow its true items
unfoldable pub in_chosen : (description : List ℕ) → Numbers → (j i : ℕ) → Bool
in_chosen d v j i = if 0 <? value v (fields_at d j) then i <? j + 1 + (fields_at d j).first else j + 1 + (fields_at d j).first ≤? i

-- and so it does of each IF among these
unfoldable pub all_chosen : (description : List ℕ) → Numbers → (i : ℕ) → List ℕ → Bool
all_chosen d v i [] = true
all_chosen d v i (j ∷ js) = (is_array (fields_at d j) || in_chosen d v j i) && all_chosen d v i js

abbrev pub is_chosen : (description : List ℕ) → Numbers → (i : ℕ) → Bool
is_chosen d v i = all_chosen d v i (nests_round d i)

-- SIZES, where slots have the numbers v: whole numbers without limit
-- an array takes count times its element's size, an IF only the chosen body; `inner at n` is how long the body of n items from `at` on is
unfoldable pub item_octets : (inner : ℕ → ℕ → ℕ) → (description : List ℕ) → Numbers → (at : ℕ) → ℕ
item_octets inner d v at =
    if is_array (fields_at d at) then value v (fields_at d at) * inner (at + 1) (fields_at d at).first
    else if is_choice (fields_at d at) then
    (if 0 <? value v (fields_at d at) then inner (at + 1) (fields_at d at).first else inner (at + 1 + (fields_at d at).first) (fields_at d at).second)
    else leaf_octets (fields_at d at) (value v (fields_at d at))

-- a body is as long as its items: of the n items from `at` on the first `skip` stand inside an item before them
unfoldable pub items_octets : (inner : ℕ → ℕ → ℕ) → (description : List ℕ) → Numbers → (n skip at : ℕ) → ℕ
items_octets inner d v zero skip at = 0
items_octets inner d v (suc n) (suc skip) at = items_octets inner d v n skip (at + 1)
items_octets inner d v (suc n) zero at = item_octets inner d v at + items_octets inner d v n (nested (fields_at d at)) (at + 1)

-- bodies stand inside bodies, so many deep
unfoldable pub body_octets : (levels : ℕ) → (description : List ℕ) → Numbers → (at n : ℕ) → ℕ
body_octets zero d v at n = 0
body_octets (suc k) d v at n = items_octets (body_octets k d v) d v n 0 at

-- at most four
abbrev pub octets_of : (description : List ℕ) → Numbers → (i : ℕ) → ℕ
octets_of d v i = item_octets (body_octets 4 d v) d v i

-- THE PIECES OF AN IMAGE: each UINT, BLOCK or SET outside arrays, and each outermost ARRAY, of the chosen branches, in the description's order and without gaps, each as long as the
-- dimensions before it say. No end of the image limits them
unfoldable pub is_none : List ℕ → Bool
is_none [] = true
is_none (j ∷ js) = false

unfoldable pub is_piece : (description : List ℕ) → Numbers → (i : ℕ) → Bool
is_piece d v i = (is_element (fields_at d i) || is_array (fields_at d i)) && is_none (arrays_round d i) && is_chosen d v i

-- what the pieces among the items before some item come to: the octet where they end, and the numbers of the slots that they set
pub record Reached : Type 0 where
  pub octet : ℕ
  pub numbers : Numbers

-- past item i
unfoldable pub past_item : (description image : List ℕ) → (i : ℕ) → Reached → Reached
past_item d img i r =
    if is_piece d r.numbers i then
    record {
      octet = r.octet + octets_of d r.numbers i;
      numbers = set_number (fields_at d i).sets (number_at img r.octet (octets_of d r.numbers i)) r.numbers;
    }
    else r

unfoldable pub reached : (description image : List ℕ) → (i : ℕ) → Reached
reached d img zero = record { octet = 0; numbers = λ s. 0 }
reached d img (suc i) = past_item d img i (reached d img i)

abbrev pub octet_before : (description image : List ℕ) → (i : ℕ) → ℕ
octet_before d img i = (reached d img i).octet

abbrev pub numbers_before : (description image : List ℕ) → (i : ℕ) → Numbers
numbers_before d img i = (reached d img i).numbers

-- the numbers of all dimensions
abbrev pub numbers_in : (description image : List ℕ) → Numbers
numbers_in d img = numbers_before d img (item_count d)

-- the end of the last
abbrev pub octets_in : (description image : List ℕ) → ℕ
octets_in d img = octet_before d img (item_count d)

-- the piece at item i doesn't end inside the image
unfoldable pub runs_past : (description image : List ℕ) → (i : ℕ) → Bool
runs_past d img i = is_piece d (numbers_before d img i) i && length img <? octet_before d img i + octets_of d (numbers_before d img i) i

-- item i, at octet p, is the first piece whose end is past the image
pub record FirstPast (d img : List ℕ) (i p : ℕ) : Type 0 where
  pub there : i < item_count d
  pub at : octet_before d img i ≡ p
  pub past : runs_past d img i ≡ true
  pub before : (j : ℕ) → j < i → runs_past d img j ≡ false

-- NAMES OF ELEMENTS, where slots have the numbers v
-- each subscript is below the count of its ARRAY
unfoldable pub all_below : (description : List ℕ) → Numbers → (arrays subscripts : List ℕ) → Bool
all_below d v [] xs = true
all_below d v (a ∷ more) [] = true
all_below d v (a ∷ more) (x ∷ xs) = x <? value v (fields_at d a) && all_below d v more xs

-- there is an element of item i with those subscripts: the item is an element, as many subscripts as ARRAYs, each below its count, each branch chosen
unfoldable pub has_element : (description : List ℕ) → Numbers → (i : ℕ) → (subscripts : List ℕ) → Bool
has_element d v i xs =
    i <? item_count d
    && is_element (fields_at d i)
    && length xs =? length (arrays_round d i)
    && all_below d v (arrays_round d i) xs
    && is_chosen d v i

unfoldable pub exists : (description : List ℕ) → Numbers → ElementName → Bool
exists d v q = q.count ≤? 4 && has_element d v q.item (subscripts_of q)

-- ORDER: an element's way is the number of the outermost ARRAY round it, its subscript there, the next ARRAY and its subscript, and last its own item
unfoldable pub way : (arrays subscripts : List ℕ) → (i : ℕ) → List ℕ
way [] xs i = i ∷ []
way (a ∷ more) [] i = i ∷ []
way (a ∷ more) (x ∷ xs) i = a ∷ x ∷ way more xs i

abbrev pub way_to : (description : List ℕ) → ElementName → List ℕ
way_to d q = way (arrays_round d q.item) (subscripts_of q) q.item

-- one comes before another where the first number in which they differ is less
unfoldable pub Earlier : List ℕ → List ℕ → Type 0
Earlier [] ys = ⊥
Earlier (x ∷ xs) [] = ⊥
Earlier (x ∷ xs) (y ∷ ys) = (x < y) ⊎ ((x ≡ y) × Earlier xs ys)
