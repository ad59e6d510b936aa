-- WHY THERE IS NO SUCH ELEMENT: document 02's E4. "22 item isn't an element, 23 branch not chosen, 24 wrong number of subscripts, 25 subscript too large (its depth told, from 0), 26 number
-- asked of a BLOCK or SET. Order 22, 26, 24, then from the outside in: 23 for a branch, 25 for a subscript."
-- Each cause is told by the description and the numbers of its dimensions alone: no image, no elements laid out. Counts include nested items, so what stands round an item is a search over the
-- items before it, and comes outside in. Rules out: a depth that counts choices, or counts from the inside; an inner subscript told where an outer branch isn't chosen. Assumes nothing.
use Rattle.std.specs.Prelude.{ℕ, zero, suc, ◌+◌, Bool, not, ◌&&◌, ◌||◌, List, length, get_or, take, if◌then◌else◌}
use Rattle.meaning.specs.Basics.{◌=?◌, ◌<?◌, ◌≤?◌}
use Rattle.meaning.specs.declared.ElementName.{ElementName}
use Rattle.meaning.specs.declared.Fields.{Fields}
use Rattle.meaning.specs.declared.Inner.{Inner}
use Rattle.meaning.specs.declared.Refusal.{Refusal}
use Rattle.meaning.specs.Description.{item_count, fields_at, is_uint, is_element, is_array, is_choice, count}
use Rattle.meaning.specs.Layout.{Numbers, value, branches_of, taken}
use Rattle.meaning.specs.Numbers.{nothing_refused, not_an_element, branch_not_chosen, subscript_count, subscript_too_large, not_a_number}

-- WHAT STANDS ROUND AN ITEM
-- item j, which is f, encloses a later item i
abbrev pub encloses : Fields → (j i : ℕ) → Bool
encloses f j i = i <? j + 1 + f.first + f.second

-- how many ARRAYs among the items before item k enclose item i
unfoldable pub arrays_round : (description : List ℕ) → (k i : ℕ) → ℕ
arrays_round d zero i = 0
arrays_round d (suc j) i = count (is_array (fields_at d j) && encloses (fields_at d j) j i) + arrays_round d j i

-- item i stands in that branch of the choice at item j
unfoldable pub in_branch : (j : ℕ) → Inner → (i : ℕ) → Bool
in_branch j c i = j + 1 + c.skip ≤? i && i <? j + 1 + c.skip + c.items

-- THE CAUSES, of the element of that name, where slots have the numbers v. Each number is told where its test fails
-- 22: the item is an element
abbrev pub is_one : (description : List ℕ) → ElementName → Bool
is_one d q = q.item <? item_count d && is_element (fields_at d q.item)

-- 26: no number is asked, or it is a UINT's
abbrev pub suits : (number : Bool) → (description : List ℕ) → ElementName → Bool
suits number d q = not number || q.item <? item_count d && is_uint (fields_at d q.item)

-- the subscripts that a name gives: four places and a count; places past the count aren't read
abbrev pub subscripts_of : ElementName → List ℕ
subscripts_of q = take q.count q.subscripts

-- 24: there is a subscript for each ARRAY round the item, and no more than four
abbrev pub right_count : (description : List ℕ) → ElementName → Bool
right_count d q = q.count ≤? 4 && length (subscripts_of q) =? arrays_round d q.item q.item

-- 25: the subscript of the ARRAY at item j, inside k others, is below its count
abbrev pub is_below : (description : List ℕ) → Numbers → (subscripts : List ℕ) → (j k : ℕ) → Bool
is_below d v xs j k = get_or xs k 0 <? value v (fields_at d j)

-- 23: the choice at item j takes the branch round item i
abbrev pub is_taken : (description : List ℕ) → Numbers → (i j : ℕ) → Bool
is_taken d v i j = in_branch j (taken (branches_of d j) (value v (fields_at d j))) i

-- why item j is in the way of item i, where k ARRAYs stand outside; nothing where it isn't
unfoldable pub hindrance : (description : List ℕ) → Numbers → (i : ℕ) → (subscripts : List ℕ) → (j k : ℕ) → Refusal
hindrance d v i xs j k =
    if is_array (fields_at d j) && encloses (fields_at d j) j i then (if is_below d v xs j k then nothing_refused else subscript_too_large k)
    else if is_choice (fields_at d j) && encloses (fields_at d j) j i then (if is_taken d v i j then nothing_refused else branch_not_chosen)
    else nothing_refused

-- from the outside in: of the n items from j on the first in the way of item i
unfoldable pub in_the_way : (description : List ℕ) → Numbers → (i : ℕ) → (subscripts : List ℕ) → (n j k : ℕ) → Refusal
in_the_way d v i xs zero j k = nothing_refused
in_the_way d v i xs (suc n) j k =
    if (hindrance d v i xs j k).number =? 0 then in_the_way d v i xs n (j + 1) (if is_array (fields_at d j) && encloses (fields_at d j) j i then k + 1 else k)
    else hindrance d v i xs j k

-- THE FIRST of them: why there is no such element, or no such number
unfoldable pub why_none : (number : Bool) → (description : List ℕ) → Numbers → ElementName → Refusal
why_none number d v q =
    if not (is_one d q) then not_an_element
    else if not (suits number d q) then not_a_number
    else if not (right_count d q) then subscript_count
    else in_the_way d v q.item (subscripts_of q) q.item 0 0
