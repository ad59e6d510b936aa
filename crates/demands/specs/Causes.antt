-- WHY THERE IS NO SUCH ELEMENT, or no such number: document 02's E4, "22 item isn't an element, 23 branch not chosen, 24 wrong number of subscripts, 25 subscript too large (its depth told, from 0), 26
-- number asked of a BLOCK or SET. Order 22, 26, 24, then from the outside in: 23 for a branch, 25 for a subscript."
-- Said twice. As tests, made apart from one another: their list alone says which comes first (specs/Demand1). And cause by cause, when each is told and when none (`CausesSay`): by which items
-- enclose which, with no list and no search. Both over the description and the numbers of its dimensions. proofs/Causes.antt proves that they say the same, for every description. Assumes nothing.
use Rattle.std.specs.Prelude.{ℕ, ◌<◌, ◌≡◌, Bool, true, false, not, ◌&&◌, List, ◌∷◌, map, length, get_or, if◌then◌else◌}
use Rattle.std.proofs.Math.Option.{Option, some, none}
use Rattle.meaning.specs.Basics.{◌=?◌, ◌<?◌, ◌≤?◌}
use Rattle.meaning.specs.declared.ElementName.{ElementName}
use Rattle.meaning.specs.declared.Refusal.{Refusal}
use Rattle.meaning.specs.Causes.{subscripts_of}
use Rattle.meaning.specs.Description.{item_count, fields_at, is_uint, is_element, is_array}
use Rattle.meaning.specs.Layout.{Numbers, value}
use Rattle.meaning.specs.Numbers.{not_an_element, branch_not_chosen, subscript_count, subscript_too_large, not_a_number}
use Rattle.meaning.specs.Passed.{Exactly}
use Rattle.demands.specs.Given.{given}
use Rattle.demands.specs.Rules.{NestRound}
use Rattle.demands.specs.Walk.{nests_in, nests_round, arrays_of, arrays_round, in_chosen, exists}

-- THE TESTS, of the element of a name
-- the item is an element
abbrev pub is_one : (description : List ℕ) → ElementName → Bool
is_one d q = q.item <? item_count d && is_element (fields_at d q.item)

-- a number is asked, and not of a UINT
abbrev pub is_other : (number : Bool) → (description : List ℕ) → ElementName → Bool
is_other number d q = number && not (is_uint (fields_at d q.item))

-- one subscript for each ARRAY round it, of at most four
abbrev pub is_counted : (description : List ℕ) → ElementName → Bool
is_counted d q = q.count ≤? 4 && length (subscripts_of q) =? length (arrays_round d q.item)

-- the depth of the ARRAY at item j round item i: how many ARRAYs round item i come before it, and so stand outside
abbrev pub depth_of : (description : List ℕ) → (j i : ℕ) → ℕ
depth_of d j i = length (arrays_of d (nests_in d j 0 i))

-- of the ARRAY at item j, that its subscript is below its count; of the IF there, that it takes the body round the item
unfoldable pub is_open : (description : List ℕ) → Numbers → ElementName → (j : ℕ) → Bool
is_open d v q j = if is_array (fields_at d j) then get_or (subscripts_of q) (depth_of d j q.item) 0 <? value v (fields_at d j) else in_chosen d v j q.item

-- what is told where it isn't: 25 of a subscript, 23 of a branch
unfoldable pub told_at : (description : List ℕ) → ElementName → (j : ℕ) → Refusal
told_at d q j = if is_array (fields_at d j) then subscript_too_large (depth_of d j q.item) else branch_not_chosen

unfoldable pub at_nest : (description : List ℕ) → Numbers → ElementName → (j : ℕ) → Option Refusal
at_nest d v q j = given (not (is_open d v q j)) (told_at d q j)

-- IN ORDER: 22, 26, 24, then from the outside in
unfoldable pub causes_of : (number : Bool) → (description : List ℕ) → Numbers → ElementName → List (Option Refusal)
causes_of number d v q =
    given (not (is_one d q)) not_an_element
    ∷ given (is_other number d q) not_a_number
    ∷ given (not (is_counted d q)) subscript_count
    ∷ map (at_nest d v q) (nests_round d q.item)

-- CAUSE BY CAUSE
-- of the name all is well up to what stands round its item
pub record Addressed (number : Bool) (d : List ℕ) (q : ElementName) : Type 0 where
  pub one : is_one d q ≡ true
  pub asked : is_other number d q ≡ false
  pub counted : is_counted d q ≡ true

-- the ARRAY or IF at item j stands round the item and is in the way, and none outside it is
pub record InTheWay (d : List ℕ) (v : Numbers) (q : ElementName) (j : ℕ) : Type 0 where
  pub round : NestRound d j q.item
  pub shut : is_open d v q j ≡ false
  pub outside : (a : ℕ) → a < j → NestRound d a q.item → is_open d v q a ≡ true

-- no cause holds: none of the ARRAYs and IFs round the item is in the way either
pub record Clear (number : Bool) (d : List ℕ) (v : Numbers) (q : ElementName) : Type 0 where
  pub addressed : Addressed number d q
  pub way : (a : ℕ) → NestRound d a q.item → is_open d v q a ≡ true

-- 23: a branch not chosen
pub record Unchosen (number : Bool) (d : List ℕ) (v : Numbers) (q : ElementName) : Type 0 where
  pub addressed : Addressed number d q
  pub item : ℕ
  pub branch : is_array (fields_at d item) ≡ false
  pub first : InTheWay d v q item

-- 25: a subscript too large, with k ARRAYs outside
pub record TooLarge (number : Bool) (d : List ℕ) (v : Numbers) (q : ElementName) (k : ℕ) : Type 0 where
  pub addressed : Addressed number d q
  pub item : ℕ
  pub array : is_array (fields_at d item) ≡ true
  pub depth : depth_of d item q.item ≡ k
  pub first : InTheWay d v q item

-- WHAT IS TOLD: no refusal exactly where no cause holds, which is where there is such an element and, of a number, it is a UINT; and each cause exactly where it comes first
pub record CausesSay (number : Bool) (d : List ℕ) (v : Numbers) (q : ElementName) (refusal : Option Refusal) : Type 0 where
  pub clear : Exactly (refusal ≡ none) (Clear number d v q)
  pub granted : Exactly (refusal ≡ none) ((exists d v q ≡ true) × (is_other number d q ≡ false))
  pub twenty_two : Exactly (refusal ≡ some not_an_element) (is_one d q ≡ false)
  pub twenty_six : Exactly (refusal ≡ some not_a_number) ((is_one d q ≡ true) × (is_other number d q ≡ true))
  pub twenty_four : Exactly (refusal ≡ some subscript_count) ((is_one d q ≡ true) × (is_other number d q ≡ false) × (is_counted d q ≡ false))
  pub twenty_three : Exactly (refusal ≡ some branch_not_chosen) (Unchosen number d v q)
  pub twenty_five : (k : ℕ) → Exactly (refusal ≡ some (subscript_too_large k)) (TooLarge number d v q k)
