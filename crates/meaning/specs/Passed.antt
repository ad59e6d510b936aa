-- WHAT A PASSED DESCRIPTION IS: that the reply says what the rules say, and what follows of a description that is passed, in document 01's words.
-- Statements only; proofs/Passed.antt proves each for every description. Assumes nothing.
use Rattle.std.specs.Prelude.{ℕ, ◌+◌, ◌*◌, ◌%◌, ◌<◌, ◌≤◌, ◌≡◌, ◌⊎◌, Bool, true, false, not, List, length, if◌then◌else◌, Err}
use Rattle.meaning.specs.declared.Fields.{Fields}
use Rattle.meaning.specs.declared.Round.{Round}
use Rattle.meaning.specs.declared.Refusal.{Refusal}
use Rattle.meaning.specs.Basics.{◌=?◌}
use Rattle.meaning.specs.Description.{item_count, fields_at, is_table, nests, is_table_named, count, round, slot_octets, table_given, breaks1, breaks2, breaks3, breaks4, breaks5, breaks6, breaks7, is_table00, is_data_order, check_reply, kind_of}
use Rattle.meaning.specs.Numbers.{description_length, breaks_rule}
use Rattle.meaning.specs.Values.{passed}

abbrev pub Exactly : Type 0 → Type 0 → Type 0
Exactly A B = (A → B) × (B → A)

-- a description has 1 to 512 items of 4 octets
pub record LengthAllowed (d : List ℕ) : Type 0 where
  pub some : 0 < length d
  pub few : length d ≤ 2048
  pub whole : length d % 4 ≡ 0

-- THE REPLY SAYS WHAT THE RULES SAY
-- item i breaks rule n, of 2 to 7
unfoldable pub breaks : (description : List ℕ) → (rule item : ℕ) → Bool
breaks d n i =
    if n =? 2 then breaks2 (fields_at d i)
    else if n =? 3 then breaks3 (fields_at d i) i (round d i i)
    else if n =? 4 then breaks4 (fields_at d i) i (round d i i)
    else if n =? 5 then breaks5 (fields_at d i) (round d i i)
    else if n =? 6 then breaks6 d (fields_at d i) i
    else if n =? 7 then breaks7 d (fields_at d i) i
    else false

-- its length is allowed, and no item breaks any rule
pub record MeetsRules (d : List ℕ) : Type 0 where
  pub allowed : breaks1 d ≡ false
  pub kept : (i : ℕ) → i < item_count d → (n : ℕ) → breaks d n i ≡ false

-- item i is the first that breaks a rule, and n is the lowest that it breaks
pub record FirstToBreak (d : List ℕ) (n i : ℕ) : Type 0 where
  pub allowed : breaks1 d ≡ false
  pub there : i < item_count d
  pub earlier : (j : ℕ) → j < i → (m : ℕ) → breaks d m j ≡ false
  pub broken : breaks d n i ≡ true
  pub lowest : (m : ℕ) → m < n → breaks d m i ≡ false

abbrev pub Passes : List ℕ → Type 0
Passes d = check_reply d ≡ passed

-- the refusals that the rules give
abbrev pub OfRules : Refusal → Type 0
OfRules r = (r ≡ description_length) ⊎ ((2 ≤ r.number) × (r.number ≤ 7) × (r ≡ breaks_rule r.number r.item))

-- a description is passed exactly when it meets the rules; it is refused by 1 exactly when its length is not allowed, and by 2 to 7 exactly for the first
-- item that breaks one and its lowest; nothing else is replied
pub record CheckSays (d : List ℕ) : Type 0 where
  pub passed : Exactly (Passes d) (MeetsRules d)
  pub description_length : Exactly (check_reply d ≡ Err description_length) (breaks1 d ≡ true)
  pub broken : (n i : ℕ) → 2 ≤ n → Exactly (check_reply d ≡ Err (breaks_rule n i)) (FirstToBreak d n i)
  pub nothing_else : (r : Refusal) → check_reply d ≡ Err r → OfRules r

-- AN ITEM THAT BREAKS NO RULE: item i, which is f with r round it; the rules as facts
pub record Keeps (d : List ℕ) (f : Fields) (i : ℕ) (r : Round) : Type 0 where
  pub well_formed : 0 < kind_of f
  pub table00 : i ≡ 0 → is_table00 f ≡ true
  pub data_order : i ≡ 1 → is_data_order f ≡ true
  pub top : r.tables ≡ 0 → is_table f ≡ true
  pub within : 0 < r.tables → is_table f ≡ false
  pub direct : 0 < f.sets → r.nests ≡ 0
  pub fits : i + 1 + f.first + f.second ≤ r.limit
  pub shallow : nests f ≡ true → r.nests ≤ 3
  pub table_once : is_table f ≡ true → table_given d i f.manufacturer f.number ≡ false
  pub slot_once : 0 < f.sets → slot_octets d i f.sets ≡ 0
  pub refers : 0 < f.slot → f.low + f.width ≤ 8 * slot_octets d i f.slot

-- WHAT A PASSED DESCRIPTION HAS
-- round an item stands at most one TABLE, and in it at most four ARRAYs and IFs
pub record Levels (r : Round) : Type 0 where
  pub one : r.tables ≤ 1
  pub four : r.nests ≤ 4 * r.tables

-- the item after item i and all that is nested in it
abbrev pub end_of : (description : List ℕ) → (item : ℕ) → ℕ
end_of d i = i + 1 + (fields_at d i).first + (fields_at d i).second

-- slot s is set by a dimension before item i, and bits below `bits` lie inside it
pub record SetEarlier (d : List ℕ) (i s bits : ℕ) : Type 0 where
  pub dimension : ℕ
  pub earlier : dimension < i
  pub sets : (fields_at d dimension).sets ≡ s
  pub inside : bits ≤ 8 * (fields_at d dimension).octets

-- bodies nest inside what encloses them: what starts in the description, in an item's first body or in its second, ends there
pub record BodiesNest (d : List ℕ) : Type 0 where
  pub whole : (i : ℕ) → i < item_count d → end_of d i ≤ item_count d
  pub first : (j i : ℕ) → i < item_count d → j < i → i < j + 1 + (fields_at d j).first → end_of d i ≤ j + 1 + (fields_at d j).first
  pub second : (j i : ℕ) → i < item_count d → j + 1 + (fields_at d j).first ≤ i → i < end_of d j → end_of d i ≤ end_of d j

pub record PassedLaws (d : List ℕ) : Type 0 where
  -- every item keeps the rules; there are at most 512 items, and two at least
  pub keeps : (i : ℕ) → i < item_count d → Keeps d (fields_at d i) i (round d i i)
  pub few : item_count d ≤ 512
  pub two : 1 < item_count d
  -- item 0 is standard table 00, and item 1 a one-octet dimension, DATA_ORDER
  pub begins : is_table00 (fields_at d 0) ≡ true
  pub ordered : is_data_order (fields_at d 1) ≡ true
  -- every reference names a slot set by an earlier dimension, with its bits inside
  pub refers : (i : ℕ) → i < item_count d → 0 < (fields_at d i).slot → SetEarlier d i (fields_at d i).slot ((fields_at d i).low + (fields_at d i).width)
  pub nest : BodiesNest d
  -- what stands round an item stands round all that is nested in it
  pub shared : (k i : ℕ) → k < item_count d → k < i → i < end_of d k → round d k i ≡ round d k k
  -- TABLEs stand at the top level and everything else in one TABLE; ARRAYs and IFs at most four deep
  pub tables : (i : ℕ) → i < item_count d → (round d i i).tables ≡ count (not (is_table (fields_at d i)))
  pub levels : (i : ℕ) → i < item_count d → Levels (round d i i)
  -- a dimension stands directly in a TABLE body
  pub direct : (i : ℕ) → i < item_count d → 0 < (fields_at d i).sets → ((round d i i).tables ≡ 1) × ((round d i i).nests ≡ 0)
  -- each slot is set at most once, and each pair of manufacturer bit and number occurs once
  pub slots : (i j : ℕ) → i < item_count d → j < item_count d → 0 < (fields_at d i).sets → (fields_at d i).sets ≡ (fields_at d j).sets → i ≡ j
  pub names : (i j : ℕ) → i < item_count d → j < item_count d → is_table (fields_at d i) ≡ true
      → is_table_named (fields_at d j) (fields_at d i).manufacturer (fields_at d i).number ≡ true → i ≡ j
