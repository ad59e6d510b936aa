-- THE RULES ON DESCRIPTIONS, as facts in the words of document 01, "Description items" and refusals 1 to 7. What an item's fields are is read from its octets by `fields_at` (crate
-- meaning, specs/Description); all else is said here, by which items enclose which. proofs/Rules.antt proves `CheckSays` of our check, for every description. Assumes
-- nothing.
use Rattle.std.specs.Prelude.{ℕ, ◌+◌, ◌<◌, ◌≤◌, ◌≡◌, Bool, true, false, cond, List, if◌then◌else◌, Err}
use Rattle.meaning.specs.Basics.{◌=?◌, ◌<?◌}
use Rattle.meaning.specs.Description.{item_count, fields_at, is_table, nests, is_table_named, kind_of}
use Rattle.meaning.specs.Passed.{Exactly, LengthAllowed, end_of, SetEarlier}
use Rattle.meaning.specs.Numbers.{description_length, breaks_rule}
use Rattle.meaning.specs.Values.{Verdict, passed}

infix 10 when◌holds◌otherwise◌
-- WHAT ENCLOSES WHAT. Counts include nested items: item j encloses the items that follow it, as many as it counts
abbrev pub Encloses : (description : List ℕ) → (j i : ℕ) → Type 0
Encloses d j i = (j < i) × (i < end_of d j)

-- the innermost that encloses item i
pub record Innermost (d : List ℕ) (j i : ℕ) : Type 0 where
  pub encloses : Encloses d j i
  pub latest : (k : ℕ) → Encloses d k i → k ≤ j

-- where the body of item j that holds item i ends: an IF's false items follow its true items
unfoldable pub body_end : (description : List ℕ) → (j i : ℕ) → ℕ
body_end d j i = if i <? j + 1 + (fields_at d j).first then j + 1 + (fields_at d j).first else end_of d j

-- a TABLE, and an ARRAY or IF, that encloses item i
abbrev pub TableRound : (description : List ℕ) → (j i : ℕ) → Type 0
TableRound d j i = Encloses d j i × (is_table (fields_at d j) ≡ true)

abbrev pub NestRound : (description : List ℕ) → (j i : ℕ) → Type 0
NestRound d j i = Encloses d j i × (nests (fields_at d j) ≡ true)

-- THE RULES, each as what an item i that keeps it is
-- 2: its kind is known, no spare bit is set, no width code is 3, no count or slot is below its least
abbrev pub WellFormed : (description : List ℕ) → (i : ℕ) → Type 0
WellFormed d i = 0 < kind_of (fields_at d i)

-- 3: it stands at a level and place that it may have
pub record InPlace (d : List ℕ) (i : ℕ) : Type 0 where
  -- item 0 is standard table 00 with at least one body item
  pub table00 : i ≡ 0 → (is_table_named (fields_at d i) 0 0 ≡ true) × (0 < (fields_at d i).first)
  -- item 1 is a one-octet UINT that sets a slot
  pub data_order : i ≡ 1 → (0 < (fields_at d i).sets) × ((fields_at d i).octets ≡ 1)
  -- the top level holds only TABLE items, and bodies hold none
  pub top : ((j : ℕ) → TableRound d j i → ⊥) → is_table (fields_at d i) ≡ true
  pub within : (j : ℕ) → TableRound d j i → is_table (fields_at d i) ≡ false
  -- a UINT that sets a slot stands directly in a TABLE body
  pub direct : 0 < (fields_at d i).sets → (j : ℕ) → NestRound d j i → ⊥

-- 4: its body ends with what encloses it: the innermost item's body, or the description
pub record EndsInside (d : List ℕ) (i : ℕ) : Type 0 where
  pub enclosed : (j : ℕ) → Innermost d j i → end_of d i ≤ body_end d j i
  pub alone : ((j : ℕ) → Encloses d j i → ⊥) → end_of d i ≤ item_count d

-- 5: no ARRAY or IF stands inside four others
abbrev pub Shallow : (description : List ℕ) → (i : ℕ) → Type 0
Shallow d i = nests (fields_at d i) ≡ true → (a b c e : ℕ) → a < b → b < c → c < e → NestRound d a i → NestRound d b i → NestRound d c i → NestRound d e i → ⊥

-- 6: no table and no slot is given twice
pub record Once (d : List ℕ) (i : ℕ) : Type 0 where
  pub table : is_table (fields_at d i) ≡ true → (j : ℕ) → j < i → is_table_named (fields_at d j) (fields_at d i).manufacturer (fields_at d i).number ≡ true → ⊥
  pub slot : 0 < (fields_at d i).sets → (j : ℕ) → j < i → (fields_at d j).sets ≡ (fields_at d i).sets → ⊥

-- 7: its reference names a slot set by an earlier item, and its bits lie inside that element
abbrev pub RefersBack : (description : List ℕ) → (i : ℕ) → Type 0
RefersBack d i = 0 < (fields_at d i).slot → SetEarlier d i (fields_at d i).slot ((fields_at d i).low + (fields_at d i).width)

-- a fact chosen by a test, as the library's choice is between values
abbrev pub when◌holds◌otherwise◌ : Bool → Type 0 → Type 0 → Type 0
when b holds P otherwise Q = cond b P Q

-- item i keeps the rule of that number; there are 2 to 7
unfoldable pub KeepsRule : (description : List ℕ) → (rule i : ℕ) → Type 0
KeepsRule d n i =
    when n =? 2 holds WellFormed d i otherwise
    when n =? 3 holds InPlace d i otherwise
    when n =? 4 holds EndsInside d i otherwise
    when n =? 5 holds Shallow d i otherwise
    when n =? 6 holds Once d i otherwise
    when n =? 7 holds RefersBack d i otherwise
    Unit {0}

-- and all of them
pub record KeepsRules (d : List ℕ) (i : ℕ) : Type 0 where
  pub well_formed : WellFormed d i
  pub in_place : InPlace d i
  pub ends_inside : EndsInside d i
  pub shallow : Shallow d i
  pub once : Once d i
  pub refers_back : RefersBack d i

-- THE REPLY TO "IS THIS DESCRIPTION SOUND", any family's
-- its length is allowed (1), and every item keeps the rules
pub record MeetsRules (d : List ℕ) : Type 0 where
  pub allowed : LengthAllowed d
  pub keeps : (i : ℕ) → i < item_count d → KeepsRules d i

-- item i is the first that breaks a rule, and n is the lowest that it breaks
pub record FirstToBreak (d : List ℕ) (n i : ℕ) : Type 0 where
  pub allowed : LengthAllowed d
  pub there : i < item_count d
  pub earlier : (j : ℕ) → j < i → KeepsRules d j
  pub lower : (m : ℕ) → m < n → KeepsRule d m i
  pub broken : KeepsRule d n i → ⊥

pub record CheckSays (d : List ℕ) (reply : Verdict) : Type 0 where
  pub passed : Exactly (reply ≡ passed) (MeetsRules d)
  pub length : Exactly (reply ≡ Err description_length) (LengthAllowed d → ⊥)
  pub broken : (n i : ℕ) → 2 ≤ n → Exactly (reply ≡ Err (breaks_rule n i)) (FirstToBreak d n i)
