-- What the recursive check carries, in terms of the rules: for the contracts of the functions below the public call. Assumes nothing.
use Rattle.std.specs.Prelude.{ℕ, ◌+◌, ◌-◌, ◌<◌, ◌≤◌, List, ◌≡◌, length, get_or, set, if◌then◌else◌, Result, Ok, Err, Option, Some, None, zero, suc}
use Rattle.items.specs.declared.Read.{Read}
use Rattle.meaning.specs.declared.Refusal.{Refusal}
use Rattle.meaning.specs.Numbers.{breaks_rule}
use Rattle.meaning.specs.Basics.{◌=?◌}
use Rattle.meaning.specs.declared.Fields.{Fields}
use Rattle.meaning.specs.declared.Round.{Round}
use Rattle.meaning.specs.Ranges.{FieldsRange}
use Rattle.meaning.specs.Passed.{Levels}
use Rattle.meaning.specs.Description.{item_count, fields_at, round, inside, slot_octets, lowest_broken, rule_broken}
use Rattle.sound.specs.declared.Checked.{Checked}

-- n items there are
pub record There (d : List ℕ) (n : ℕ) : Type 0 where
  pub few : n ≤ 512
  pub whole : n ≤ item_count d

-- the slots with the one that f sets
unfoldable pub noted : List ℕ → Fields → List ℕ
noted slots f = if f.sets =? 0 then slots else set slots f.sets f.octets

-- `slots` has the octets of the slots that the items before k set
pub record Known (d : List ℕ) (k : ℕ) (slots : List ℕ) : Type 0 where
  pub size : length slots ≡ 64
  pub octets : (s : ℕ) → 0 < s → s < 64 → get_or slots s 0 ≡ slot_octets d k s

-- a rule by its number, of which 0 is none
unfoldable pub rule_of : ℕ → Option ℕ
rule_of zero = None
rule_of (suc n) = Some (suc n)

-- item `at`, with r round it, was judged: it is read and breaks no rule
pub record Kept (d : List ℕ) (at : ℕ) (r : Round) (j : Read) : Type 0 where
  pub fields : j.fields ≡ fields_at d at
  pub range : FieldsRange j.fields
  pub passes : lowest_broken d (fields_at d at) at r ≡ 0
  pub next : j.next.at ≡ at + 1

-- or it breaks one, and the lowest is told
pub record Told (d : List ℕ) (at : ℕ) (r : Round) (e : Refusal) : Type 0 where
  pub some : lowest_broken d (fields_at d at) at r ≡ 0 → ⊥
  pub is : e ≡ breaks_rule (lowest_broken d (fields_at d at) at r) at

abbrev pub JudgedAs : (d : List ℕ) → (at : ℕ) → Round → Result Read Refusal → Type 0
JudgedAs d at r (Ok j) = Kept d at r j
JudgedAs d at r (Err e) = Told d at r e

-- the levels that may still stand inside: 5 at the top, 4 in a TABLE's body, 0 inside four ARRAYs or IFs
pub record LevelsLeft (r : Round) (levels : ℕ) : Type 0 where
  pub left : r.tables + r.nests + levels ≡ 5
  pub round : Levels r

-- the first n items break no rule
abbrev pub Fine : List ℕ → (n : ℕ) → Type 0
Fine d n = (j : ℕ) → j < n → rule_broken d j ≡ 0

-- the items before k put r round each item from `at` up to its limit
abbrev pub Held : List ℕ → (k at : ℕ) → Round → Type 0
Held d k at r = (i : ℕ) → at ≤ i → i < r.limit → round d k i ≡ r

-- the items from a up to b put nothing round the items from b on
abbrev pub Quiet : List ℕ → (a b : ℕ) → Type 0
Quiet d a b = (i : ℕ) → b ≤ i → round d b i ≡ round d a i

-- before a body, or what is left of it, is checked
pub record Before (d : List ℕ) (at : ℕ) (slots : List ℕ) (r : Round) (levels : ℕ) : Type 0 where
  pub there : There d r.limit
  pub ordered : at ≤ r.limit
  pub levels_left : LevelsLeft r levels
  pub fine : Fine d at
  pub known : Known d at slots
  pub held : Held d at at r

-- before the bodies of an item f are checked, which stands before `at` with r round it
pub record Entered (d : List ℕ) (f : Fields) (at : ℕ) (slots : List ℕ) (r : Round) (levels : ℕ) : Type 0 where
  pub there : There d (at + f.first + f.second)
  pub deeper : (f.first + f.second ≡ 0 → ⊥) → (0 < levels) × ((e : ℕ) → LevelsLeft (inside f e r) (levels - 1))
  pub fine : Fine d at
  pub known : Known d at slots
  pub held_first : Held d at at (inside f (at + f.first) r)
  pub held_second : Held d at (at + f.first) (inside f (at + f.first + f.second) r)

-- the items from `from` up to `end` break no rule, and the check goes on at `end`
pub record Clear (d : List ℕ) (from end at : ℕ) (slots : List ℕ) : Type 0 where
  pub ends : at ≡ end
  pub fine : Fine d end
  pub known : Known d end slots
  pub quiet : Quiet d from end

-- item `at` is the first that breaks a rule, and that is told
pub record Broken (d : List ℕ) (e : Refusal) : Type 0 where
  pub at : ℕ
  pub rule : ℕ
  pub is : e ≡ breaks_rule rule at
  pub some : rule ≡ 0 → ⊥
  pub fine : Fine d at
  pub breaks : rule_broken d at ≡ rule
  pub there : at < item_count d

-- what a check of the items from `from` up to `end` gives
abbrev pub CheckedAs : (d : List ℕ) → (from end : ℕ) → Result Checked Refusal → Type 0
CheckedAs d from end (Ok x) = Clear d from end x.place.at x.slots
CheckedAs d from end (Err e) = Broken d e

-- what is left to check of a body that started at `from`
pub record Going (d : List ℕ) (from at : ℕ) (slots : List ℕ) (r : Round) (levels : ℕ) : Type 0 where
  pub now : Before d at slots r levels
  pub quiet : Quiet d from at

-- one turn: item `at` is judged and breaks no rule, and the slot that it sets is noted
pub record Turn (d : List ℕ) (from at : ℕ) (slots : List ℕ) (r : Round) (levels : ℕ) (j : Read) (later : List ℕ) : Type 0 where
  pub going : Going d from at slots r levels
  pub more : at < r.limit
  pub judged : Kept d at r j
  pub set : later ≡ noted slots j.fields
