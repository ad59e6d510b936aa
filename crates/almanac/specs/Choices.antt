-- WHAT IS CHOSEN: the season and the special schedule on a day, the switch at a minute, each told by the records of Table 54. Assumes nothing.
-- Wrong answers ruled out: a special schedule on the day after its date; a season whose record has no real date; a switch that isn't flagged for what is asked.
use Rattle.std.specs.Prelude.{ℕ, ◌+◌, ◌<◌, ◌≤◌, ◌≡◌, Bool, true, List, ◌∷◌, ◌++◌, None}
use Rattle.meaning.specs.Basics.{bits}
use Rattle.meaning.specs.declared.Quantity.{Quantity}
use Rattle.meaning.specs.declared.Triple.{Triple}
use Rattle.meaning.specs.Passed.{Exactly}
use Rattle.meaning.specs.Calendar.{latest, real_time, record_real, record_day, action, season_on, season_stands, special_on, counts, switch_minute, switch_entry}
use Rattle.almanac.specs.Latest.{◌among◌}
use Rattle.meaning.specs.Values.{entry}

-- the latest of the records that count, by day or minute; of equals, the later record
pub record LatestOf (Counts : Triple → Type 0) (when : Triple → ℕ) (rs : List Triple) (chosen : Triple) : Type 0 where
  pub before : List Triple
  pub after : List Triple
  pub all : rs ≡ before ++ chosen ∷ after
  pub counts : Counts chosen
  pub earlier : (r : Triple) → r among before → Counts r → when r ≤ when chosen
  pub later : (r : Triple) → r among after → Counts r → when r < when chosen

-- THE SEASON
-- a record that selects a season by that day: a real date not after it, an action from 3 to 18
pub record SelectsSeason (day : ℕ) (r : Triple) : Type 0 where
  pub real : record_real r ≡ true
  pub not_after : record_day r ≤ day
  pub from : 3 ≤ action r
  pub to : action r ≤ 18

-- season s is that of the latest date not after the day; of equal dates, the later record's
pub record SeasonChosen (day : ℕ) (dates : List Triple) (w s : ℕ) : Type 0 where
  pub chosen : Triple
  pub latest : LatestOf (SelectsSeason day) record_day dates chosen
  pub date : record_day chosen ≡ w
  pub season : action chosen ≡ s + 3

-- a season record with a real date stands at or before the day
pub record SeasonStands (day : ℕ) (dates : List Triple) : Type 0 where
  pub standing : Triple
  pub there : standing among dates
  pub selects : SelectsSeason day standing

pub record SeasonSays (day : ℕ) (dates : List Triple) : Type 0 where
  pub chosen : (w s : ℕ) → Exactly (season_on day dates ≡ entry w s) (SeasonChosen day dates w s)
  pub none : Exactly (season_on day dates ≡ None) ((r : Triple) → r among dates → SelectsSeason day r → ⊥)
  pub range : (w s : ℕ) → season_on day dates ≡ entry w s → (w ≤ day) × (s ≤ 15)
  pub stands : Exactly (season_stands day dates ≡ true) (SeasonStands day dates)

-- THE SPECIAL SCHEDULE
-- a record that selects a special schedule for that day: that very date, an action from 19 to 30
pub record SelectsSpecial (day : ℕ) (r : Triple) : Type 0 where
  pub real : record_real r ≡ true
  pub own_date : record_day r ≡ day
  pub from : 19 ≤ action r
  pub to : action r ≤ 30

-- special schedule k is the last record's for that date
pub record SpecialChosen (day : ℕ) (dates : List Triple) (w k : ℕ) : Type 0 where
  pub before : List Triple
  pub chosen : Triple
  pub after : List Triple
  pub all : dates ≡ before ++ chosen ∷ after
  pub selects : SelectsSpecial day chosen
  pub date : w ≡ day
  pub schedule : action chosen ≡ k + 19
  pub last : (r : Triple) → r among after → SelectsSpecial day r → ⊥

pub record SpecialSays (day : ℕ) (dates : List Triple) : Type 0 where
  pub chosen : (w k : ℕ) → Exactly (special_on day dates ≡ entry w k) (SpecialChosen day dates w k)
  pub none : Exactly (special_on day dates ≡ None) ((r : Triple) → r among dates → SelectsSpecial day r → ⊥)
  pub range : (w k : ℕ) → special_on day dates ≡ entry w k → k ≤ 11

-- THE SWITCH
-- a switch of schedule n at or before minute m, with an hour up to 23 and a minute up to 59, that counts for what is asked
pub record Switches (separate : Bool) (q : Quantity) (n m : ℕ) (r : Triple) : Type 0 where
  pub number : r.octet ≡ n
  pub real : real_time (bits 15 11 r.word) (bits 10 5 r.word) ≡ true
  pub not_after : switch_minute r.word ≤ m
  pub counts : counts separate q r.word ≡ true

-- tier x is that of the latest such switch; of equal times, the later record's
pub record SwitchChosen (separate : Bool) (q : Quantity) (n m : ℕ) (switches : List Triple) (w x : ℕ) : Type 0 where
  pub chosen : Triple
  pub latest : LatestOf (Switches separate q n m) (λ r. switch_minute r.word) switches chosen
  pub time : switch_minute chosen.word ≡ w
  pub tier : bits 2 0 chosen.word ≡ x

pub record SwitchSays (separate : Bool) (q : Quantity) (n m : ℕ) (switches : List Triple) : Type 0 where
  pub chosen : (w x : ℕ) → Exactly (latest (switch_entry separate q n m) switches ≡ entry w x) (SwitchChosen separate q n m switches w x)
  pub none : Exactly (latest (switch_entry separate q n m) switches ≡ None) ((r : Triple) → r among switches → Switches separate q n m r → ⊥)
  pub range : (w x : ℕ) → latest (switch_entry separate q n m) switches ≡ entry w x → (w ≤ m) × (x ≤ 7)
