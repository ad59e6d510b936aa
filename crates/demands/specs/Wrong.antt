-- WRONG PROGRAMS, each with the clause that it breaks: those that document 01 lists where it says how full a statement it expects, and some more. A wrong program is any family of
-- replies or of messages that does what is said of it, on whatever description or image; the clause that refutes it is said of the example D and its first image, with what the
-- clause leans on; of weekdays, which need no description and no image, it is the whole of `WeekdaysSay` and nothing besides. proofs/Wrong.antt proves 1 to 13,
-- proofs/WrongMessages.antt 14 to 18, proofs/WrongWeekdays.antt 19 to 22, proofs/WrongCauses.antt 23 to 27. Assumes nothing.
use Rattle.std.specs.Prelude.{ℕ, ◌+◌, ◌-◌, ◌*◌, ◌/◌, ◌%◌, ◌<◌, ◌≡◌, List, [], ◌∷◌, length, get_or, Ok, Err}
use Rattle.offsets.specs.declared.TableOffset.{TableOffset}
use Rattle.meaning.specs.declared.Date.{Date}
use Rattle.meaning.specs.declared.ElementName.{ElementName}
use Rattle.meaning.specs.declared.Moment.{Moment}
use Rattle.meaning.specs.declared.Quantity.{Quantity}
use Rattle.meaning.specs.Careful.{with_subscripts, maze, two_by_two, none_outside}
use Rattle.meaning.specs.Examples.{D, D_writable, first, plain, at, offset, clock, clock_image, moment, date}
use Rattle.meaning.specs.Messages.{full_write, sum_of}
use Rattle.meaning.specs.Numbers.{not_a_date, branch_not_chosen, subscript_count, subscript_too_large}
use Rattle.meaning.specs.Layout.{data_order}
use Rattle.meaning.specs.Refusals.{table_part_reply}
use Rattle.almanac.specs.Days.{IsReal}
use Rattle.demands.specs.Calendar.{TierSays, SeasonedSays, WeekdaysSay}
use Rattle.demands.specs.Demand2.{Reads, RangeWrites, OctetsWrites, NumberWrites}
use Rattle.demands.specs.Demand3.{PassedExactly, Passed, TotalExactly, ElementsStand}
use Rattle.demands.specs.Bench.{Messages}
use Rattle.demands.specs.Messages.{ReadsRequest, WritesRequest, Serves}
use Rattle.demands.specs.Replies.{Replies, ours, octets_at, alone}
use Rattle.meaning.specs.Values.{Reply, passed}
use Rattle.meaning.specs.declared.Answer.{Answer}

-- a calendar of two seasons: from 1 January 2024 on season 1. Every day of season 0 has schedule 1, tier 0; every day of season 1 schedule 2, tier 2
abbrev pub two_seasons : List ℕ
two_seasons =
    0x00
    ∷ 0x00 ∷ 0x00 ∷ 0x02 ∷ 0x01 ∷ 0x00 ∷ 0x02 ∷ 0x00 ∷ 0x00 ∷ 0x00
    ∷ 0x98 ∷ 0x08 ∷ 0x04 ∷ 0x00 ∷ 0x00 ∷ 0x01 ∷ 0x02 ∷ 0x00 ∷ 0x02 ∷ 0x01 ∷ 0x01 ∷ 0x01 ∷ 0x02 ∷ 0x02 ∷ 0x02 ∷ []

module _ (R : Replies) where
  -- D is passed, and then the clause on totals holds over every image
  pub record TotalsOfD : Type 0 where
    pub passes : R.check D ≡ passed
    pub exactly : (img : List ℕ) → Passed R D img → TotalExactly R D img

  -- 1. A TEST THAT SAYS NO TO EVERYTHING breaks "a description is passed exactly when it meets the rules"
  pub record SaysNo : Type 0 where
    pub no : (d : List ℕ) → R.check d ≡ passed → ⊥

  -- 2. ONE LAYOUT FOR ALL IMAGES breaks "the total is the end of the last piece"
  pub record OneLayout : Type 0 where
    pub same : (d img later : List ℕ) → R.layout d img ≡ R.layout d later

  -- 3. A TOTAL NOT WALKED, told by the image's length, breaks the same
  pub record NotWalked : Type 0 where
    pub total : (d : List ℕ) → ℕ → Reply
    pub told : (d img : List ℕ) → R.layout d img ≡ total d (length img)

  -- 4. A WRITE THAT DOES NOTHING, and says that it was accepted, breaks "afterwards reading that place gives what was written"
  pub record NeverWrites : Type 0 where
    pub range : (d img : List ℕ) (m k : ℕ) (o : TableOffset) (new : List ℕ) → R.range_image d img m k o new ≡ img
    pub octets : (d img : List ℕ) (q : ElementName) (new : List ℕ) → R.octets_image d img q new ≡ img
    pub number : (d img : List ℕ) (q : ElementName) (x : ℕ) → R.number_image d img q x ≡ img

  -- 5. THE FIRST TABLE LAID AND THE REST PADDED, so that no item after the first table's has an element, breaks "each name that there is has an element"
  pub record Padded : Type 0 where
    pub rest : (q : ElementName) → 2 < q.item → (p n : ℕ) → R.element_place D first q ≡ octets_at p n → ⊥

  -- 6. AN ELEMENT STRETCHED OVER ITS NEIGHBOURS' OCTETS, here the block of Table 5 over the whole table, breaks its length
  pub record Stretched : Type 0 where
    pub place : R.element_place D first (alone 5) ≡ octets_at 2 6

  -- 7. NO SUCH ELEMENT, WHATEVER IS ASKED, breaks what 5 does
  pub record NeverThere : Type 0 where
    pub none : (d img : List ℕ) (q : ElementName) (p n : ℕ) → R.element_place d img q ≡ octets_at p n → ⊥

  -- 8. A TIER THAT IS ALWAYS 0 breaks "tier x is that of the latest switch"
  pub record AlwaysZero : Type 0 where
    pub zero : (d img : List ℕ) (w : Moment) (q : Quantity) (x : ℕ) → R.tier d img w q ≡ Ok (Answer.Tier x) → x ≡ 0

  -- the tables' octets are those of a calendar, which can be had
  pub record CalendarRead (d img : List ℕ) : Type 0 where
    pub table51 : R.table_part d img 0 51 ≡ table_part_reply d img 0 51
    pub table54 : R.table_part d img 0 54 ≡ table_part_reply d img 0 54
    pub had : R.matrix_verdict d img ≡ passed
    pub tier : (w : Moment) (q : Quantity)
        → TierSays (data_order img) (R.table_part d img 0 51) (R.table_part d img 0 54) (R.matrix_verdict d img) w q (R.tier d img w q)
    pub seasoned : (t : Date)
        → SeasonedSays (data_order img) (R.table_part d img 0 51) (R.table_part d img 0 54) (R.matrix_verdict d img) t (R.seasoned d img t)

  -- 9. A WRITE THAT ASKS ONLY WHETHER THE TABLE IS WRITABLE, here Table 00 at its dimension of item 2, breaks "no dimension octet is touched"
  pub record WritesDimensions : Type 0 where
    pub accepted : R.write_range D_writable first 0 0 (offset 1) (0 ∷ []) ≡ passed

  -- 10. THE EARLIEST RECORD'S SEASON on a day before every season record breaks "season 0 where no season record stands at or before the day"
  pub record TakesEarliest : Type 0 where
    pub tier : (q : Quantity) → R.tier (clock 15) two_seasons (moment 2023 12 31 0 0) q ≡ Ok (Answer.Tier 2)

  -- 11. THE FIRST ROW OF THE MATRIX, WHATEVER THE SEASON, breaks "the season is that of the record chosen by that day"
  pub record FirstRow : Type 0 where
    pub tier : (q : Quantity) → R.tier (clock 15) two_seasons (moment 2024 1 1 0 0) q ≡ Ok (Answer.Tier 0)

  -- 12. A RECORD THAT STANDS ONLY FROM THE DAY AFTER ITS DATE breaks "yes exactly where one stands at or before the date"
  pub record FromTheNextDay : Type 0 where
    pub none : R.seasoned (clock 12) clock_image (date 2024 1 1) ≡ Ok Answer.No

  -- 13. NEVER A NO breaks "no exactly where none stands"
  pub record NeverNo : Type 0 where
    pub yes : (d img : List ℕ) (t : Date) → R.seasoned d img t ≡ Ok Answer.No → ⊥

-- ALL OF THEM
pub record WrongPrograms (R : Replies) : Type 0 where
  pub says_no : SaysNo R → PassedExactly R D → ⊥
  pub one_layout : OneLayout R → TotalsOfD R → ⊥
  pub not_walked : NotWalked R → TotalsOfD R → ⊥
  pub writes_no_range : NeverWrites R → R.write_range D first 0 5 (offset 0) (1 ∷ 2 ∷ []) ≡ passed → R.table_place D first 0 5 ≡ octets_at 2 6
      → Reads R D first → RangeWrites R D first 0 5 (offset 0) (1 ∷ 2 ∷ []) → ⊥
  pub writes_no_octets : NeverWrites R → R.write_octets D first (alone 5) (1 ∷ 2 ∷ []) ≡ passed → R.element_place D first (alone 5) ≡ octets_at 2 2
      → Reads R D first → OctetsWrites R D first (alone 5) (1 ∷ 2 ∷ []) → ⊥
  pub writes_no_number : NeverWrites R → R.write_number D first (at 7 0) 1 ≡ passed → R.element_place D first (at 7 0) ≡ octets_at 4 2
      → Reads R D first → NumberWrites R D first (at 7 0) 1 → ⊥
  pub padded : Padded R → ElementsStand R D first 8 → ⊥
  pub stretched : Stretched R → ElementsStand R D first 8 → ⊥
  pub never_there : NeverThere R → ElementsStand R D first 8 → ⊥
  pub always_zero : AlwaysZero R → CalendarRead R (clock 12) clock_image → ⊥
  pub writes_dimensions : WritesDimensions R → R.table_place D_writable first 0 0 ≡ octets_at 0 2 → R.element_place D_writable first (alone 2) ≡ octets_at 1 1
      → RangeWrites R D_writable first 0 0 (offset 1) (0 ∷ []) → ⊥
  pub takes_earliest : TakesEarliest R → CalendarRead R (clock 15) two_seasons → ⊥
  pub first_row : FirstRow R → CalendarRead R (clock 15) two_seasons → ⊥
  pub from_the_next_day : FromTheNextDay R → CalendarRead R (clock 12) clock_image → ⊥
  pub never_no : NeverNo R → CalendarRead R (clock 12) clock_image → ⊥

-- MESSAGES. Requests of D: full reads of ids 5 and 2,053; one octet written to Table 5; a full write of one octet to Table 00, which has two and isn't writable
abbrev pub read_5 : List ℕ
read_5 = 0x30 ∷ 0x00 ∷ 0x05 ∷ []

abbrev pub read_2053 : List ℕ
read_2053 = 0x30 ∷ 0x08 ∷ 0x05 ∷ []

abbrev pub write_5 : List ℕ
write_5 = 0x4F ∷ 0x00 ∷ 0x05 ∷ 0x00 ∷ 0x00 ∷ 0x00 ∷ 0x00 ∷ 0x01 ∷ 0x07 ∷ 0xF9 ∷ []

abbrev pub write_0 : List ℕ
write_0 = 0x40 ∷ 0x00 ∷ 0x00 ∷ 0x00 ∷ 0x01 ∷ 0x07 ∷ 0xF9 ∷ []

-- room for ten octets
abbrev pub ten_zeros : List ℕ
ten_zeros = 0 ∷ 0 ∷ 0 ∷ 0 ∷ 0 ∷ 0 ∷ 0 ∷ 0 ∷ 0 ∷ 0 ∷ []

module _ (M : Messages) where
  -- octets read and served over D and its first image, by our tables' replies
  pub record OverD (xs room : List ℕ) : Type 0 where
    pub read : ReadsRequest M xs
    pub served : Serves M ours D first xs room

  -- 14. A CHECK OCTET OVER COUNT AND DATA, so that all of these make a multiple of 256, breaks "the sum of the data octets"
  pub record ChecksCount : Type 0 where
    pub octet : (id : ℕ) (new room : List ℕ) (n : ℕ) → M.write_request (full_write id new) room ≡ Ok (Answer.Total n)
        → let later = M.request_room (full_write id new) room in (get_or later 3 0 + get_or later 4 0 + sum_of new + get_or later (5 + length new) 0) % 256 ≡ 0

  -- 15. A CHECK OCTET THAT IS THE SUM ITSELF breaks "is its two's complement"
  pub record NotNegated : Type 0 where
    pub octet : (id : ℕ) (new room : List ℕ) (n : ℕ) → M.write_request (full_write id new) room ≡ Ok (Answer.Total n)
        → get_or (M.request_room (full_write id new) room) (5 + length new) 0 ≡ sum_of new % 256

  -- 16. AN ID TAKEN MODULO 2,048, here 2,053 for 5, breaks "a manufacturer table's id is its number plus 2,048"
  pub record Modulo : Type 0 where
    pub same : (d img room : List ℕ) → M.serve d img read_2053 room ≡ M.serve d img read_5 room

  -- 17. A WRITE MADE ALTHOUGH ITS REPLY DOESN'T FIT, so that the room has no part in it, breaks "before any write is done"
  pub record WritesAnyway : Type 0 where
    pub same : (d img xs room : List ℕ) → M.served_image d img xs [] ≡ M.served_image d img xs room

  -- 18. 13 TOLD BEFORE A FULL WRITE'S 12 breaks the order of refusals
  pub record ThirteenFirst : Type 0 where
    pub told : M.served_room D first write_0 (0 ∷ []) ≡ 0x03 ∷ []

-- ALL OF THEM
pub record WrongMessages (M : Messages) : Type 0 where
  pub checks_count : ChecksCount M → WritesRequest M (full_write 5 (7 ∷ [])) ten_zeros → ⊥
  pub not_negated : NotNegated M → WritesRequest M (full_write 5 (7 ∷ [])) ten_zeros → ⊥
  pub modulo : Modulo M → OverD M read_5 ten_zeros → OverD M read_2053 ten_zeros → ⊥
  pub writes_anyway : WritesAnyway M → OverD M write_5 [] → OverD M write_5 (0 ∷ []) → ⊥
  pub thirteen_first : ThirteenFirst M → OverD M write_0 (0 ∷ []) → ⊥

-- WEEKDAYS. Worked out directly with the months counted from March, where January and February stand last in the year and the year isn't taken one earlier for them: right from March to
-- December, Monday on 1 January 2000
abbrev pub from_march : Date → ℕ
from_march t =
    (365 * t.year + t.year / 4 - t.year / 100 + t.year / 400 + (153 * ((t.month + 9) % 12) + 2) / 5 + (t.day - 1) + 3) % 7

module _ (R : Replies) where
  -- 19. MONTHS COUNTED FROM MARCH WITHOUT THE SHIFT OF THE YEAR breaks "1 January 2000 was a Saturday"
  pub record Unshifted : Type 0 where
    pub told : (t : Date) → IsReal t → R.weekday t ≡ Ok (Answer.Weekday (from_march t))

  -- 20. ONE OFF AFTER FEBRUARY, where a leap year's 29 February has no day of its own, breaks "the day after has the weekday after"
  pub record OneOff : Type 0 where
    pub same : R.weekday (date 2024 3 1) ≡ R.weekday (date 2024 2 29)

  -- 21. 2000 TAKEN FOR A COMMON YEAR breaks "one of the seven" on every real date
  pub record CommonYear : Type 0 where
    pub unreal : R.weekday (date 2000 2 29) ≡ Err not_a_date

  -- 22. A WEEK THAT STARTS WITH MONDAY AS 0, so that Sunday is 6, breaks what 19 does
  pub record MondayFirst : Type 0 where
    pub five : R.weekday (date 2000 1 1) ≡ Ok (Answer.Weekday 5)

-- ALL OF THEM
pub record WrongWeekdays (R : Replies) : Type 0 where
  pub unshifted : Unshifted R → WeekdaysSay R.weekday → ⊥
  pub one_off : OneOff R → WeekdaysSay R.weekday → ⊥
  pub common_year : CommonYear R → WeekdaysSay R.weekday → ⊥
  pub monday_first : MondayFirst R → WeekdaysSay R.weekday → ⊥

-- CAUSES of "no such element", in the maze of crate meaning, specs/Careful: item 8 is a BLOCK inside two arrays, item 7 a number beside it; item 10 stands in the branch not chosen
module _ (R : Replies) where
  -- 23. 24 BEFORE 26, where a number is asked of a BLOCK with no subscripts, breaks "the first cause in its order is told"
  pub record CountFirst : Type 0 where
    pub told : R.element_number maze two_by_two (plain 8) ≡ Err subscript_count

  -- 24. AN INNER SUBSCRIPT TOLD WHERE AN OUTER BRANCH ISN'T CHOSEN breaks "none outside it is in the way"
  pub record InnerFirst : Type 0 where
    pub told : R.element_place maze two_by_two (with_subscripts 10 2 1 9) ≡ Err (subscript_too_large 1)

  -- 25. A DEPTH COUNTED FROM THE INSIDE, here of the outer array, breaks "its depth is how many ARRAYs stand outside"
  pub record FromInside : Type 0 where
    pub told : R.element_place maze two_by_two (with_subscripts 7 2 2 0) ≡ Err (subscript_too_large 1)

  -- 26. A DEPTH THAT COUNTS CHOICES, here of the inner array, which stands in a choice, breaks the same
  pub record CountsChoices : Type 0 where
    pub told : R.element_place maze two_by_two (with_subscripts 7 2 0 2) ≡ Err (subscript_too_large 2)

  -- 27. 23 FOR AN ARRAY OF COUNT 0 breaks "23 is told of a branch"
  pub record EmptyUnchosen : Type 0 where
    pub told : R.element_place maze none_outside (with_subscripts 7 2 0 0) ≡ Err branch_not_chosen

-- ALL OF THEM
pub record WrongCauses (R : Replies) : Type 0 where
  pub count_first : CountFirst R → ElementsStand R maze two_by_two 10 → ⊥
  pub inner_first : InnerFirst R → ElementsStand R maze two_by_two 10 → ⊥
  pub from_inside : FromInside R → ElementsStand R maze two_by_two 10 → ⊥
  pub counts_choices : CountsChoices R → ElementsStand R maze two_by_two 10 → ⊥
  pub empty_unchosen : EmptyUnchosen R → ElementsStand R maze none_outside 2 → ⊥
