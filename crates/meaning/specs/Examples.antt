-- EXAMPLES TO HOLD THE RULES AGAINST: the starred ones of document 01 as one statement, over the replies of the other files, in the
-- document's numbers. proofs/Examples.antt proves it.
use Rattle.std.specs.Prelude.{ℕ, ◌+◌, ◌*◌, ◌≡◌, List, [], ◌∷◌}
use Rattle.offsets.specs.declared.TableOffset.{TableOffset}
use Rattle.meaning.specs.declared.Date.{Date}
use Rattle.meaning.specs.declared.ElementName.{ElementName}
use Rattle.meaning.specs.declared.Moment.{Moment}
use Rattle.meaning.specs.declared.Quantity.{Quantity}
use Rattle.meaning.specs.Basics.{bits}
use Rattle.meaning.specs.Description.{check_reply}
use Rattle.meaning.specs.Refusals.{numbers_of, verdict_reply, place_reply, layout_reply, table_place_reply, element_place_reply, element_number_reply, write_range_reply, write_range_image}
use Rattle.meaning.specs.Calendar.{tier_reply}

-- the octets of items, each given as its word: first octet most significant
abbrev pub items : List ℕ → List ℕ
items [] = []
items (w ∷ ws) = bits 31 24 w ∷ bits 23 16 w ∷ bits 15 8 w ∷ bits 7 0 w ∷ items ws

abbrev pub D : List ℕ
D = items (0x10000002 ∷ 0x20100000 ∷ 0x20200000 ∷ 0x10058004 ∷ 0x608E0040 ∷ 0x30020000 ∷ 0x50802001 ∷ 0x24000000 ∷ [])

-- D with table 0 writable: item 0 is 10008002
abbrev pub D_writable : List ℕ
D_writable = items (0x10008002 ∷ 0x20100000 ∷ 0x20200000 ∷ 0x10058004 ∷ 0x608E0040 ∷ 0x30020000 ∷ 0x50802001 ∷ 0x24000000 ∷ [])

-- D with item 4 replaced by 61000040: slot 4, never set
abbrev pub D_unset : List ℕ
D_unset = items (0x10000002 ∷ 0x20100000 ∷ 0x20200000 ∷ 0x10058004 ∷ 0x61000040 ∷ 0x30020000 ∷ 0x50802001 ∷ 0x24000000 ∷ [])

-- the first image, and the first cut to 7; the second
abbrev pub first : List ℕ
first = 0x00 ∷ 0x82 ∷ 0xAA ∷ 0xBB ∷ 0x34 ∷ 0x12 ∷ 0x78 ∷ 0x56 ∷ []

abbrev pub first_cut : List ℕ
first_cut = 0x00 ∷ 0x82 ∷ 0xAA ∷ 0xBB ∷ 0x34 ∷ 0x12 ∷ 0x78 ∷ []

abbrev pub second : List ℕ
second = 0x01 ∷ 0x02 ∷ 0x34 ∷ 0x12 ∷ 0x78 ∷ 0x56 ∷ []

-- item i with no subscript, with one
abbrev pub plain : ℕ → ElementName
plain i = record { item = i; count = 0; subscripts = 0 ∷ 0 ∷ 0 ∷ 0 ∷ [] }

abbrev pub at : ℕ → ℕ → ElementName
at i s = record { item = i; count = 1; subscripts = s ∷ 0 ∷ 0 ∷ 0 ∷ [] }

-- an offset in a table
abbrev pub offset : ℕ → TableOffset
offset n = record { 0 = n }

-- an answer's numbers: not refused, with these values; refused with a number, item and octet, values 0; a subscript too large, with its depth
abbrev pub gives : List ℕ → List ℕ
gives values = 0 ∷ 0 ∷ 0 ∷ 0 ∷ values

abbrev pub refusal : (number item octet : ℕ) → List ℕ → List ℕ
refusal n i p values = n ∷ i ∷ p ∷ 0 ∷ values

abbrev pub too_large : (depth : ℕ) → List ℕ → List ℕ
too_large k values = 25 ∷ 0 ∷ 0 ∷ k ∷ values

-- a meter whose Table 51 is a block of 9 octets and whose Table 54 is one of n
abbrev pub clock : (n : ℕ) → List ℕ
clock n = items (0x10000001 ∷ 0x20100000 ∷ 0x10330001 ∷ 0x30090000 ∷ 0x10360001 ∷ (0x30000000 + n * 0x10000) ∷ [])

-- DATA_ORDER 0; Table 51 with S 1, N 1, T 2, P and R 0, no flags; Table 54 holding 98 08 03 00 00 01 C2 3B 01 01 01 01
abbrev pub clock_image : List ℕ
clock_image =
    0x00
    ∷ 0x00 ∷ 0x00 ∷ 0x01 ∷ 0x01 ∷ 0x00 ∷ 0x02 ∷ 0x00 ∷ 0x00 ∷ 0x00
    ∷ 0x98 ∷ 0x08 ∷ 0x03 ∷ 0x00 ∷ 0x00 ∷ 0x01 ∷ 0xC2 ∷ 0x3B ∷ 0x01 ∷ 0x01 ∷ 0x01 ∷ 0x01 ∷ []

abbrev pub moment : (year month day hour minute : ℕ) → Moment
moment y mo d h mi = record { year = y; month = mo; day = d; hour = h; minute = mi }

abbrev pub date : (year month day : ℕ) → Date
date y m d = record { year = y; month = m; day = d }

pub record Starred : Type 0 where
  -- D with 00 82 AA BB 34 12 78 56: total 8; table 5 at 2, 6 long; item 7 subscript 1 is 5678 hex
  pub first_total : numbers_of 5 (layout_reply D first) ≡ gives (8 ∷ [])
  pub first_table : numbers_of 6 (place_reply (table_place_reply D first 0 5)) ≡ gives (2 ∷ 6 ∷ [])
  pub first_number : numbers_of 5 (element_number_reply D first (at 7 1)) ≡ gives (0x5678 ∷ [])
  -- D with 01 02 34 12 78 56: total 6; item 7 subscript 0 is 3412 hex; item 5 gives 23 (document 02, E4)
  pub second_total : numbers_of 5 (layout_reply D second) ≡ gives (6 ∷ [])
  pub second_number : numbers_of 5 (element_number_reply D second (at 7 0)) ≡ gives (0x3412 ∷ [])
  pub second_none : numbers_of 6 (place_reply (element_place_reply D second (plain 5))) ≡ refusal 23 0 0 (0 ∷ 0 ∷ [])
  -- D with the first image cut to 7: refusal 9, item 6, octet 4
  pub cut_short : numbers_of 5 (layout_reply D first_cut) ≡ refusal 9 6 4 (0 ∷ [])
  -- D with 00 00: total 2; table 5 has size 0; any subscript of item 7 gives 25, at depth 0 (document 02, E4)
  pub bare_total : numbers_of 5 (layout_reply D (0 ∷ 0 ∷ [])) ≡ gives (2 ∷ [])
  pub bare_table : numbers_of 6 (place_reply (table_place_reply D (0 ∷ 0 ∷ []) 0 5)) ≡ gives (2 ∷ 0 ∷ [])
  pub bare_none : (s : ℕ) → numbers_of 6 (place_reply (element_place_reply D (0 ∷ 0 ∷ []) (at 7 s))) ≡ too_large 0 (0 ∷ 0 ∷ [])
  -- D, empty image: 9, item 1, octet 0
  pub empty_short : numbers_of 5 (layout_reply D []) ≡ refusal 9 1 0 (0 ∷ [])
  -- first image: write of 1 octet at offset 1 of table 0 gives 13; with that table writable, 14
  pub unwritable : (x : ℕ) → numbers_of 4 (verdict_reply (write_range_reply D first 0 0 (offset 1) (x ∷ []))) ≡ refusal 13 0 0 []
  pub dimension : (x : ℕ) → numbers_of 4 (verdict_reply (write_range_reply D_writable first 0 0 (offset 1) (x ∷ []))) ≡ refusal 14 0 0 []
  -- first image: write at offset 6, length 0, of table 5 is accepted; offset 6, length 1, gives 12
  pub none_written : numbers_of 4 (verdict_reply (write_range_reply D first 0 5 (offset 6) [])) ≡ gives []
  pub none_changed : write_range_image D first 0 5 (offset 6) [] ≡ first
  pub past_table : (x : ℕ) → numbers_of 4 (verdict_reply (write_range_reply D first 0 5 (offset 6) (x ∷ []))) ≡ refusal 12 0 0 []
  -- D with item 4 replaced by 61000040 (slot 4, never set): 7 at item 4
  pub unset : numbers_of 4 (verdict_reply (check_reply D_unset)) ≡ refusal 7 4 0 []
  -- Table 54 holding the twelve octets: 5 March 2024 07:30 gives tier 2, 07:29 tier 0; 31 December 2023, before the first season record, tier 0 at 00:00 (document 02, E1).
  -- The first value is 1 for "none yet today"
  pub half_past : (q : Quantity) → numbers_of 6 (tier_reply (clock 12) clock_image (moment 2024 3 5 7 30) q) ≡ gives (0 ∷ 2 ∷ [])
  pub minute_less : (q : Quantity) → numbers_of 6 (tier_reply (clock 12) clock_image (moment 2024 3 5 7 29) q) ≡ gives (0 ∷ 0 ∷ [])
  pub before_first : (q : Quantity) → numbers_of 6 (tier_reply (clock 12) clock_image (moment 2023 12 31 0 0) q) ≡ gives (0 ∷ 0 ∷ [])
