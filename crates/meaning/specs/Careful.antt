-- What is easy to get wrong, and what the starred examples don't reach, worked by hand: five statements, proved in proofs/Careful.antt.
-- With the starred one they notice a changed operand nearly anywhere in the definitions.
use Rattle.std.specs.Prelude.{ℕ, ◌≡◌, true, false, List, [], ◌∷◌, ◌++◌, get_or, replicate, length, drop}
use Rattle.std.proofs.Math.Option.{some, none}
use Rattle.meaning.specs.declared.ElementName.{ElementName}
use Rattle.meaning.specs.declared.Quantity.{Quantity}
use Rattle.meaning.specs.Description.{check_reply}
use Rattle.meaning.specs.Refusals.{numbers_of, verdict_reply, place_reply, layout_reply, table_place_reply, element_place_reply, element_number_reply, table_part_reply, element_part_reply, read_range_reply, read_range_part, write_range_reply, write_range_image, write_octets_reply, write_octets_image, write_number_reply, write_number_image}
use Rattle.meaning.specs.Calendar.{leap, tier_reply, seasoned_reply, weekday_reply, matrix_reply, matrix_verdict, weekday_of, day_number}
use Rattle.meaning.specs.Messages.{Request, full_read, offset_read, full_write, offset_write, is_request, not_request, MeterReply, holds, done, refuses}
use Rattle.meaning.specs.Messages.{check_octet, request_octets, request_fits, request_in, requested_by, request_told, reply_octets, reply_fits, reply_in, heard_by, reply_told}
use Rattle.meaning.specs.Messages.{write_request_reply, write_request_room, write_reply_reply, write_reply_room, request_of, request_sent, reply_of, reply_sent, serve_reply, serve_room, serve_image}
use Rattle.meaning.specs.Examples.{items, D, D_writable, D_unset, first, first_cut, plain, at, offset, gives, refusal, too_large, clock, clock_image, moment, date}

-- THE RULES
abbrev pub broken : (rule item : ℕ) → List ℕ
broken n i = refusal n i 0 []

-- the verdict on a description given by its words
abbrev pub judged : List ℕ → List ℕ
judged ws = numbers_of 4 (verdict_reply (check_reply (items ws)))

-- table 00 of n items, of which the first is DATA_ORDER, in slot 1
abbrev pub begun : (item0 : ℕ) → List ℕ → List ℕ
begun w rest = w ∷ 0x20100000 ∷ rest

pub record RulesCareful : Type 0 where
  -- 1: length 0; not a multiple of 4
  pub no_length : numbers_of 4 (verdict_reply (check_reply [])) ≡ refusal 1 0 0 []
  pub odd_length : numbers_of 4 (verdict_reply (check_reply (0x10 ∷ 0 ∷ 0 ∷ 0 ∷ 0 ∷ []))) ≡ refusal 1 0 0 []
  -- 2: kind unknown; width code 3; a spare bit of a UINT, a BLOCK, a SET; a BLOCK of no octets; a count or slot below its least. Also on item 0
  pub kind_0 : judged (0 ∷ []) ≡ broken 2 0
  pub kind_7 : judged (begun 0x10000002 (0x70400001 ∷ [])) ≡ broken 2 2
  pub code_3 : judged (0x10000001 ∷ 0x2C100000 ∷ []) ≡ broken 2 1
  pub uint_spare_19 : judged (begun 0x10000002 (0x20080000 ∷ [])) ≡ broken 2 2
  pub uint_spare_0 : judged (begun 0x10000002 (0x20000001 ∷ [])) ≡ broken 2 2
  pub block_spare_15 : judged (begun 0x10000002 (0x30018000 ∷ [])) ≡ broken 2 2
  pub block_spare_0 : judged (begun 0x10000002 (0x30010001 ∷ [])) ≡ broken 2 2
  pub set_spare_10 : judged (begun 0x10000002 (0x40400400 ∷ [])) ≡ broken 2 2
  pub set_spare_0 : judged (begun 0x10000002 (0x40400001 ∷ [])) ≡ broken 2 2
  pub block_none : judged (begun 0x10000002 (0x30000000 ∷ [])) ≡ broken 2 2
  pub set_slot_lem : judged (begun 0x10000002 (0x40000000 ∷ [])) ≡ broken 2 2
  pub array_slot : judged (begun 0x10000003 (0x50000001 ∷ 0x30010000 ∷ [])) ≡ broken 2 2
  pub if_slot : judged (begun 0x10000003 (0x60000040 ∷ 0x30010000 ∷ [])) ≡ broken 2 2
  pub array_none : judged (begun 0x10000003 (0x50401000 ∷ 0x30010000 ∷ [])) ≡ broken 2 2
  pub if_none : judged (begun 0x10000003 (0x60401001 ∷ 0x30010000 ∷ [])) ≡ broken 2 2
  -- 3: item 0 with no body, of a manufacturer, of another number; item 1 of two octets, without a slot, of another kind
  pub bodiless : judged (0x10000000 ∷ []) ≡ broken 3 0
  pub item_0_manufacturer : judged (begun 0x18000001 []) ≡ broken 3 0
  pub item_0_number : judged (begun 0x10010001 []) ≡ broken 3 0
  pub item_1_octets : judged (0x10000001 ∷ 0x24100000 ∷ []) ≡ broken 3 1
  pub item_1_slotless : judged (0x10000001 ∷ 0x20000000 ∷ []) ≡ broken 3 1
  pub item_1_block : judged (0x10000001 ∷ 0x30010000 ∷ []) ≡ broken 3 1
  -- 3: no TABLE at the top level, a TABLE in a body, a dimension in an IF and in an ARRAY
  pub top_block : judged (begun 0x10000001 (0x30010000 ∷ [])) ≡ broken 3 2
  pub inner_table : judged (begun 0x10000002 (0x10010000 ∷ [])) ≡ broken 3 2
  pub dimension_in_if : judged (begun 0x10000003 (0x60400040 ∷ 0x20200000 ∷ [])) ≡ broken 3 3
  pub dimension_in_array : judged (begun 0x10000003 (0x50400001 ∷ 0x20200000 ∷ [])) ≡ broken 3 3
  -- 4: a TABLE over the description, an ARRAY over its table, an IF's false items over it, a true item that reaches into the false ones
  pub table_over : judged (0x10000001 ∷ []) ≡ broken 4 0
  pub array_over : judged (begun 0x10000002 (0x50400001 ∷ 0x10010000 ∷ [])) ≡ broken 4 2
  pub if_over : judged (begun 0x10000003 (0x60400041 ∷ 0x30010000 ∷ 0x10010000 ∷ [])) ≡ broken 4 2
  pub into_false : judged (begun 0x10000004 (0x60400041 ∷ 0x50400001 ∷ 0x30010000 ∷ [])) ≡ broken 4 3
  pub false_over : judged (begun 0x10000005 (0x60400041 ∷ 0x30010000 ∷ 0x50400001 ∷ 0x30010000 ∷ [])) ≡ broken 4 4
  -- 5: four levels pass, the fifth is reported; one that overruns as well is 4
  pub four : judged (begun 0x10000006 (0x60401100 ∷ 0x50400003 ∷ 0x60400080 ∷ 0x50400001 ∷ 0x40400000 ∷ [])) ≡ gives []
  pub five : judged (begun 0x10000007 (0x60400140 ∷ 0x50400004 ∷ 0x604000C0 ∷ 0x50400002 ∷ 0x60400040 ∷ 0x30010000 ∷ [])) ≡ broken 5 6
  pub five_over : judged (begun 0x10000007 (0x60400140 ∷ 0x50400004 ∷ 0x604000C0 ∷ 0x50400002 ∷ 0x60400080 ∷ 0x30010000 ∷ [])) ≡ broken 4 6
  -- 6: a slot, a table given twice; a manufacturer's table 0 is another, and so is another number
  pub slot_twice : judged (begun 0x10000002 (0x20100000 ∷ [])) ≡ broken 6 2
  pub table_twice : judged (begun 0x10000001 (0x10000000 ∷ [])) ≡ broken 6 2
  pub tables_apart : judged (begun 0x10000001 (0x18000000 ∷ 0x10010000 ∷ [])) ≡ gives []
  -- 7: a slot set later; bit 8 of one octet, while bits 0..7 are inside
  pub set_later : judged (begun 0x10000003 (0x40807000 ∷ 0x20200000 ∷ [])) ≡ broken 7 2
  pub bit_8 : judged (begun 0x10000002 (0x40427000 ∷ [])) ≡ broken 7 2
  pub bits_inside : judged (begun 0x10000002 (0x40407000 ∷ [])) ≡ gives []

-- A METER OF ALL KINDS. Table 0: DATA_ORDER and a two-octet dimension in slot 2; manufacturer's table 9: an array of (one octet, an array of two-octet numbers,
-- a set of flags), then three octets or five. Counts are bits 0..3 and 4..7 of slot 2, flags bits 8..12, the choice bit 15
abbrev pub mixed : List ℕ
mixed =
    items
    (0x10008002 ∷ 0x20100000 ∷ 0x24200000 ∷ 0x18098008 ∷ 0x50803004 ∷ 0x20000000 ∷ 0x50883001 ∷ 0x24000000 ∷ 0x40904800 ∷ 0x609E0041
    ∷ 0x30030000 ∷ 0x30050000 ∷ [])

-- most significant octet first, slot 2 is 9023: 3 elements of 1 + 2 * 2 + 2 octets, then three octets
abbrev pub mixed_image : (number block : List ℕ) → List ℕ
mixed_image number block =
    0x01 ∷ 0x90 ∷ 0x23 ∷ 0x03 ∷ 0x04 ∷ 0x05 ∷ 0x06 ∷ 0x07 ∷ 0x08 ∷ 0x09 ∷ 0x0A ∷ 0x0B ∷ 0x0C ∷ 0x0D ∷ 0x0E ∷ 0x0F ∷ 0x10 ∷ 0x11 ∷ 0x12 ∷ 0x13
    ∷ number ++ 0x16 ∷ 0x17 ∷ block

abbrev pub number0 : List ℕ
number0 = 0x14 ∷ 0x15 ∷ []

abbrev pub block0 : List ℕ
block0 = 0x18 ∷ 0x19 ∷ 0x1A ∷ []

abbrev pub mixed0 : List ℕ
mixed0 = mixed_image number0 block0

abbrev pub with_subscripts : (item count s t : ℕ) → ElementName
with_subscripts i n s t = record { item = i; count = n; subscripts = s ∷ t ∷ 0 ∷ 0 ∷ [] }

-- four arrays, one inside the other, each by bits 1 and 2 of slot 1, round a UINT
abbrev pub nest : List ℕ
nest = items (begun 0x10000006 (0x50421004 ∷ 0x50421003 ∷ 0x50421002 ∷ 0x50421001 ∷ 0x20000000 ∷ []))

-- no place, by that number
abbrev pub nowhere : (number : ℕ) → List ℕ
nowhere n = refusal n 0 0 (0 ∷ 0 ∷ [])

pub record LayoutCareful : Type 0 where
  pub passed : numbers_of 4 (verdict_reply (check_reply mixed)) ≡ gives []
  pub total : numbers_of 5 (layout_reply mixed mixed0) ≡ gives (27 ∷ [])
  -- an image of 65,535 octets, of one more
  pub longest : numbers_of 5 (layout_reply (items (begun 0x10000001 [])) (replicate 65535 0)) ≡ gives (1 ∷ [])
  pub too_long : numbers_of 5 (layout_reply (items (begun 0x10000001 [])) (replicate 65536 0)) ≡ refusal 8 0 0 (0 ∷ [])
  pub longer : numbers_of 5 (layout_reply mixed (mixed0 ++ 0 ∷ [])) ≡ gives (27 ∷ [])
  pub table_9 : numbers_of 6 (place_reply (table_place_reply mixed mixed0 1 9)) ≡ gives (3 ∷ 24 ∷ [])
  pub manufacturer_0 : numbers_of 6 (place_reply (table_place_reply mixed mixed0 1 0)) ≡ refusal 10 0 0 (0 ∷ 0 ∷ [])
  pub other_table : numbers_of 6 (place_reply (table_place_reply mixed mixed0 0 9)) ≡ refusal 10 0 0 (0 ∷ 0 ∷ [])
  pub table_0 : table_part_reply mixed mixed0 0 0 ≡ 0x01 ∷ 0x90 ∷ 0x23 ∷ []
  -- slot 2, a BLOCK, a SET of two octets by slot 1 and a number of four octets follow one another; DATA_ORDER is bit 0 alone
  pub four-octets :
      numbers_of 5 (element_number_reply (items (begun 0x10000005 (0x20200000 ∷ 0x30020000 ∷ 0x40401000 ∷ 0x28000000 ∷ [])))
      (2 ∷ 1 ∷ 1 ∷ 2 ∷ 9 ∷ 9 ∷ 3 ∷ 4 ∷ 5 ∷ 6 ∷ []) (plain 5)) ≡ gives (0x06050403 ∷ [])
  -- 64 flags take eight octets
  pub flags_64 : numbers_of 5 (layout_reply (items (begun 0x10000003 (0x20200000 ∷ 0x40807800 ∷ []))) (0 ∷ 64 ∷ replicate 8 0)) ≡ gives (10 ∷ [])
  -- reading a two-octet dimension in one fixed order, numbering its bits from the top
  pub slot_2 : numbers_of 5 (element_number_reply mixed mixed0 (plain 2)) ≡ gives (0x9023 ∷ [])
  pub other_order : numbers_of 5 (layout_reply mixed (0 ∷ 0x23 ∷ 0x90 ∷ [])) ≡ refusal 9 4 3 (0 ∷ [])
  -- a count of 0 takes none; the false branch
  pub none_true : numbers_of 5 (layout_reply mixed (0 ∷ 0 ∷ 0 ∷ 1 ∷ 2 ∷ 3 ∷ 4 ∷ 5 ∷ [])) ≡ gives (8 ∷ [])
  pub false_short : numbers_of 5 (layout_reply mixed (0 ∷ 0 ∷ 0 ∷ 1 ∷ 2 ∷ 3 ∷ 4 ∷ [])) ≡ refusal 9 11 3 (0 ∷ [])
  -- subscripts, outermost first, from 0: too few, too many, not below their counts, a count over four
  pub number_2_1 : numbers_of 5 (element_number_reply mixed mixed0 (with_subscripts 7 2 2 1)) ≡ gives (0x1415 ∷ [])
  pub flags_1 : numbers_of 6 (place_reply (element_place_reply mixed mixed0 (at 8 1))) ≡ gives (15 ∷ 2 ∷ [])
  pub too_few : numbers_of 6 (place_reply (element_place_reply mixed mixed0 (at 7 2))) ≡ nowhere 24
  pub too_many : numbers_of 6 (place_reply (element_place_reply mixed mixed0 (with_subscripts 7 3 2 1))) ≡ nowhere 24
  pub over_outer : numbers_of 6 (place_reply (element_place_reply mixed mixed0 (with_subscripts 7 2 3 0))) ≡ too_large 0 (0 ∷ 0 ∷ [])
  pub over_inner : numbers_of 6 (place_reply (element_place_reply mixed mixed0 (with_subscripts 7 2 0 2))) ≡ too_large 1 (0 ∷ 0 ∷ [])
  pub four_arrays : numbers_of 6 (place_reply (element_place_reply nest (2 ∷ 7 ∷ []) (with_subscripts 6 4 0 0))) ≡ gives (1 ∷ 1 ∷ [])
  pub over_four : numbers_of 6 (place_reply (element_place_reply nest (2 ∷ 7 ∷ []) (with_subscripts 6 5 0 0))) ≡ nowhere 24
  -- the chosen branch, the other one, an item that is no element, a number asked of a BLOCK
  pub block_octets : element_part_reply mixed mixed0 (plain 10) ≡ block0
  pub not_chosen : numbers_of 6 (place_reply (element_place_reply mixed mixed0 (plain 11))) ≡ nowhere 23
  pub not_element : numbers_of 6 (place_reply (element_place_reply mixed mixed0 (plain 9))) ≡ nowhere 22
  pub no_number_lem : numbers_of 5 (element_number_reply mixed mixed0 (plain 10)) ≡ refusal 26 0 0 (0 ∷ [])
  -- writes: read back, every other octet the same
  pub range_accepted : numbers_of 4 (verdict_reply (write_range_reply mixed mixed0 1 9 (offset 22) (0xAA ∷ 0xBB ∷ []))) ≡ gives []
  pub range_image_lem : write_range_image mixed mixed0 1 9 (offset 22) (0xAA ∷ 0xBB ∷ []) ≡ mixed_image number0 (0x18 ∷ 0xAA ∷ 0xBB ∷ [])
  pub octets_accepted : numbers_of 4 (verdict_reply (write_octets_reply mixed mixed0 (plain 10) (0xAA ∷ 0xBB ∷ 0xCC ∷ []))) ≡ gives []
  pub octets_image_lem : write_octets_image mixed mixed0 (plain 10) (0xAA ∷ 0xBB ∷ 0xCC ∷ []) ≡ mixed_image number0 (0xAA ∷ 0xBB ∷ 0xCC ∷ [])
  pub flags_accepted : numbers_of 4 (verdict_reply (write_octets_reply mixed mixed0 (at 8 1) (0 ∷ 0 ∷ []))) ≡ gives []
  pub number_accepted : numbers_of 4 (verdict_reply (write_number_reply mixed mixed0 (with_subscripts 7 2 2 1) 0xFFFF)) ≡ gives []
  pub number_image_lem : write_number_image mixed mixed0 (with_subscripts 7 2 2 1) 0xFF00 ≡ mixed_image (0xFF ∷ 0x00 ∷ []) block0
  -- 15: another length, a number of three octets; the image stays
  pub wrong_length_lem : numbers_of 4 (verdict_reply (write_octets_reply mixed mixed0 (plain 10) (0xAA ∷ 0xBB ∷ []))) ≡ refusal 15 0 0 []
  pub wrong_unchanged : write_octets_image mixed mixed0 (plain 10) (0xAA ∷ 0xBB ∷ []) ≡ mixed0
  pub wrong_number : numbers_of 4 (verdict_reply (write_number_reply mixed mixed0 (with_subscripts 7 2 2 1) 0x10000)) ≡ refusal 15 0 0 []
  pub block_number : numbers_of 4 (verdict_reply (write_number_reply mixed mixed0 (plain 10) 0)) ≡ refusal 26 0 0 []
  -- 14, which comes before 15: a write that alters the count by which the array was measured
  pub dimension_number : numbers_of 4 (verdict_reply (write_number_reply mixed mixed0 (plain 2) 0x10000)) ≡ refusal 14 0 0 []
  pub dimension_octets : numbers_of 4 (verdict_reply (write_octets_reply mixed mixed0 (plain 2) [])) ≡ refusal 14 0 0 []
  pub dimension_slot_1 : numbers_of 4 (verdict_reply (write_range_reply mixed mixed0 0 0 (offset 0) (1 ∷ []))) ≡ refusal 14 0 0 []
  pub dimension_last : numbers_of 4 (verdict_reply (write_range_reply mixed mixed0 0 0 (offset 2) (0 ∷ []))) ≡ refusal 14 0 0 []
  -- a range of length 0 holds no octet; past the size it is 12
  pub inside_dimension : numbers_of 4 (verdict_reply (write_range_reply mixed mixed0 0 0 (offset 2) [])) ≡ gives []
  pub past_size : numbers_of 4 (verdict_reply (write_range_reply mixed mixed0 0 0 (offset 4) [])) ≡ refusal 12 0 0 []
  pub no_table : numbers_of 4 (verdict_reply (write_range_reply mixed mixed0 0 9 (offset 0) [])) ≡ refusal 10 0 0 []

-- A MAZE. Table 5, which isn't writable: an array (item 4) of a choice (item 5). If it is true, an array (item 6) of a number (item 7) and a BLOCK (item 8); else an array (item 9) of a SET
-- (item 10), and a number (item 11). By slot 2: the outer count bits 0 and 1, the choice bit 2, the inner counts bits 3 and 4
abbrev pub maze : List ℕ
maze =
    items
    (0x10000002 ∷ 0x20100000 ∷ 0x20200000 ∷ 0x10050008 ∷ 0x50801007 ∷ 0x608400C3 ∷ 0x50861002 ∷ 0x20000000 ∷ 0x30010000 ∷ 0x50861001 ∷ 0x40801000 ∷ 0x20000000 ∷ [])

-- two times, true, two times: the total is 10. No times outside; none inside
abbrev pub two_by_two : List ℕ
two_by_two = 0x00 ∷ 0x16 ∷ replicate 8 0

abbrev pub none_outside : List ℕ
none_outside = 0x00 ∷ 0x14 ∷ []

abbrev pub none_inside : List ℕ
none_inside = 0x00 ∷ 0x06 ∷ []

abbrev pub place_of : (image : List ℕ) → ElementName → List ℕ
place_of img q = numbers_of 6 (place_reply (element_place_reply maze img q))

abbrev pub number_of : ElementName → List ℕ
number_of q = numbers_of 5 (element_number_reply maze two_by_two q)

pub record CausesCareful : Type 0 where
  pub there : place_of two_by_two (with_subscripts 7 2 1 1) ≡ gives (8 ∷ 1 ∷ [])
  -- 22: a TABLE, an ARRAY, an IF and a number past the last item; before 24 and 26
  pub is_table_lem : place_of two_by_two (plain 3) ≡ nowhere 22
  pub is_array_lem : place_of two_by_two (at 4 9) ≡ nowhere 22
  pub is_choice_lem : number_of (plain 5) ≡ refusal 22 0 0 (0 ∷ [])
  pub is_past : place_of two_by_two (plain 12) ≡ nowhere 22
  -- 26: before 24, 25 and 23; of a number alone
  pub block_number : number_of (with_subscripts 8 2 1 1) ≡ refusal 26 0 0 (0 ∷ [])
  pub block_few : number_of (plain 8) ≡ refusal 26 0 0 (0 ∷ [])
  pub block_large : number_of (with_subscripts 8 2 3 0) ≡ refusal 26 0 0 (0 ∷ [])
  pub set_unchosen : number_of (with_subscripts 10 2 0 0) ≡ refusal 26 0 0 (0 ∷ [])
  pub block_place : place_of two_by_two (with_subscripts 8 2 0 1) ≡ gives (5 ∷ 1 ∷ [])
  -- 24: too few, too many, over four; before 25 and 23
  pub few_large : place_of two_by_two (at 7 9) ≡ nowhere 24
  pub many_large : place_of two_by_two (with_subscripts 7 3 9 9) ≡ nowhere 24
  pub over_four : place_of two_by_two (with_subscripts 7 5 0 0) ≡ nowhere 24
  pub few_unchosen : place_of two_by_two (at 10 0) ≡ nowhere 24
  pub many_unchosen : place_of two_by_two (with_subscripts 11 2 0 0) ≡ nowhere 24
  -- 25: at the count, the outer one and the inner one, whose depth counts no choice; of both the outer
  pub outer : place_of two_by_two (with_subscripts 7 2 2 0) ≡ too_large 0 (0 ∷ 0 ∷ [])
  pub inner : place_of two_by_two (with_subscripts 7 2 0 2) ≡ too_large 1 (0 ∷ 0 ∷ [])
  pub both : place_of two_by_two (with_subscripts 7 2 2 2) ≡ too_large 0 (0 ∷ 0 ∷ [])
  pub inner_number : number_of (with_subscripts 7 2 1 3) ≡ too_large 1 (0 ∷ [])
  -- 23: before a subscript inside it that is too large, after one outside
  pub unchosen : place_of two_by_two (with_subscripts 10 2 1 0) ≡ nowhere 23
  pub unchosen_large : place_of two_by_two (with_subscripts 10 2 1 9) ≡ nowhere 23
  pub large_unchosen : place_of two_by_two (with_subscripts 10 2 2 0) ≡ too_large 0 (0 ∷ 0 ∷ [])
  pub unchosen_number : number_of (at 11 1) ≡ refusal 23 0 0 (0 ∷ [])
  -- any subscript of an array of count 0 is 25, not 23
  pub none_at_all : (s : ℕ) → place_of none_outside (with_subscripts 7 2 s 0) ≡ too_large 0 (0 ∷ 0 ∷ [])
  pub none_unchosen : (s : ℕ) → place_of none_outside (at 11 s) ≡ too_large 0 (0 ∷ 0 ∷ [])
  pub none_in_each : (s : ℕ) → place_of none_inside (with_subscripts 7 2 1 s) ≡ too_large 1 (0 ∷ 0 ∷ [])
  -- all of them before 13
  pub write_unchosen : numbers_of 4 (verdict_reply (write_octets_reply maze two_by_two (with_subscripts 10 2 1 0) [])) ≡ refusal 23 0 0 []
  pub write_large : numbers_of 4 (verdict_reply (write_number_reply maze two_by_two (with_subscripts 7 2 1 2) 0)) ≡ too_large 1 []
  pub write_block : numbers_of 4 (verdict_reply (write_number_reply maze two_by_two (with_subscripts 8 2 1 1) 0)) ≡ refusal 26 0 0 []
  pub write_there : numbers_of 4 (verdict_reply (write_number_reply maze two_by_two (with_subscripts 7 2 1 1) 0)) ≡ refusal 13 0 0 []

-- A CALENDAR, most significant octet first. Table 51: anchor date flagged, separate summations and demands, two seasons and two special schedules, weekdays share
-- a column; five non-recurring dates, one recurring, six switches. `flags1` takes the place of its first octet
abbrev pub year_image : (flags1 : ℕ) → List ℕ
year_image flags1 =
    0x01
    ∷ flags1 ∷ 0x04 ∷ 0x22 ∷ 0x05 ∷ 0x01 ∷ 0x00 ∷ 0x06 ∷ 0x00 ∷ 0x00
    -- Table 54: the anchor date; 1 January 1995 season 1; 1 May 2024 action 31; 1 June 2024 season 1, then season 0; 4 July 2024 special schedule 1
    ∷ 0x00 ∷ 0x00
    ∷ 0x08 ∷ 0xDF ∷ 0x04 ∷ 0x0A ∷ 0x98 ∷ 0x1F ∷ 0x0B ∷ 0x18 ∷ 0x04 ∷ 0x0B ∷ 0x18 ∷ 0x03 ∷ 0x23 ∷ 0x98 ∷ 0x14
    -- a recurring record that would be a season action
    ∷ 0x0A ∷ 0x98 ∷ 0x05
    -- schedule 7: 00:00 tier 1 for both; 08:00 tier 2 summations, tier 3 demands; 08:60 tier 4; schedule 9: 12:00 tier 5; schedule 7: 08:00 tier 6 summations
    ∷ 0x00 ∷ 0x19 ∷ 0x07 ∷ 0x40 ∷ 0x0A ∷ 0x07 ∷ 0x40 ∷ 0x13 ∷ 0x07 ∷ 0x47 ∷ 0x9C ∷ 0x07 ∷ 0x60 ∷ 0x0D ∷ 0x09 ∷ 0x40 ∷ 0x0E ∷ 0x07
    -- rows: Saturday, Sunday, weekday, two special schedules
    ∷ 0x09 ∷ 0x08 ∷ 0x07 ∷ 0x0A ∷ 0x09
    ∷ 0x01 ∷ 0x02 ∷ 0x09 ∷ 0x04 ∷ 0x05
    ∷ []

abbrev pub year_tier : Quantity → (year month day hour minute : ℕ) → List ℕ
year_tier q y mo d h mi = numbers_of 6 (tier_reply (clock 48) (year_image 0x20) (moment y mo d h mi) q)

-- a tier; "none yet today"
abbrev pub tier : ℕ → List ℕ
tier t = gives (0 ∷ t ∷ [])

abbrev pub none_yet : List ℕ
none_yet = gives (1 ∷ 0 ∷ [])

abbrev pub no_tier : (refused : ℕ) → List ℕ
no_tier n = refusal n 0 0 (0 ∷ 0 ∷ [])

-- a calendar with a column for each weekday: from 1 January 2000 on season 0; Saturdays have schedule 7 and switch to tier 5 at 00:00
abbrev pub week_image : List ℕ
week_image =
    0x00 ∷ 0x00 ∷ 0x02 ∷ 0x11 ∷ 0x01 ∷ 0x00 ∷ 0x01 ∷ 0x00 ∷ 0x00 ∷ 0x00
    ∷ 0x80 ∷ 0x08 ∷ 0x03 ∷ 0x05 ∷ 0x00 ∷ 0x07
    ∷ 0x01 ∷ 0x02 ∷ 0x03 ∷ 0x04 ∷ 0x05 ∷ 0x06 ∷ 0x07 ∷ 0x08 ∷ []

-- the starred calendar with another date, least significant octet first, and action in its one record
abbrev pub record_image : (low high action : ℕ) → List ℕ
record_image low high action =
    0x00
    ∷ 0x00 ∷ 0x00 ∷ 0x01 ∷ 0x01 ∷ 0x00 ∷ 0x02 ∷ 0x00 ∷ 0x00 ∷ 0x00
    ∷ low ∷ high ∷ action ∷ 0x00 ∷ 0x00 ∷ 0x01 ∷ 0xC2 ∷ 0x3B ∷ 0x01 ∷ 0x01 ∷ 0x01 ∷ 0x01 ∷ []

-- what it says of a day at 07:30, and whether a season record stands by that day
abbrev pub by_record : (low high action : ℕ) → (year month day : ℕ) → List ℕ
by_record low high action y m d = numbers_of 6 (tier_reply (clock 12) (record_image low high action) (moment y m d 7 30) Quantity.Summations)

abbrev pub stands : (low high action : ℕ) → (year month day : ℕ) → List ℕ
stands low high action y m d = numbers_of 5 (seasoned_reply (clock 12) (record_image low high action) (date y m d))

abbrev pub yes : List ℕ
yes = gives (1 ∷ [])

abbrev pub no : List ℕ
no = gives (0 ∷ [])

-- a new meter: the starred calendar without its record, and with so many seasons as there are rows of three schedules
abbrev pub new_image : (seasons : ℕ) → (rows : List ℕ) → List ℕ
new_image seasons rows =
    0x00
    ∷ 0x00 ∷ 0x00 ∷ seasons ∷ 0x00 ∷ 0x00 ∷ 0x02 ∷ 0x00 ∷ 0x00 ∷ 0x00
    ∷ 0x00 ∷ 0x00 ∷ 0x01 ∷ 0xC2 ∷ 0x3B ∷ 0x01 ∷ rows

-- the starred calendar with a second record, of 5 March 2024, and what it says of that day
abbrev pub by_second : (action : ℕ) → List ℕ
by_second action =
    numbers_of 6 (tier_reply (clock 15)
    (0x00
    ∷ 0x00 ∷ 0x00 ∷ 0x01 ∷ 0x02 ∷ 0x00 ∷ 0x02 ∷ 0x00 ∷ 0x00 ∷ 0x00
    ∷ 0x98 ∷ 0x08 ∷ 0x03 ∷ 0x98 ∷ 0x29 ∷ action ∷ 0x00 ∷ 0x00 ∷ 0x01 ∷ 0xC2 ∷ 0x3B ∷ 0x01 ∷ 0x01 ∷ 0x01 ∷ 0x01 ∷ [])
    (moment 2024 3 5 7 30) Quantity.Summations)

-- its Table 51 one octet short
abbrev pub short_51 : List ℕ
short_51 = items (0x10000001 ∷ 0x20100000 ∷ 0x10330001 ∷ 0x30080000 ∷ 0x10360001 ∷ 0x300C0000 ∷ [])

-- the weekday of a date; no such date
abbrev pub weekday : (year month day : ℕ) → List ℕ
weekday y m d = numbers_of 5 (weekday_reply (date y m d))

abbrev pub no_date : List ℕ
no_date = refusal 16 0 0 (0 ∷ [])

pub record CalendarCareful : Type 0 where
  -- 1 January 2000 was a Saturday
  pub saturday : weekday_of (day_number 2000 1 1) ≡ 6
  -- 31 December 2089, the last day, will be a Saturday too
  pub last_saturday : weekday_of (day_number 2089 12 31) ≡ 6
  pub saturday_tier : numbers_of 6 (tier_reply (clock 14) week_image (moment 2000 1 1 0 0) Quantity.Summations) ≡ tier 5
  pub sunday_tier : numbers_of 6 (tier_reply (clock 14) week_image (moment 2000 1 2 0 0) Quantity.Summations) ≡ none_yet
  -- 3 June 2024 is a Monday: of equal dates the later record, season 0; of equal times the later record; minutes over 59 are skipped
  pub summations : year_tier Quantity.Summations 2024 6 3 23 59 ≡ tier 6
  -- only switches flagged for what is asked count
  pub demands : year_tier Quantity.Demands 2024 6 3 8 0 ≡ tier 3
  pub before_eight : year_tier Quantity.Demands 2024 6 3 7 59 ≡ tier 1
  pub midnight : year_tier Quantity.Demands 2024 6 3 0 0 ≡ tier 1
  -- Saturday's column is the first, Sunday's the second
  pub on_saturday : year_tier Quantity.Summations 2024 6 1 12 0 ≡ tier 5
  pub on_sunday : year_tier Quantity.Demands 2024 6 2 23 59 ≡ none_yet
  -- the special schedule's column when weekdays share one: 3 + 1, on its own date only
  pub noon : year_tier Quantity.Summations 2024 7 4 12 0 ≡ tier 5
  pub before_noon : year_tier Quantity.Summations 2024 7 4 11 59 ≡ none_yet
  pub day_after : year_tier Quantity.Summations 2024 7 5 12 0 ≡ tier 6
  -- action 31 ends nothing and starts nothing: on 31 May 2024 it is still season 1, whose weekdays have schedule 9. A recurring record isn't applied
  pub notice : year_tier Quantity.Summations 2024 5 31 12 0 ≡ tier 5
  -- years 90 to 99 are 1990 on
  pub season_1995 : year_tier Quantity.Summations 1995 1 2 12 0 ≡ tier 5
  -- the day before, a Saturday, is before every season record: season 0, whose Saturdays have schedule 9, where season 1's have schedule 1 and no switch
  pub before_1995 : year_tier Quantity.Summations 1994 12 31 12 0 ≡ tier 5
  -- 16: not a real date or time; leap years
  pub leap_day : year_tier Quantity.Summations 2024 2 29 12 0 ≡ tier 5
  pub no_leap_day : year_tier Quantity.Summations 2023 2 29 12 0 ≡ no_tier 16
  pub day_0 : year_tier Quantity.Summations 2024 6 0 12 0 ≡ no_tier 16
  pub day_32 : year_tier Quantity.Summations 2024 12 32 12 0 ≡ no_tier 16
  pub month_13 : year_tier Quantity.Summations 2024 13 1 12 0 ≡ no_tier 16
  pub year_1989 : year_tier Quantity.Summations 1989 12 31 12 0 ≡ no_tier 16
  pub last_day : year_tier Quantity.Summations 2089 12 31 12 0 ≡ tier 5
  pub year_2090 : year_tier Quantity.Summations 2090 1 1 12 0 ≡ no_tier 16
  pub hour_24 : year_tier Quantity.Summations 2024 6 3 24 0 ≡ no_tier 16
  pub minute_60 : year_tier Quantity.Summations 2024 6 3 8 60 ≡ no_tier 16
  -- 18, on a day before every season record too
  pub armed : numbers_of 6 (tier_reply (clock 48) (year_image 0x28) (moment 1990 1 1 0 0) Quantity.Summations) ≡ no_tier 18
  -- a season record stands by its own day, and not before. Years 89, 90, 99 and 100 of a DATE; 29 February 2025
  pub year_89 : stands 0xD9 0x08 3 2089 1 1 ≡ yes
  pub before_89 : stands 0xD9 0x08 3 2088 12 31 ≡ no
  pub year_90 : stands 0xDA 0x08 3 1990 1 1 ≡ yes
  pub year_99 : stands 0xE3 0x08 3 1999 1 1 ≡ yes
  pub before_99 : stands 0xE3 0x08 3 1998 12 31 ≡ no
  pub year_100 : stands 0xE4 0x08 3 2089 12 31 ≡ no
  pub unreal : stands 0x19 0xE9 3 2026 1 1 ≡ no
  -- actions: bit 5 is none of it; 2 and 19 select no season; 4 and 18 select seasons 1 and 15, which stand though they have no row
  pub action_bit_5 : stands 0x98 0x08 0x23 2024 3 5 ≡ yes
  pub action_2 : stands 0x98 0x08 2 2024 3 5 ≡ no
  pub action_4 : by_record 0x98 0x08 4 2024 3 5 ≡ no_tier 19
  pub stands_4 : stands 0x98 0x08 4 2024 3 5 ≡ yes
  pub action_18 : by_record 0x98 0x08 18 2024 3 5 ≡ no_tier 19
  pub stands_18 : stands 0x98 0x08 18 2024 3 5 ≡ yes
  pub stands_19 : stands 0x98 0x08 19 2024 1 1 ≡ no
  -- with no row for it there is no tier, but before its day season 0 has one
  pub before_4 : by_record 0x98 0x08 4 2023 12 31 ≡ tier 2
  -- a season change that is armed doesn't matter to it, nor a recurring record; a date that isn't real does
  pub stands_armed : numbers_of 5 (seasoned_reply (clock 48) (year_image 0x28) (date 1995 1 1)) ≡ yes
  pub recurring : numbers_of 5 (seasoned_reply (clock 48) (year_image 0x20) (date 1994 12 31)) ≡ no
  pub stands_unreal : stands 0x98 0x08 3 2023 2 29 ≡ refusal 16 0 0 (0 ∷ [])
  pub stands_no_calendar : numbers_of 5 (seasoned_reply (clock 11) clock_image (date 2023 2 29)) ≡ refusal 20 0 0 (0 ∷ [])
  -- a new meter: every day is in season 0, whose row it has; without one it is 19. No record stands
  pub new_meter : numbers_of 6 (tier_reply (clock 9) (new_image 1 (0x01 ∷ 0x01 ∷ 0x01 ∷ [])) (moment 1990 1 1 7 30) Quantity.Summations) ≡ tier 2
  pub no_seasons : numbers_of 6 (tier_reply (clock 6) (new_image 0 []) (moment 2024 3 5 7 30) Quantity.Summations) ≡ no_tier 19
  pub new_stands : numbers_of 5 (seasoned_reply (clock 9) (new_image 1 (0x01 ∷ 0x01 ∷ 0x01 ∷ [])) (date 2089 12 31)) ≡ no
  -- document 02, E3: the weekday of the first day; round the end of February, in leap years and in others; no real dates
  pub first_monday : weekday 1990 1 1 ≡ gives (1 ∷ [])
  pub tuesday_2000 : weekday 2000 2 29 ≡ gives (2 ∷ [])
  pub march_2000 : weekday 2000 3 1 ≡ gives (3 ∷ [])
  pub february_2023 : weekday 2023 2 28 ≡ gives (2 ∷ [])
  pub march_2023 : weekday 2023 3 1 ≡ gives (3 ∷ [])
  pub thursday_2024 : weekday 2024 2 29 ≡ gives (4 ∷ [])
  pub friday_2024 : weekday 2024 3 1 ≡ gives (5 ∷ [])
  pub sunday_2023 : weekday 2023 12 31 ≡ gives (0 ∷ [])
  pub leap_day_2023 : weekday 2023 2 29 ≡ no_date
  pub weekday_1989 : weekday 1989 12 31 ≡ no_date
  pub weekday_2090 : weekday 2090 1 1 ≡ no_date
  pub month_0 : weekday 2024 0 1 ≡ no_date
  -- 2000 is a leap year; 2100, of which no reply tells, isn't
  pub leap_2000 : leap 2000 ≡ true
  pub leap_2100 : leap 2100 ≡ false
  -- special schedules 0 and 11 without a column; 31 is no special schedule
  pub special_0 : by_second 19 ≡ no_tier 19
  pub special_11 : by_second 30 ≡ no_tier 19
  pub no_special : by_second 31 ≡ tier 2
  -- 20: table 54 an octet longer, an octet shorter; table 51 an octet shorter; 10: no table 54
  pub longer_54 : numbers_of 4 (verdict_reply (matrix_verdict (clock 13) (clock_image ++ 0 ∷ []))) ≡ refusal 20 0 0 []
  pub shorter_54 : numbers_of 4 (verdict_reply (matrix_verdict (clock 11) clock_image)) ≡ refusal 20 0 0 []
  pub shorter_51 : numbers_of 4 (verdict_reply (matrix_verdict short_51 (0 ∷ 0 ∷ 0 ∷ 1 ∷ 1 ∷ 0 ∷ 2 ∷ 0 ∷ 0 ∷ drop 10 clock_image))) ≡ refusal 20 0 0 []
  pub no_calendar : numbers_of 4 (verdict_reply (matrix_verdict (items (0x10000001 ∷ 0x20100000 ∷ [])) (0 ∷ []))) ≡ refusal 10 0 0 []
  -- the matrix: cells stand as in the rows, unused ones are 0
  pub row_0 : get_or (matrix_reply (clock 48) (year_image 0x20)) 0 [] ≡ 9 ∷ 8 ∷ 7 ∷ 10 ∷ 9 ∷ 0 ∷ 0 ∷ 0 ∷ 0 ∷ 0 ∷ 0 ∷ 0 ∷ 0 ∷ 0 ∷ 0 ∷ 0 ∷ 0 ∷ 0 ∷ 0 ∷ 0 ∷ 0 ∷ 0 ∷ []
  pub row_1 : get_or (matrix_reply (clock 48) (year_image 0x20)) 1 [] ≡ 1 ∷ 2 ∷ 9 ∷ 4 ∷ 5 ∷ 0 ∷ 0 ∷ 0 ∷ 0 ∷ 0 ∷ 0 ∷ 0 ∷ 0 ∷ 0 ∷ 0 ∷ 0 ∷ 0 ∷ 0 ∷ 0 ∷ 0 ∷ 0 ∷ 0 ∷ []
  pub row_2 : get_or (matrix_reply (clock 48) (year_image 0x20)) 2 [] ≡ 0 ∷ 0 ∷ 0 ∷ 0 ∷ 0 ∷ 0 ∷ 0 ∷ 0 ∷ 0 ∷ 0 ∷ 0 ∷ 0 ∷ 0 ∷ 0 ∷ 0 ∷ 0 ∷ 0 ∷ 0 ∷ 0 ∷ 0 ∷ 0 ∷ 0 ∷ []
  pub fifteen : length (matrix_reply (clock 48) (year_image 0x20)) ≡ 15
  pub refused_matrix : matrix_reply (clock 13) (clock_image ++ 0 ∷ []) ≡ replicate 15 (replicate 22 0)

-- MESSAGES. A request and a reply put into a room of twenty octets; 21
abbrev pub putting : Request → List ℕ
putting q = numbers_of 5 (write_request_reply q (replicate 20 0))

abbrev pub answering : MeterReply → List ℕ
answering a = numbers_of 5 (write_reply_reply a (replicate 20 0))

abbrev pub no_room_lem : List ℕ
no_room_lem = refusal 21 0 0 (0 ∷ [])

-- a range of the first image
abbrev pub ranged : (manufacturer number at length : ℕ) → List ℕ
ranged m k p n = numbers_of 6 (place_reply (read_range_reply D first m k (offset p) n))

-- a meter's answer, in a room of ten octets that were FF, and the image afterwards; an answer of one octet
abbrev pub serves : (description image request : List ℕ) → List ℕ
serves d img request = serve_room d img request (replicate 10 0xFF)

abbrev pub serves_image : (description image request : List ℕ) → List ℕ
serves_image d img request = serve_image d img request (replicate 10 0xFF)

abbrev pub replies : (octet : ℕ) → List ℕ
replies x = x ∷ replicate 9 0xFF

-- a full read and a full write of table 5; a full write of table 0, of what it holds
abbrev pub read_5 : List ℕ
read_5 = 0x30 ∷ 0x00 ∷ 0x05 ∷ []

abbrev pub write_5 : List ℕ
write_5 = 0x40 ∷ 0x00 ∷ 0x05 ∷ 0x00 ∷ 0x06 ∷ 0x01 ∷ 0x02 ∷ 0x03 ∷ 0x04 ∷ 0x05 ∷ 0x06 ∷ 0xEB ∷ []

abbrev pub write_0 : List ℕ
write_0 = 0x40 ∷ 0x00 ∷ 0x00 ∷ 0x00 ∷ 0x02 ∷ 0x00 ∷ 0x82 ∷ 0x7E ∷ []

-- the first and the last tables: 0 and 2,047, a manufacturer's 0 and 2,047, each an octet
abbrev pub ends : List ℕ
ends = items (begun 0x10000001 (0x17FF0001 ∷ 0x30010000 ∷ 0x18000001 ∷ 0x30010000 ∷ 0x1FFF0001 ∷ 0x30010000 ∷ []))

abbrev pub ends_image : List ℕ
ends_image = 0x00 ∷ 0x0A ∷ 0x0B ∷ 0x0C ∷ []

pub record MessagesCareful : Type 0 where
  -- the check octet: of no data; of 1; of sums of 256 and 510
  pub check_none : check_octet [] ≡ 0
  pub check_1 : check_octet (1 ∷ []) ≡ 255
  pub check_256 : check_octet (128 ∷ 127 ∷ 1 ∷ []) ≡ 0
  pub check_510 : check_octet (255 ∷ 255 ∷ []) ≡ 2
  -- the octets of each form, most significant first; the check octet over the data alone
  pub full_read_lem : request_octets (full_read 2053) ≡ 0x30 ∷ 0x08 ∷ 0x05 ∷ []
  pub offset_read_lem : request_octets (offset_read 2053 66051 258) ≡ 0x3F ∷ 0x08 ∷ 0x05 ∷ 0x01 ∷ 0x02 ∷ 0x03 ∷ 0x01 ∷ 0x02 ∷ []
  pub full_write_lem : request_octets (full_write 5 (1 ∷ 2 ∷ [])) ≡ 0x40 ∷ 0x00 ∷ 0x05 ∷ 0x00 ∷ 0x02 ∷ 0x01 ∷ 0x02 ∷ 0xFD ∷ []
  pub offset_write_lem : request_octets (offset_write 2053 66051 (255 ∷ 2 ∷ [])) ≡ 0x4F ∷ 0x08 ∷ 0x05 ∷ 0x01 ∷ 0x02 ∷ 0x03 ∷ 0x00 ∷ 0x02 ∷ 0xFF ∷ 0x02 ∷ 0xFF ∷ []
  pub read_holds : reply_octets (holds (1 ∷ 2 ∷ [])) ≡ 0x00 ∷ 0x00 ∷ 0x02 ∷ 0x01 ∷ 0x02 ∷ 0xFD ∷ []
  pub write_done : reply_octets done ≡ 0x00 ∷ []
  pub read_refused : reply_octets (refuses 3) ≡ 0x03 ∷ []
  -- read back; an id as it came, over 4,095 too
  pub full_read_back : request_in (0x30 ∷ 0xFF ∷ 0xFE ∷ []) ≡ is_request (full_read 65534)
  pub offset_read_back : request_in (0x3F ∷ 0x08 ∷ 0x05 ∷ 0x01 ∷ 0x02 ∷ 0x03 ∷ 0x01 ∷ 0x02 ∷ []) ≡ is_request (offset_read 2053 66051 258)
  pub full_write_back : request_in (0x40 ∷ 0x00 ∷ 0x05 ∷ 0x00 ∷ 0x02 ∷ 0x01 ∷ 0x02 ∷ 0xFD ∷ []) ≡ is_request (full_write 5 (1 ∷ 2 ∷ []))
  pub offset_write_back : request_in (0x4F ∷ 0x08 ∷ 0x05 ∷ 0x01 ∷ 0x02 ∷ 0x03 ∷ 0x00 ∷ 0x02 ∷ 0xFF ∷ 0x02 ∷ 0xFF ∷ []) ≡ is_request (offset_write 2053 66051 (255 ∷ 2 ∷ []))
  pub none_back : request_in (0x4F ∷ 0x00 ∷ 0x05 ∷ 0x00 ∷ 0x00 ∷ 0x06 ∷ 0x00 ∷ 0x00 ∷ 0x00 ∷ []) ≡ is_request (offset_write 5 6 [])
  -- 01 where it is empty; then 02 by the first octet, whatever the length
  pub no_request : request_in [] ≡ not_request 1
  pub unknown_2_f : request_in (0x2F ∷ 0x00 ∷ 0x05 ∷ []) ≡ not_request 2
  pub unknown_31 : request_in (0x31 ∷ 0x00 ∷ 0x05 ∷ []) ≡ not_request 2
  pub unknown_alone : request_in (0x41 ∷ []) ≡ not_request 2
  -- 01: an octet short, an octet long; a first octet alone
  pub full_read_short : request_in (0x30 ∷ 0x00 ∷ []) ≡ not_request 1
  pub full_read_long : request_in (0x30 ∷ 0x00 ∷ 0x05 ∷ 0x00 ∷ []) ≡ not_request 1
  pub offset_read_short : request_in (0x3F ∷ 0x00 ∷ 0x05 ∷ 0x00 ∷ 0x00 ∷ 0x00 ∷ 0x00 ∷ []) ≡ not_request 1
  pub offset_read_long : request_in (0x3F ∷ 0x00 ∷ 0x05 ∷ 0x00 ∷ 0x00 ∷ 0x00 ∷ 0x00 ∷ 0x00 ∷ 0x00 ∷ []) ≡ not_request 1
  pub full_write_short : request_in (0x40 ∷ 0x00 ∷ 0x05 ∷ 0x00 ∷ 0x02 ∷ 0x01 ∷ 0x02 ∷ []) ≡ not_request 1
  pub full_write_long : request_in (0x40 ∷ 0x00 ∷ 0x05 ∷ 0x00 ∷ 0x02 ∷ 0x01 ∷ 0x02 ∷ 0xFD ∷ 0x00 ∷ []) ≡ not_request 1
  pub full_write_alone : request_in (0x40 ∷ []) ≡ not_request 1
  pub offset_write_short : request_in (0x4F ∷ 0x00 ∷ 0x05 ∷ 0x00 ∷ 0x00 ∷ 0x06 ∷ 0x00 ∷ 0x00 ∷ []) ≡ not_request 1
  pub offset_write_long : request_in (0x4F ∷ 0x00 ∷ 0x05 ∷ 0x00 ∷ 0x00 ∷ 0x06 ∷ 0x00 ∷ 0x00 ∷ 0x00 ∷ 0x00 ∷ []) ≡ not_request 1
  -- 01: the count one off; the check octet one off, over count and data, not negated
  pub count_less : request_in (0x40 ∷ 0x00 ∷ 0x05 ∷ 0x00 ∷ 0x01 ∷ 0x01 ∷ 0x02 ∷ 0xFD ∷ []) ≡ not_request 1
  pub check_more : request_in (0x40 ∷ 0x00 ∷ 0x05 ∷ 0x00 ∷ 0x02 ∷ 0x01 ∷ 0x02 ∷ 0xFE ∷ []) ≡ not_request 1
  pub check_less : request_in (0x4F ∷ 0x00 ∷ 0x05 ∷ 0x00 ∷ 0x00 ∷ 0x04 ∷ 0x00 ∷ 0x02 ∷ 0x01 ∷ 0x02 ∷ 0xFC ∷ []) ≡ not_request 1
  pub check_count : request_in (0x40 ∷ 0x00 ∷ 0x05 ∷ 0x00 ∷ 0x02 ∷ 0x01 ∷ 0x02 ∷ 0xFB ∷ []) ≡ not_request 1
  pub check_positive : request_in (0x40 ∷ 0x00 ∷ 0x05 ∷ 0x00 ∷ 0x02 ∷ 0x01 ∷ 0x02 ∷ 0x03 ∷ []) ≡ not_request 1
  -- replies read
  pub holds_back : reply_in (0x00 ∷ 0x00 ∷ 0x02 ∷ 0x01 ∷ 0x02 ∷ 0xFD ∷ []) ≡ some (holds (1 ∷ 2 ∷ []))
  pub holds_none_back : reply_in (0x00 ∷ 0x00 ∷ 0x00 ∷ 0x00 ∷ []) ≡ some (holds [])
  pub done_back : reply_in (0x00 ∷ []) ≡ some done
  pub refuses_1_back : reply_in (0x01 ∷ []) ≡ some (refuses 1)
  pub refuses_4_back : reply_in (0x04 ∷ []) ≡ some (refuses 4)
  -- 43: none of these forms
  pub reply_empty : reply_in [] ≡ none
  pub reply_5 : reply_in (0x05 ∷ []) ≡ none
  pub reply_00_00 : reply_in (0x00 ∷ 0x00 ∷ []) ≡ none
  pub reply_count : reply_in (0x00 ∷ 0x00 ∷ 0x01 ∷ 0x01 ∷ 0x02 ∷ 0xFD ∷ []) ≡ none
  pub reply_check : reply_in (0x00 ∷ 0x00 ∷ 0x02 ∷ 0x01 ∷ 0x02 ∷ 0xFB ∷ []) ≡ none
  pub reply_first : reply_in (0x01 ∷ 0x00 ∷ 0x02 ∷ 0x01 ∷ 0x02 ∷ 0xFD ∷ []) ≡ none
  -- 21: a number that doesn't fit its field; the greatest that do, and small ones
  pub id_over : putting (full_read 65536) ≡ no_room_lem
  pub id_most : putting (full_read 65535) ≡ gives (3 ∷ [])
  pub id_over_read : putting (offset_read 65536 0 0) ≡ no_room_lem
  pub offset_over_read : putting (offset_read 5 16777216 0) ≡ no_room_lem
  pub count_over_read : putting (offset_read 5 0 65536) ≡ no_room_lem
  pub most_read : putting (offset_read 65535 16777215 65535) ≡ gives (8 ∷ [])
  pub small_read : putting (offset_read 5 6 7) ≡ gives (8 ∷ [])
  pub id_over_write : putting (full_write 65536 []) ≡ no_room_lem
  pub data_over_write : request_fits (full_write 5 (replicate 65536 0)) ≡ false
  pub most_write : request_fits (full_write 65535 (replicate 65535 0)) ≡ true
  pub small_write : putting (full_write 5 (1 ∷ [])) ≡ gives (7 ∷ [])
  pub id_over_range : putting (offset_write 65536 0 []) ≡ no_room_lem
  pub offset_over_range : putting (offset_write 5 16777216 []) ≡ no_room_lem
  pub data_over_range : request_fits (offset_write 5 6 (replicate 65536 0)) ≡ false
  pub most_range : request_fits (offset_write 65535 16777215 (replicate 65535 0)) ≡ true
  pub small_range : putting (offset_write 5 6 (1 ∷ [])) ≡ gives (10 ∷ [])
  pub data_over_reply : reply_fits (holds (replicate 65536 0)) ≡ false
  pub most_reply : reply_fits (holds (replicate 65535 0)) ≡ true
  pub code_0 : answering (refuses 0) ≡ no_room_lem
  pub code_5 : answering (refuses 5) ≡ no_room_lem
  pub code_1 : answering (refuses 1) ≡ gives (1 ∷ [])
  pub code_4 : answering (refuses 4) ≡ gives (1 ∷ [])
  -- a room an octet short is 21 and stays; of a longer one the octets behind the message stay
  pub room_short : numbers_of 5 (write_request_reply (full_read 5) (9 ∷ 9 ∷ [])) ≡ no_room_lem
  pub room_stays : write_request_room (full_read 5) (9 ∷ 9 ∷ []) ≡ 9 ∷ 9 ∷ []
  pub room_longer : write_request_room (full_read 5) (9 ∷ 8 ∷ 7 ∷ 6 ∷ 5 ∷ []) ≡ 0x30 ∷ 0x00 ∷ 0x05 ∷ 0x06 ∷ 0x05 ∷ []
  pub reply_room_short : numbers_of 5 (write_reply_reply (holds (1 ∷ [])) (9 ∷ 9 ∷ 9 ∷ 9 ∷ [])) ≡ no_room_lem
  pub reply_room_longer : write_reply_room (holds (1 ∷ [])) (9 ∷ 8 ∷ 7 ∷ 6 ∷ 5 ∷ 4 ∷ []) ≡ 0x00 ∷ 0x00 ∷ 0x01 ∷ 0x01 ∷ 0xFF ∷ 0x04 ∷ []
  -- by numbers, what was read: 0 for what a form lacks
  pub told_refused : request_told (requested_by (not_request 2)) ≡ record { code = 2; kind = 0; id = 0; offset = 0; count = 0; start = 0 }
  pub told_full_read : request_told (requested_by (is_request (full_read 5))) ≡ record { code = 0; kind = 48; id = 5; offset = 0; count = 0; start = 0 }
  pub told_offset_read : request_told (requested_by (is_request (offset_read 5 6 7))) ≡ record { code = 0; kind = 63; id = 5; offset = 6; count = 7; start = 0 }
  pub told_full_write : request_told (requested_by (is_request (full_write 5 (1 ∷ 2 ∷ [])))) ≡ record { code = 0; kind = 64; id = 5; offset = 0; count = 2; start = 5 }
  pub told_offset_write : request_told (requested_by (is_request (offset_write 5 6 (1 ∷ [])))) ≡ record { code = 0; kind = 79; id = 5; offset = 6; count = 1; start = 8 }
  pub told_data : reply_told (heard_by (some (holds (1 ∷ 2 ∷ [])))) ≡ record { refusal = record { number = 0; item = 0; octet = 0; depth = 0 }; kind = 1; code = 0; count = 2; start = 3 }
  pub told_done : reply_told (heard_by (some done)) ≡ record { refusal = record { number = 0; item = 0; octet = 0; depth = 0 }; kind = 2; code = 0; count = 0; start = 0 }
  pub told_code : reply_told (heard_by (some (refuses 4))) ≡ record { refusal = record { number = 0; item = 0; octet = 0; depth = 0 }; kind = 3; code = 4; count = 0; start = 0 }
  pub told_43 : reply_told (heard_by none) ≡ record { refusal = record { number = 43; item = 0; octet = 0; depth = 0 }; kind = 0; code = 0; count = 0; start = 0 }
  -- by numbers, what is to be written: what a form lacks isn't judged, another kind is 21
  pub of_48 : request_of 48 5 6 7 (1 ∷ []) ≡ some (full_read 5)
  pub of_63 : request_of 63 5 6 7 (1 ∷ []) ≡ some (offset_read 5 6 7)
  pub of_64 : request_of 64 5 6 7 (1 ∷ []) ≡ some (full_write 5 (1 ∷ []))
  pub of_79 : request_of 79 5 6 7 (1 ∷ []) ≡ some (offset_write 5 6 (1 ∷ []))
  pub of_47 : request_of 47 5 6 7 (1 ∷ []) ≡ none
  pub lacking : numbers_of 5 (request_sent (request_of 48 5 16777216 65536 (1 ∷ [])) (replicate 3 0)) ≡ gives (3 ∷ [])
  pub kind_49 : numbers_of 5 (request_sent (request_of 49 5 0 0 []) (replicate 20 0)) ≡ no_room_lem
  pub of_1 : reply_of 1 4 (1 ∷ []) ≡ some (holds (1 ∷ []))
  pub of_2 : reply_of 2 4 (1 ∷ []) ≡ some done
  pub of_3 : reply_of 3 4 (1 ∷ []) ≡ some (refuses 4)
  pub of_0 : reply_of 0 4 (1 ∷ []) ≡ none
  pub code_unjudged : numbers_of 5 (reply_sent (reply_of 2 5 (1 ∷ [])) (0 ∷ [])) ≡ gives (1 ∷ [])
  pub kind_4 : numbers_of 5 (reply_sent (reply_of 4 1 []) (replicate 20 0)) ≡ no_room_lem
  -- a range read; none at the table's end, past it 12; no table 6, 10. Table 0 may be read, though not written
  pub range_place_lem : ranged 0 5 2 3 ≡ gives (4 ∷ 3 ∷ [])
  pub range_octets : read_range_part D first 0 5 (offset 2) 3 ≡ 0x34 ∷ 0x12 ∷ 0x78 ∷ []
  pub range_read_only : ranged 0 0 1 1 ≡ gives (1 ∷ 1 ∷ [])
  pub range_end : ranged 0 5 6 0 ≡ gives (8 ∷ 0 ∷ [])
  pub range_past : ranged 0 5 7 0 ≡ refusal 12 0 0 (0 ∷ 0 ∷ [])
  pub range_over : ranged 0 5 5 2 ≡ refusal 12 0 0 (0 ∷ 0 ∷ [])
  pub range_no_table : ranged 0 6 0 0 ≡ refusal 10 0 0 (0 ∷ 0 ∷ [])
  -- SERVED: table 5 read whole; a range of it; a count of 0 asks for no octets, at its end and inside it
  pub whole : serves D first read_5 ≡ 0x00 ∷ 0x00 ∷ 0x06 ∷ 0xAA ∷ 0xBB ∷ 0x34 ∷ 0x12 ∷ 0x78 ∷ 0x56 ∷ 0x87 ∷ []
  pub range_served : serves D first (0x3F ∷ 0x00 ∷ 0x05 ∷ 0x00 ∷ 0x00 ∷ 0x02 ∷ 0x00 ∷ 0x03 ∷ []) ≡ 0x00 ∷ 0x00 ∷ 0x03 ∷ 0x34 ∷ 0x12 ∷ 0x78 ∷ 0x42 ∷ 0xFF ∷ 0xFF ∷ 0xFF ∷ []
  pub no_octets : serves D first (0x3F ∷ 0x00 ∷ 0x05 ∷ 0x00 ∷ 0x00 ∷ 0x06 ∷ 0x00 ∷ 0x00 ∷ []) ≡ 0x00 ∷ 0x00 ∷ 0x00 ∷ 0x00 ∷ 0xFF ∷ 0xFF ∷ 0xFF ∷ 0xFF ∷ 0xFF ∷ 0xFF ∷ []
  pub no_octets_inside : serves D first (0x3F ∷ 0x00 ∷ 0x05 ∷ 0x00 ∷ 0x00 ∷ 0x02 ∷ 0x00 ∷ 0x00 ∷ []) ≡ 0x00 ∷ 0x00 ∷ 0x00 ∷ 0x00 ∷ 0xFF ∷ 0xFF ∷ 0xFF ∷ 0xFF ∷ 0xFF ∷ 0xFF ∷ []
  -- ids: 5 + 4,096 names no table, nor 5 + 2,048 where no manufacturer's table 5 is; 2,047 and 2,048, 4,095 and 4,096
  pub id_4101 : serves D first (0x30 ∷ 0x10 ∷ 0x05 ∷ []) ≡ replies 4
  pub id_2053 : serves D first (0x30 ∷ 0x08 ∷ 0x05 ∷ []) ≡ replies 4
  pub id_2047 : serves ends ends_image (0x30 ∷ 0x07 ∷ 0xFF ∷ []) ≡ 0x00 ∷ 0x00 ∷ 0x01 ∷ 0x0A ∷ 0xF6 ∷ 0xFF ∷ 0xFF ∷ 0xFF ∷ 0xFF ∷ 0xFF ∷ []
  pub id_2048 : serves ends ends_image (0x30 ∷ 0x08 ∷ 0x00 ∷ []) ≡ 0x00 ∷ 0x00 ∷ 0x01 ∷ 0x0B ∷ 0xF5 ∷ 0xFF ∷ 0xFF ∷ 0xFF ∷ 0xFF ∷ 0xFF ∷ []
  pub id_4095 : serves ends ends_image (0x30 ∷ 0x0F ∷ 0xFF ∷ []) ≡ 0x00 ∷ 0x00 ∷ 0x01 ∷ 0x0C ∷ 0xF4 ∷ 0xFF ∷ 0xFF ∷ 0xFF ∷ 0xFF ∷ 0xFF ∷ []
  pub id_4096 : serves ends ends_image (0x30 ∷ 0x10 ∷ 0x00 ∷ []) ≡ replies 4
  -- table 5 written whole, and a range of it; written whole with an octet less it is 04 and the image stays; a table of no octets
  pub write_whole : serves D first write_5 ≡ replies 0
  pub write_whole_image : serves_image D first write_5 ≡ 0x00 ∷ 0x82 ∷ 0x01 ∷ 0x02 ∷ 0x03 ∷ 0x04 ∷ 0x05 ∷ 0x06 ∷ []
  pub write_part : serves D first (0x4F ∷ 0x00 ∷ 0x05 ∷ 0x00 ∷ 0x00 ∷ 0x04 ∷ 0x00 ∷ 0x02 ∷ 0x01 ∷ 0x02 ∷ 0xFD ∷ []) ≡ replies 0
  pub write_part_image : serves_image D first (0x4F ∷ 0x00 ∷ 0x05 ∷ 0x00 ∷ 0x00 ∷ 0x04 ∷ 0x00 ∷ 0x02 ∷ 0x01 ∷ 0x02 ∷ 0xFD ∷ []) ≡ 0x00 ∷ 0x82 ∷ 0xAA ∷ 0xBB ∷ 0x34 ∷ 0x12 ∷ 0x01 ∷ 0x02 ∷ []
  pub write_less : serves D first (0x40 ∷ 0x00 ∷ 0x05 ∷ 0x00 ∷ 0x05 ∷ 0x01 ∷ 0x02 ∷ 0x03 ∷ 0x04 ∷ 0x05 ∷ 0xF1 ∷ []) ≡ replies 4
  pub write_less_image : serves_image D first (0x40 ∷ 0x00 ∷ 0x05 ∷ 0x00 ∷ 0x05 ∷ 0x01 ∷ 0x02 ∷ 0x03 ∷ 0x04 ∷ 0x05 ∷ 0xF1 ∷ []) ≡ first
  pub write_none_of_none : serves D (0 ∷ 0 ∷ []) (0x40 ∷ 0x00 ∷ 0x05 ∷ 0x00 ∷ 0x00 ∷ 0x00 ∷ []) ≡ replies 0
  -- table 0 isn't writable: 03, for no octets too; a wrong count is 04, since 12 comes before 13
  pub read_only : serves D first write_0 ≡ replies 3
  pub read_only_none : serves D first (0x4F ∷ 0x00 ∷ 0x00 ∷ 0x00 ∷ 0x00 ∷ 0x02 ∷ 0x00 ∷ 0x00 ∷ 0x00 ∷ []) ≡ replies 3
  pub read_only_count : serves D first (0x40 ∷ 0x00 ∷ 0x00 ∷ 0x00 ∷ 0x01 ∷ 0x00 ∷ 0x00 ∷ []) ≡ replies 4
  -- where it is writable, its dimensions may not be touched: 04
  pub dimension_whole : serves D_writable first write_0 ≡ replies 4
  pub dimension_part : serves D_writable first (0x4F ∷ 0x00 ∷ 0x00 ∷ 0x00 ∷ 0x00 ∷ 0x01 ∷ 0x00 ∷ 0x01 ∷ 0x82 ∷ 0x7E ∷ []) ≡ replies 4
  -- a room shorter than the reply, one octet where a write is done or refused: 21, and neither room nor image changes
  pub no_room_write : numbers_of 5 (serve_reply D first write_5 []) ≡ no_room_lem
  pub no_room_image : serve_image D first write_5 [] ≡ first
  pub one_octet : numbers_of 5 (serve_reply D first write_5 (9 ∷ [])) ≡ gives (1 ∷ [])
  pub room_9 : numbers_of 5 (serve_reply D first read_5 (replicate 9 9)) ≡ no_room_lem
  pub room_9_stays : serve_room D first read_5 (replicate 9 9) ≡ 9 ∷ 9 ∷ 9 ∷ 9 ∷ 9 ∷ 9 ∷ 9 ∷ 9 ∷ 9 ∷ []
  pub no_room_refusal : numbers_of 5 (serve_reply D first [] []) ≡ no_room_lem
  -- 1 to 9 are 04, and come after 01 and 02; a wrong check octet is 01
  pub unsound : serves D_unset first read_5 ≡ replies 4
  pub unsound_empty : serves D_unset first [] ≡ replies 1
  pub unsound_unknown : serves D_unset first (0x31 ∷ []) ≡ replies 2
  pub short_image : serves D first_cut read_5 ≡ replies 4
  pub bad_check : serves D first (0x40 ∷ 0x00 ∷ 0x05 ∷ 0x00 ∷ 0x06 ∷ 0x01 ∷ 0x02 ∷ 0x03 ∷ 0x04 ∷ 0x05 ∷ 0x06 ∷ 0xEC ∷ []) ≡ replies 1
