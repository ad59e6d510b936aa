-- Every definition of specs/ opened at once, for proofs that compute: `unfolding computing` says `unfolding` of all of them.
use Rattle.meaning.specs.Basics.{part, splice, least_first, most_first, octets_least_first, number_in, octets_in, build}
use Rattle.meaning.specs.Description.{word_at, octets_of_code, table_of, uint_of, block_of, set_of, array_of, if_of, fields_of, inside, around, round, slot_octets, table_given, breaks2, is_table00, is_data_order, misplaced, breaks3, breaks4, breaks5, breaks6, breaks7, lowest_broken, rule_broken, breaks1, first_broken, check_reply}
use Rattle.meaning.specs.Layout.{arms_of, if_branches, branches_in, node_of, body_of, body_at, table_at, tables_of, tree_of, set_slot, bit_range, set_octets, leaf_octets, data_order, number_at, and_then, reading, valued, in_image, placed, size_from, under, as_element, repeated, seated, lay_tables, lay_out, same_list, element_named, table_named, lay_body, value, number_of, taken}
use Rattle.meaning.specs.Causes.{arrays_round, in_branch, hindrance, in_the_way, why_none}
use Rattle.meaning.specs.Refusals.{told_by, numbers_of, verdict_reply, place_reply, fault_rule, stop_refusal, open_laid, open_sound, open_image, layout_in, layout_reply, seat_place, table_place_in, table_place_reply, element_in, element_for, placed_place, element_place_in, element_place_reply, integer_place_reply, place_part, table_part_reply, element_part_reply, range_at, read_range_reply, read_range_part, place_number, element_number_reply, place_verdict, image_with, table_around, writable, any_dimension, allowed, range_of, range_in, range_place, write_range_reply, write_range_image, fitting, allowed_at, written_in, write_octets_reply, write_octets_image, image_with_number, write_number_reply, write_number_image}
use Rattle.meaning.specs.Calendar.{leap, month_length, real_date, real_time, year_days, month_days, day_number, weekday_of, controls_of, dates_at, switches_at, matrix_at, day_columns, row_width, table54_size, triple_at, triples, or_later, latest, year_of, record_real, record_day, action, selects_season, season_entry, special_entry, dates_of, season_on, in_season, season_stands, special_on, day_column, column_on, missing_special, cell_at, flagged_for, counts, switch_minute, switch_entry, switches_of, tier_from, tier_by_schedule, sized, seats_found, calendar_in, calendar, tier_on, tier_day, tier_in, tier_reply, seasoned_in, seasoned_reply, weekday_reply, matrix_cell, matrix_of, matrix_in, matrix_reply, matrix_verdict_in, matrix_verdict, cells_after}
use mathlib.Core.List.{flatten}
use Rattle.meaning.specs.Questions.{outcome_of, reply_to, told_to, octets_to, image_after, refusal_in, refusal_to}
use Rattle.meaning.specs.Messages.{number_from, sum_of, check_octet, counted, data_from, is_counted, request_octets, request_fits, as_request, request_by, request_in, requested_by, request_data, reply_octets, reply_fits, short_reply, reply_in, heard_by, reply_data, sent, sent_reply, sent_room, other_size, write_table_reply, write_table_image, request_outcome, good_reply, code_of, unless_refused, answer_to, image_answered, serve_reply, serve_room, serve_image, request_told, reply_told, request_of, reply_of, request_sent, request_room, reply_sent, reply_room}

unfoldable pub computing : Unit {0}
unfolding flatten outcome_of reply_to told_to octets_to image_after refusal_in refusal_to part splice least_first most_first octets_least_first number_in octets_in build word_at octets_of_code table_of uint_of block_of set_of array_of if_of fields_of inside around round slot_octets table_given breaks2 is_table00 is_data_order misplaced breaks3 breaks4 breaks5 breaks6 breaks7 lowest_broken rule_broken breaks1 first_broken check_reply arms_of if_branches branches_in node_of body_of body_at table_at tables_of tree_of set_slot bit_range set_octets leaf_octets data_order number_at and_then reading valued in_image placed size_from under as_element repeated seated lay_tables lay_out same_list element_named table_named lay_body told_by numbers_of verdict_reply place_reply fault_rule stop_refusal open_laid open_sound open_image layout_in layout_reply seat_place table_place_in table_place_reply element_in element_for placed_place element_place_in element_place_reply integer_place_reply arrays_round in_branch hindrance in_the_way why_none value number_of taken place_part table_part_reply element_part_reply range_at read_range_reply read_range_part place_number element_number_reply place_verdict image_with table_around writable any_dimension allowed range_of range_in range_place write_range_reply write_range_image fitting allowed_at written_in write_octets_reply write_octets_image image_with_number write_number_reply write_number_image leap month_length real_date real_time year_days month_days day_number weekday_of controls_of dates_at switches_at matrix_at day_columns row_width table54_size triple_at triples or_later latest year_of record_real record_day action selects_season season_entry special_entry dates_of season_on in_season season_stands special_on day_column column_on missing_special cell_at flagged_for counts switch_minute switch_entry switches_of tier_from tier_by_schedule sized seats_found calendar_in calendar tier_on tier_day tier_in tier_reply seasoned_in seasoned_reply weekday_reply matrix_cell matrix_of matrix_in matrix_reply matrix_verdict_in matrix_verdict cells_after number_from sum_of check_octet counted data_from is_counted request_octets request_fits as_request request_by request_in requested_by request_data reply_octets reply_fits short_reply reply_in heard_by reply_data sent sent_reply sent_room other_size write_table_reply write_table_image request_outcome good_reply code_of unless_refused answer_to image_answered serve_reply serve_room serve_image request_told reply_told request_of reply_of request_sent request_room reply_sent reply_room
computing = tt
