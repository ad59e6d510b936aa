-- ONE REPLY, CALL BY CALL: no second reply fits what a public call of a library states, and no second content of the memory lent to it to be written. Each line is over
-- the contract that Rattle makes from the call's `ensures`; tests/audit fails where a public call has no line here. Assumes nothing.
use mathlib.Core.Path.{refl, sym, ◌∙◌}
use Rattle.unique.specs.One.{OneReply, OnePart}
use Rattle.unique.proofs.kept as kept
use Rattle.offsets.proofs.TableOffset.new as offsets-TableOffset-new
use Rattle.offsets.proofs.TableOffset.octets as offsets-TableOffset-octets
use Rattle.offsets.proofs.ImageOffset.octet as offsets-ImageOffset-octet
use Rattle.offsets.proofs.TableStart.first as offsets-TableStart-first
use Rattle.offsets.proofs.TableStart.after as offsets-TableStart-after
use Rattle.offsets.proofs.TableStart.in_image as offsets-TableStart-in-image
use Rattle.basics.proofs.both as basics-both
use Rattle.basics.proofs.either as basics-either
use Rattle.basics.proofs.wide as basics-wide
use Rattle.basics.proofs.bit_range as basics-bit-range
use Rattle.basics.proofs.least as basics-least
use Rattle.basics.proofs.ends_within as basics-ends-within
use Rattle.octets.proofs.data_order as octets-data-order
use Rattle.octets.proofs.part as octets-part
use Rattle.octets.proofs.number_in as octets-number-in
use Rattle.octets.proofs.number_at as octets-number-at
use Rattle.octets.proofs.fill as octets-fill
use Rattle.octets.proofs.copy as octets-copy
use Rattle.octets.proofs.put_octets as octets-put-octets
use Rattle.octets.proofs.put_number as octets-put-number
use Rattle.items.proofs.kind_numbered as items-kind-numbered
use Rattle.items.proofs.is_choice as items-is-choice
use Rattle.items.proofs.nests as items-nests
use Rattle.items.proofs.Cursor.first as items-Cursor-first
use Rattle.items.proofs.Cursor.read as items-Cursor-read
use Rattle.items.proofs.Cursor.past as items-Cursor-past
use Rattle.items.proofs.Cursor.item as items-Cursor-item
use Rattle.sound.proofs.check as sound-check
use Rattle.places.proofs.layout as places-layout
use Rattle.places.proofs.table_places as places-table-places
use Rattle.places.proofs.table_place as places-table-place
use Rattle.places.proofs.element_place as places-element-place
use Rattle.places.proofs.integer_place as places-integer-place
use Rattle.places.proofs.range_in as places-range-in
use Rattle.access.proofs.table_part as access-table-part
use Rattle.access.proofs.range_place as access-range-place
use Rattle.access.proofs.range_part as access-range-part
use Rattle.access.proofs.element_part as access-element-part
use Rattle.access.proofs.element_number as access-element-number
use Rattle.access.proofs.write_range as access-write-range
use Rattle.access.proofs.write_table as access-write-table
use Rattle.access.proofs.write_octets as access-write-octets
use Rattle.access.proofs.write_number as access-write-number
use Rattle.dates.proofs.day_of as dates-day-of
use Rattle.dates.proofs.weekday as dates-weekday
use Rattle.dates.proofs.weekday_of as dates-weekday-of
use Rattle.dates.proofs.is_time as dates-is-time
use Rattle.records.proofs.latest as records-latest
use Rattle.calendar.proofs.tier as calendar-tier
use Rattle.calendar.proofs.seasoned as calendar-seasoned
use Rattle.calendar.proofs.matrix as calendar-matrix
use Rattle.calendar.proofs.matrix_verdict as calendar-matrix-verdict
use Rattle.calendar.proofs.matrix_into as calendar-matrix-into
use Rattle.messages.proofs.read_request as messages-read-request
use Rattle.messages.proofs.request_data as messages-request-data
use Rattle.messages.proofs.write_request as messages-write-request
use Rattle.messages.proofs.read_reply as messages-read-reply
use Rattle.messages.proofs.reply_data as messages-reply-data
use Rattle.messages.proofs.write_reply as messages-write-reply
use Rattle.messages.proofs.serve as messages-serve
use Rattle.replies.proofs.told as replies-told
use Rattle.replies.proofs.numbers as replies-numbers
use Rattle.replies.proofs.verdict_told as replies-verdict-told
use Rattle.replies.proofs.place_told as replies-place-told
use Rattle.replies.proofs.request_told as replies-request-told
use Rattle.replies.proofs.reply_told as replies-reply-told
use Rattle.replies.proofs.cells as replies-cells
use Rattle.replies.proofs.quantity as replies-quantity
use Rattle.words.proofs.number as words-number
use Rattle.words.proofs.octets as words-octets
use Rattle.words.proofs.split as words-split
use Rattle.words.proofs.word as words-word
use Rattle.words.proofs.index_of as words-index-of
use Rattle.words.proofs.put_text as words-put-text
use Rattle.words.proofs.put_octet as words-put-octet
use Rattle.words.proofs.put_number as words-put-number
use Rattle.words.proofs.put_octets as words-put-octets
use Rattle.bilashonge.proofs.TotalFromTold.from as bilashonge-TotalFromTold-from
use Rattle.bilashonge.proofs.PlaceFromTold.from as bilashonge-PlaceFromTold-from
use Rattle.bilashonge.proofs.NumberFromTold.from as bilashonge-NumberFromTold-from
use Rattle.bilashonge.proofs.TierFromTold.from as bilashonge-TierFromTold-from
use Rattle.bilashonge.proofs.AnswerFromTold.from as bilashonge-AnswerFromTold-from
use Rattle.bilashonge.proofs.WeekdayFromTold.from as bilashonge-WeekdayFromTold-from
use Rattle.bilashonge.proofs.bilashonge_check as bilashonge-check
use Rattle.bilashonge.proofs.bilashonge_layout as bilashonge-layout
use Rattle.bilashonge.proofs.bilashonge_table_place as bilashonge-table-place
use Rattle.bilashonge.proofs.bilashonge_range_place as bilashonge-range-place
use Rattle.bilashonge.proofs.bilashonge_element_place as bilashonge-element-place
use Rattle.bilashonge.proofs.bilashonge_element_number as bilashonge-element-number
use Rattle.bilashonge.proofs.bilashonge_write_range as bilashonge-write-range
use Rattle.bilashonge.proofs.bilashonge_write_octets as bilashonge-write-octets
use Rattle.bilashonge.proofs.bilashonge_write_number as bilashonge-write-number
use Rattle.bilashonge.proofs.bilashonge_tier_at as bilashonge-tier-at
use Rattle.bilashonge.proofs.bilashonge_seasoned as bilashonge-seasoned
use Rattle.bilashonge.proofs.bilashonge_weekday_of as bilashonge-weekday-of
use Rattle.bilashonge.proofs.bilashonge_matrix as bilashonge-matrix
use Rattle.bilashonge.proofs.bilashonge_serve as bilashonge-serve
use Rattle.bilashonge.proofs.bilashonge_read_request as bilashonge-read-request
use Rattle.bilashonge.proofs.bilashonge_write_request as bilashonge-write-request
use Rattle.bilashonge.proofs.bilashonge_read_reply as bilashonge-read-reply
use Rattle.bilashonge.proofs.bilashonge_write_reply as bilashonge-write-reply

-- crates/offsets
pub one_offsets_Table_offset_new : OneReply _ offsets-TableOffset-new.Kinds.ps offsets-TableOffset-new.Kinds.r offsets-TableOffset-new.Reads.Learnt
one_offsets_Table_offset_new κs a x y later other p q = ((λ i. record { 0 = (p ∙ sym q) i }), refl)

pub one_offsets_Table_offset_octets : OneReply _ offsets-TableOffset-octets.Kinds.ps offsets-TableOffset-octets.Kinds.r offsets-TableOffset-octets.Reads.Learnt
one_offsets_Table_offset_octets κs a x y later other p q = (p ∙ sym q, refl)

pub one_offsets_Image_offset_octet : OneReply _ offsets-ImageOffset-octet.Kinds.ps offsets-ImageOffset-octet.Kinds.r offsets-ImageOffset-octet.Reads.Learnt
one_offsets_Image_offset_octet κs a x y later other p q = (p ∙ sym q, refl)

pub one_offsets_Table_start_first : OneReply _ offsets-TableStart-first.Kinds.ps offsets-TableStart-first.Kinds.r offsets-TableStart-first.Reads.Learnt
one_offsets_Table_start_first κs a x y later other p q = ((λ i. record { 0 = (p ∙ sym q) i }), refl)

pub one_offsets_Table_start_after : OneReply _ offsets-TableStart-after.Kinds.ps offsets-TableStart-after.Kinds.r offsets-TableStart-after.Reads.Learnt
one_offsets_Table_start_after κs a x y later other p q = ((λ i. record { 0 = (p ∙ sym q) i }), refl)

pub one_offsets_Table_start_in_image : OneReply _ offsets-TableStart-in-image.Kinds.ps offsets-TableStart-in-image.Kinds.r offsets-TableStart-in-image.Reads.Learnt
one_offsets_Table_start_in_image κs a x y later other p q = ((λ i. record { 0 = (p ∙ sym q) i }), refl)

-- crates/basics
pub one_basics_both : OneReply _ basics-both.Kinds.ps basics-both.Kinds.r basics-both.Reads.Learnt
one_basics_both κs a x y later other p q = (p ∙ sym q, refl)

pub one_basics_either : OneReply _ basics-either.Kinds.ps basics-either.Kinds.r basics-either.Reads.Learnt
one_basics_either κs a x y later other p q = (p ∙ sym q, refl)

pub one_basics_wide : OneReply _ basics-wide.Kinds.ps basics-wide.Kinds.r basics-wide.Reads.Learnt
one_basics_wide κs a x y later other p q = (p.0 ∙ sym q.0, refl)

pub one_basics_bit_range : OneReply _ basics-bit-range.Kinds.ps basics-bit-range.Kinds.r basics-bit-range.Reads.Learnt
one_basics_bit_range κs a x y later other p q = (p ∙ sym q, refl)

pub one_basics_least : OneReply _ basics-least.Kinds.ps basics-least.Kinds.r basics-least.Reads.Learnt
one_basics_least κs a x y later other p q = (p ∙ sym q, refl)

pub one_basics_ends_within : OneReply _ basics-ends-within.Kinds.ps basics-ends-within.Kinds.r basics-ends-within.Reads.Learnt
one_basics_ends_within κs a x y later other p q = (p ∙ sym q, refl)

-- crates/octets
pub one_octets_data_order : OneReply _ octets-data-order.Kinds.ps octets-data-order.Kinds.r octets-data-order.Reads.Learnt
one_octets_data_order κs a x y later other p q = (p ∙ sym q, refl)

pub one_octets_part : OnePart _ octets-part.Kinds.ps octets-part.Kinds.r (λ κs x. (x.ref_ptr, x.now)) octets-part.Reads.Learnt
one_octets_part κs a x y later other p q = ((λ i. ((p.1 ∙ sym q.1) i, (p.0 ∙ sym q.0) i)), refl)

pub one_octets_number_in : OneReply _ octets-number-in.Kinds.ps octets-number-in.Kinds.r octets-number-in.Reads.Learnt
one_octets_number_in κs a x y later other p q = (p.0 ∙ sym q.0, refl)

pub one_octets_number_at : OneReply _ octets-number-at.Kinds.ps octets-number-at.Kinds.r octets-number-at.Reads.Learnt
one_octets_number_at κs a x y later other p q = (p.0 ∙ sym q.0, refl)

pub one_octets_fill : OneReply _ octets-fill.Kinds.ps octets-fill.Kinds.r octets-fill.Reads.Learnt
one_octets_fill κs a x y later other p q = (refl, λ i. ((p ∙ sym q) i, (tt, (tt, tt))))

pub one_octets_copy : OneReply _ octets-copy.Kinds.ps octets-copy.Kinds.r octets-copy.Reads.Learnt
one_octets_copy κs a x y later other p q = (refl, λ i. (tt, ((p ∙ sym q) i, tt)))

pub one_octets_put_octets : OneReply _ octets-put-octets.Kinds.ps octets-put-octets.Kinds.r octets-put-octets.Reads.Learnt
one_octets_put_octets κs a x y later other p q = (refl, λ i. ((p ∙ sym q) i, (tt, (tt, tt))))

pub one_octets_put_number : OneReply _ octets-put-number.Kinds.ps octets-put-number.Kinds.r octets-put-number.Reads.Learnt
one_octets_put_number κs a x y later other p q = (refl, λ i. ((p ∙ sym q) i, (tt, (tt, (tt, tt)))))

-- crates/items
pub one_items_kind_numbered : OneReply _ items-kind-numbered.Kinds.ps items-kind-numbered.Kinds.r items-kind-numbered.Reads.Learnt
one_items_kind_numbered κs a x y later other p q = (p ∙ sym q, refl)

pub one_items_is_choice : OneReply _ items-is-choice.Kinds.ps items-is-choice.Kinds.r items-is-choice.Reads.Learnt
one_items_is_choice κs a x y later other p q = (p ∙ sym q, refl)

pub one_items_nests : OneReply _ items-nests.Kinds.ps items-nests.Kinds.r items-nests.Reads.Learnt
one_items_nests κs a x y later other p q = (p ∙ sym q, refl)

pub one_items_Cursor_first : OneReply _ items-Cursor-first.Kinds.ps items-Cursor-first.Kinds.r items-Cursor-first.Reads.Learnt
one_items_Cursor_first κs a x y later other p q = ((λ i. record { at = (p ∙ sym q) i }), refl)

pub one_items_Cursor_read : OneReply _ items-Cursor-read.Kinds.ps items-Cursor-read.Kinds.r items-Cursor-read.Reads.Learnt
one_items_Cursor_read κs a x y later other p q = (p ∙ sym q, refl)

pub one_items_Cursor_past : OneReply _ items-Cursor-past.Kinds.ps items-Cursor-past.Kinds.r items-Cursor-past.Reads.Learnt
one_items_Cursor_past κs a x y later other p q = ((λ i. record { at = (p ∙ sym q) i }), refl)

pub one_items_Cursor_item : OneReply _ items-Cursor-item.Kinds.ps items-Cursor-item.Kinds.r items-Cursor-item.Reads.Learnt
one_items_Cursor_item κs a x y later other p q = (p ∙ sym q, refl)

-- crates/sound
pub one_sound_check : OneReply _ sound-check.Kinds.ps sound-check.Kinds.r sound-check.Reads.Learnt
one_sound_check κs a x y later other p q = (p ∙ sym q, refl)

-- crates/places
pub one_places_layout : OneReply _ places-layout.Kinds.ps places-layout.Kinds.r places-layout.Reads.Learnt
one_places_layout κs a x y later other p q = (p ∙ sym q, refl)

pub one_places_table_places : OneReply _ places-table-places.Kinds.ps places-table-places.Kinds.r places-table-places.Reads.Learnt
one_places_table_places κs a x y later other p q = ((λ i. record { first = (p.0 ∙ sym q.0) i; second = (p.1 ∙ sym q.1) i }), refl)

pub one_places_table_place : OneReply _ places-table-place.Kinds.ps places-table-place.Kinds.r places-table-place.Reads.Learnt
one_places_table_place κs a x y later other p q = (p ∙ sym q, refl)

pub one_places_element_place : OneReply _ places-element-place.Kinds.ps places-element-place.Kinds.r places-element-place.Reads.Learnt
one_places_element_place κs a x y later other p q = (p ∙ sym q, refl)

pub one_places_integer_place : OneReply _ places-integer-place.Kinds.ps places-integer-place.Kinds.r places-integer-place.Reads.Learnt
one_places_integer_place κs a x y later other p q = (p ∙ sym q, refl)

pub one_places_range_in : OneReply _ places-range-in.Kinds.ps places-range-in.Kinds.r places-range-in.Reads.Learnt
one_places_range_in κs a x y later other p q = (p ∙ sym q, refl)

-- crates/access
pub one_access_table_part : OnePart _ access-table-part.Kinds.ps access-table-part.Kinds.r (λ κs x. (x.ref_ptr, x.now)) access-table-part.Reads.Learnt
one_access_table_part κs a x y later other p q = ((λ i. ((p.1 ∙ sym q.1) i, (p.0 ∙ sym q.0) i)), refl)

pub one_access_range_place : OneReply _ access-range-place.Kinds.ps access-range-place.Kinds.r access-range-place.Reads.Learnt
one_access_range_place κs a x y later other p q = (p ∙ sym q, refl)

pub one_access_range_part : OnePart _ access-range-part.Kinds.ps access-range-part.Kinds.r (λ κs x. (x.ref_ptr, x.now)) access-range-part.Reads.Learnt
one_access_range_part κs a x y later other p q = ((λ i. ((p.1 ∙ sym q.1) i, (p.0 ∙ sym q.0) i)), refl)

pub one_access_element_part : OnePart _ access-element-part.Kinds.ps access-element-part.Kinds.r (λ κs x. (x.ref_ptr, x.now)) access-element-part.Reads.Learnt
one_access_element_part κs a x y later other p q = ((λ i. ((p.1 ∙ sym q.1) i, (p.0 ∙ sym q.0) i)), refl)

pub one_access_element_number : OneReply _ access-element-number.Kinds.ps access-element-number.Kinds.r access-element-number.Reads.Learnt
one_access_element_number κs a x y later other p q = (p ∙ sym q, refl)

pub one_access_write_range : OneReply _ access-write-range.Kinds.ps access-write-range.Kinds.r access-write-range.Reads.Learnt
one_access_write_range κs a x y later other p q = (p.0 ∙ sym q.0, λ i. (tt, ((p.1 ∙ sym q.1) i, (tt, (tt, (tt, (tt, tt)))))))

pub one_access_write_table : OneReply _ access-write-table.Kinds.ps access-write-table.Kinds.r access-write-table.Reads.Learnt
one_access_write_table κs a x y later other p q = (p.0 ∙ sym q.0, λ i. (tt, ((p.1 ∙ sym q.1) i, (tt, (tt, (tt, tt))))))

pub one_access_write_octets : OneReply _ access-write-octets.Kinds.ps access-write-octets.Kinds.r access-write-octets.Reads.Learnt
one_access_write_octets κs a x y later other p q = (p.0 ∙ sym q.0, λ i. (tt, ((p.1 ∙ sym q.1) i, (tt, (tt, tt)))))

pub one_access_write_number : OneReply _ access-write-number.Kinds.ps access-write-number.Kinds.r access-write-number.Reads.Learnt
one_access_write_number κs a x y later other p q = (p.0 ∙ sym q.0, λ i. (tt, ((p.1 ∙ sym q.1) i, (tt, (tt, tt)))))

-- crates/dates
pub one_dates_day_of : OneReply _ dates-day-of.Kinds.ps dates-day-of.Kinds.r dates-day-of.Reads.Learnt
one_dates_day_of κs a x y later other p q = (p ∙ sym q, refl)

pub one_dates_weekday : OneReply _ dates-weekday.Kinds.ps dates-weekday.Kinds.r dates-weekday.Reads.Learnt
one_dates_weekday κs a x y later other p q = (p ∙ sym q, refl)

pub one_dates_weekday_of : OneReply _ dates-weekday-of.Kinds.ps dates-weekday-of.Kinds.r dates-weekday-of.Reads.Learnt
one_dates_weekday_of κs a x y later other p q = (p ∙ sym q, refl)

pub one_dates_is_time : OneReply _ dates-is-time.Kinds.ps dates-is-time.Kinds.r dates-is-time.Reads.Learnt
one_dates_is_time κs a x y later other p q = (p ∙ sym q, refl)

-- crates/records
pub one_records_latest : OneReply _ records-latest.Kinds.ps records-latest.Kinds.r records-latest.Reads.Learnt
one_records_latest κs a x y later other p q = (p ∙ sym q, refl)

-- crates/calendar
pub one_calendar_tier : OneReply _ calendar-tier.Kinds.ps calendar-tier.Kinds.r calendar-tier.Reads.Learnt
one_calendar_tier κs a x y later other p q = (p ∙ sym q, refl)

pub one_calendar_seasoned : OneReply _ calendar-seasoned.Kinds.ps calendar-seasoned.Kinds.r calendar-seasoned.Reads.Learnt
one_calendar_seasoned κs a x y later other p q = (p ∙ sym q, refl)

pub one_calendar_matrix : OneReply _ calendar-matrix.Kinds.ps calendar-matrix.Kinds.r calendar-matrix.Reads.Learnt
one_calendar_matrix κs a x y later other p q = (p ∙ sym q, refl)

pub one_calendar_matrix_verdict : OneReply _ calendar-matrix-verdict.Kinds.ps calendar-matrix-verdict.Kinds.r calendar-matrix-verdict.Reads.Learnt
one_calendar_matrix_verdict κs a x y later other p q = (p ∙ sym q, refl)

pub one_calendar_matrix_into : OneReply _ calendar-matrix-into.Kinds.ps calendar-matrix-into.Kinds.r calendar-matrix-into.Reads.Learnt
one_calendar_matrix_into κs a x y later other p q = (p.0 ∙ sym q.0, λ i. (tt, (tt, ((p.1 ∙ sym q.1) i, tt))))

-- crates/messages
pub one_messages_read_request : OneReply _ messages-read-request.Kinds.ps messages-read-request.Kinds.r messages-read-request.Reads.Learnt
one_messages_read_request κs a x y later other p q = (p ∙ sym q, refl)

pub one_messages_request_data : OnePart _ messages-request-data.Kinds.ps messages-request-data.Kinds.r (λ κs x. (x.ref_ptr, x.now)) messages-request-data.Reads.Learnt
one_messages_request_data κs a x y later other p q = ((λ i. ((p.1 ∙ sym q.1) i, (p.0 ∙ sym q.0) i)), refl)

pub one_messages_write_request : OneReply _ messages-write-request.Kinds.ps messages-write-request.Kinds.r messages-write-request.Reads.Learnt
one_messages_write_request κs a x y later other p q = (p.0 ∙ sym q.0, λ i. (tt, (tt, (tt, (tt, (tt, ((p.1 ∙ sym q.1) i, tt)))))))

pub one_messages_read_reply : OneReply _ messages-read-reply.Kinds.ps messages-read-reply.Kinds.r messages-read-reply.Reads.Learnt
one_messages_read_reply κs a x y later other p q = (p ∙ sym q, refl)

pub one_messages_reply_data : OnePart _ messages-reply-data.Kinds.ps messages-reply-data.Kinds.r (λ κs x. (x.ref_ptr, x.now)) messages-reply-data.Reads.Learnt
one_messages_reply_data κs a x y later other p q = ((λ i. ((p.1 ∙ sym q.1) i, (p.0 ∙ sym q.0) i)), refl)

pub one_messages_write_reply : OneReply _ messages-write-reply.Kinds.ps messages-write-reply.Kinds.r messages-write-reply.Reads.Learnt
one_messages_write_reply κs a x y later other p q = (p.0 ∙ sym q.0, λ i. (tt, (tt, (tt, ((p.1 ∙ sym q.1) i, tt)))))

pub one_messages_serve : OneReply _ messages-serve.Kinds.ps messages-serve.Kinds.r messages-serve.Reads.Learnt
one_messages_serve κs a x y later other p q = (p.0 ∙ sym q.0, λ i. (tt, ((p.1.0 ∙ sym q.1.0) i, (tt, ((p.1.1 ∙ sym q.1.1) i, tt)))))

-- crates/replies
pub one_replies_told : OneReply _ replies-told.Kinds.ps replies-told.Kinds.r replies-told.Reads.Learnt
one_replies_told κs a x y later other p q = (p ∙ sym q, refl)

pub one_replies_numbers : OneReply _ replies-numbers.Kinds.ps replies-numbers.Kinds.r replies-numbers.Reads.Learnt
one_replies_numbers κs a x y later other p q = (p ∙ sym q, refl)

pub one_replies_verdict_told : OneReply _ replies-verdict-told.Kinds.ps replies-verdict-told.Kinds.r replies-verdict-told.Reads.Learnt
one_replies_verdict_told κs a x y later other p q = (p ∙ sym q, refl)

pub one_replies_place_told : OneReply _ replies-place-told.Kinds.ps replies-place-told.Kinds.r replies-place-told.Reads.Learnt
one_replies_place_told κs a x y later other p q = (p ∙ sym q, refl)

pub one_replies_request_told : OneReply _ replies-request-told.Kinds.ps replies-request-told.Kinds.r replies-request-told.Reads.Learnt
one_replies_request_told κs a x y later other p q = (p ∙ sym q, refl)

pub one_replies_reply_told : OneReply _ replies-reply-told.Kinds.ps replies-reply-told.Kinds.r replies-reply-told.Reads.Learnt
one_replies_reply_told κs a x y later other p q = (p ∙ sym q, refl)

pub one_replies_cells : OneReply _ replies-cells.Kinds.ps replies-cells.Kinds.r replies-cells.Reads.Learnt
one_replies_cells κs a x y later other p q = (p ∙ sym q, refl)

pub one_replies_quantity : OneReply _ replies-quantity.Kinds.ps replies-quantity.Kinds.r replies-quantity.Reads.Learnt
one_replies_quantity κs a x y later other p q = (p ∙ sym q, refl)

-- crates/words
pub one_words_number : OneReply _ words-number.Kinds.ps words-number.Kinds.r words-number.Reads.Learnt
one_words_number κs a x y later other p q = (p ∙ sym q, refl)

pub one_words_octets : OneReply _ words-octets.Kinds.ps words-octets.Kinds.r words-octets.Reads.Learnt
one_words_octets κs a x y later other p q = (p.reply ∙ sym q.reply, λ i. (tt, ((p.memory ∙ sym q.memory) i, tt)))

pub one_words_split : OneReply _ words-split.Kinds.ps words-split.Kinds.r words-split.Reads.Learnt
one_words_split κs a x y later other p q = (p ∙ sym q, refl)

pub one_words_word : OnePart _ words-word.Kinds.ps words-word.Kinds.r (λ κs x. (x.ref_ptr, x.now)) words-word.Reads.Learnt
one_words_word κs a x y later other p q = ((λ i. ((p.1 ∙ sym q.1) i, (p.0 ∙ sym q.0) i)), refl)

pub one_words_index_of : OneReply _ words-index-of.Kinds.ps words-index-of.Kinds.r words-index-of.Reads.Learnt
one_words_index_of κs a x y later other p q = (p ∙ sym q, refl)

pub one_words_put_text : OneReply _ words-put-text.Kinds.ps words-put-text.Kinds.r words-put-text.Reads.Learnt
one_words_put_text κs a x y later other p q = (p.reply ∙ sym q.reply, λ i. ((p.memory ∙ sym q.memory) i, (tt, (tt, tt))))

pub one_words_put_octet : OneReply _ words-put-octet.Kinds.ps words-put-octet.Kinds.r words-put-octet.Reads.Learnt
one_words_put_octet κs a x y later other p q = (p.reply ∙ sym q.reply, λ i. ((p.memory ∙ sym q.memory) i, (tt, (tt, tt))))

pub one_words_put_number : OneReply _ words-put-number.Kinds.ps words-put-number.Kinds.r words-put-number.Reads.Learnt
one_words_put_number κs a x y later other p q = (p.reply ∙ sym q.reply, λ i. ((p.memory ∙ sym q.memory) i, (tt, (tt, tt))))

pub one_words_put_octets : OneReply _ words-put-octets.Kinds.ps words-put-octets.Kinds.r words-put-octets.Reads.Learnt
one_words_put_octets κs a x y later other p q = (p.reply ∙ sym q.reply, λ i. ((p.memory ∙ sym q.memory) i, (tt, (tt, tt))))

-- crates/bilashonge
pub one_bilashonge_Total_from_told_from : OneReply _ bilashonge-TotalFromTold-from.Kinds.ps bilashonge-TotalFromTold-from.Kinds.r bilashonge-TotalFromTold-from.Reads.Learnt
one_bilashonge_Total_from_told_from κs a x y later other p q = (p ∙ sym q, refl)

pub one_bilashonge_Place_from_told_from : OneReply _ bilashonge-PlaceFromTold-from.Kinds.ps bilashonge-PlaceFromTold-from.Kinds.r bilashonge-PlaceFromTold-from.Reads.Learnt
one_bilashonge_Place_from_told_from κs a x y later other p q = (p ∙ sym q, refl)

pub one_bilashonge_Number_from_told_from : OneReply _ bilashonge-NumberFromTold-from.Kinds.ps bilashonge-NumberFromTold-from.Kinds.r bilashonge-NumberFromTold-from.Reads.Learnt
one_bilashonge_Number_from_told_from κs a x y later other p q = (p ∙ sym q, refl)

pub one_bilashonge_Tier_from_told_from : OneReply _ bilashonge-TierFromTold-from.Kinds.ps bilashonge-TierFromTold-from.Kinds.r bilashonge-TierFromTold-from.Reads.Learnt
one_bilashonge_Tier_from_told_from κs a x y later other p q = (p ∙ sym q, refl)

pub one_bilashonge_Answer_from_told_from : OneReply _ bilashonge-AnswerFromTold-from.Kinds.ps bilashonge-AnswerFromTold-from.Kinds.r bilashonge-AnswerFromTold-from.Reads.Learnt
one_bilashonge_Answer_from_told_from κs a x y later other p q = (p ∙ sym q, refl)

pub one_bilashonge_Weekday_from_told_from : OneReply _ bilashonge-WeekdayFromTold-from.Kinds.ps bilashonge-WeekdayFromTold-from.Kinds.r bilashonge-WeekdayFromTold-from.Reads.Learnt
one_bilashonge_Weekday_from_told_from κs a x y later other p q = (p ∙ sym q, refl)

pub one_bilashonge_check : OneReply _ bilashonge-check.Kinds.ps bilashonge-check.Kinds.r bilashonge-check.Reads.Learnt
one_bilashonge_check κs a x y later other p q = (p ∙ sym q, refl)

pub one_bilashonge_layout : OneReply _ bilashonge-layout.Kinds.ps bilashonge-layout.Kinds.r bilashonge-layout.Reads.Learnt
one_bilashonge_layout κs a x y later other p q = (p ∙ sym q, refl)

pub one_bilashonge_table_place : OneReply _ bilashonge-table-place.Kinds.ps bilashonge-table-place.Kinds.r bilashonge-table-place.Reads.Learnt
one_bilashonge_table_place κs a x y later other p q = (p ∙ sym q, refl)

pub one_bilashonge_range_place : OneReply _ bilashonge-range-place.Kinds.ps bilashonge-range-place.Kinds.r bilashonge-range-place.Reads.Learnt
one_bilashonge_range_place κs a x y later other p q = (p ∙ sym q, refl)

pub one_bilashonge_element_place : OneReply _ bilashonge-element-place.Kinds.ps bilashonge-element-place.Kinds.r bilashonge-element-place.Reads.Learnt
one_bilashonge_element_place κs a x y later other p q = (p ∙ sym q, refl)

pub one_bilashonge_element_number : OneReply _ bilashonge-element-number.Kinds.ps bilashonge-element-number.Kinds.r bilashonge-element-number.Reads.Learnt
one_bilashonge_element_number κs a x y later other p q = (p ∙ sym q, refl)

pub one_bilashonge_write_range : OneReply _ bilashonge-write-range.Kinds.ps bilashonge-write-range.Kinds.r bilashonge-write-range.Reads.Learnt
one_bilashonge_write_range κs a x y later other p q = (p.0 ∙ sym q.0, λ i. (tt, ((p.1 ∙ sym q.1) i, (tt, (tt, (tt, (tt, tt)))))))

pub one_bilashonge_write_octets : OneReply _ bilashonge-write-octets.Kinds.ps bilashonge-write-octets.Kinds.r bilashonge-write-octets.Reads.Learnt
one_bilashonge_write_octets κs a x y later other p q = (p.0 ∙ sym q.0, λ i. (tt, ((p.1 ∙ sym q.1) i, (tt, (tt, (tt, tt))))))

pub one_bilashonge_write_number : OneReply _ bilashonge-write-number.Kinds.ps bilashonge-write-number.Kinds.r bilashonge-write-number.Reads.Learnt
one_bilashonge_write_number κs a x y later other p q = (p.0 ∙ sym q.0, λ i. (tt, ((p.1 ∙ sym q.1) i, (tt, (tt, (tt, tt))))))

pub one_bilashonge_tier_at : OneReply _ bilashonge-tier-at.Kinds.ps bilashonge-tier-at.Kinds.r bilashonge-tier-at.Reads.Learnt
one_bilashonge_tier_at κs a x y later other p q = (p ∙ sym q, refl)

pub one_bilashonge_seasoned : OneReply _ bilashonge-seasoned.Kinds.ps bilashonge-seasoned.Kinds.r bilashonge-seasoned.Reads.Learnt
one_bilashonge_seasoned κs a x y later other p q = (p ∙ sym q, refl)

pub one_bilashonge_weekday_of : OneReply _ bilashonge-weekday-of.Kinds.ps bilashonge-weekday-of.Kinds.r bilashonge-weekday-of.Reads.Learnt
one_bilashonge_weekday_of κs a x y later other p q = (p ∙ sym q, refl)

pub one_bilashonge_matrix : OneReply _ bilashonge-matrix.Kinds.ps bilashonge-matrix.Kinds.r bilashonge-matrix.Reads.Learnt
one_bilashonge_matrix κs a x y later other p q = (p.0 ∙ sym q.0, λ i. (tt, (tt, ((p.1 ∙ sym q.1) i, tt))))

pub one_bilashonge_serve : OneReply _ bilashonge-serve.Kinds.ps bilashonge-serve.Kinds.r bilashonge-serve.Reads.Learnt
one_bilashonge_serve κs a x y later other p q = (p.0 ∙ sym q.0, λ i. (tt, ((p.1.0 ∙ sym q.1.0) i, (tt, ((p.1.1 ∙ sym q.1.1) i, tt)))))

pub one_bilashonge_read_request : OneReply _ bilashonge-read-request.Kinds.ps bilashonge-read-request.Kinds.r bilashonge-read-request.Reads.Learnt
one_bilashonge_read_request κs a x y later other p q = (p ∙ sym q, refl)

pub one_bilashonge_write_request : OneReply _ bilashonge-write-request.Kinds.ps bilashonge-write-request.Kinds.r bilashonge-write-request.Reads.Learnt
one_bilashonge_write_request κs a x y later other p q = (p.0 ∙ sym q.0, λ i. (tt, (tt, (tt, (tt, (tt, ((p.1 ∙ sym q.1) i, tt)))))))

pub one_bilashonge_read_reply : OneReply _ bilashonge-read-reply.Kinds.ps bilashonge-read-reply.Kinds.r bilashonge-read-reply.Reads.Learnt
one_bilashonge_read_reply κs a x y later other p q = (p ∙ sym q, refl)

pub one_bilashonge_write_reply : OneReply _ bilashonge-write-reply.Kinds.ps bilashonge-write-reply.Kinds.r bilashonge-write-reply.Reads.Learnt
one_bilashonge_write_reply κs a x y later other p q = (p.0 ∙ sym q.0, λ i. (tt, (tt, (tt, ((p.1 ∙ sym q.1) i, tt)))))

-- the function of this crate, on which the must-fail edits are tried
pub one_kept : OneReply _ kept.Kinds.ps kept.Kinds.r kept.Reads.Learnt
one_kept κs a x y later other p q = (p.0 ∙ sym q.0, λ i. (tt, ((p.1 ∙ sym q.1) i, tt)))
