-- `lines::message::ask`: row by row. Assumes nothing.
use mathlib.Core.Path.{◌≡◌, refl, ap, ◌∙◌}
use native.Mathlib.Omega.{arith}
use borrow.Author.Rules.{rules}
use mathlib.Core.List.{[]}
use lib.ListN.{length, get_or, length-take}
use Rattle.lines.specs.Answer.{table_rows, message_rows, rows, row_at, form_of, limits, said, room_of, of_request, of_reply}
use Rattle.meaning.specs.Messages.{request_of, reply_of, serve_image}
use Rattle.lines.specs.Kinds.{messages_place}
use Rattle.lines.proofs.AskLaws.{fits_at}
use Rattle.lines.proofs.MessageLaws.{serve_in_front, request_in_front, reply_in_front, same_image, room_long, told_within, put_in_room, was_read}
use Rattle.lines.proofs.message.ask.Goals as goal

pub slice_bounds-room-end : goal.slice_bounds-room-end
unfolding table_rows message_rows rows row_at form_of limits said
slice_bounds-room-end c =
    let long : length c.args.part.now ≡ 150000 = search rules in
    let fits = fits_at 14 0 65544 refl c.requires.within (ap messages_place c.in-Serve.is) in
    omega (arith, length-take (get_or c.args.operands.numbers 0 0) c.args.part.now, long)

pub sent-requires : goal.sent-requires
unfolding table_rows message_rows rows row_at form_of limits said
sent-requires c =
    told_within (serve_in_front c.args.operands.d.now c.args.m.now c.args.operands.given.now) c.serve-reply.new.room c.serve-reply.ensures.reply c.serve-reply.auto.room

pub returns-in-Serve : goal.returns-in-Serve
unfolding table_rows message_rows rows row_at form_of limits said
returns-in-Serve c =
    let long : length c.args.part.now ≡ 150000 = search rules in
    let fits = fits_at 14 0 65544 refl c.requires.within (ap messages_place c.in-Serve.is) in
    put_in_room (serve_in_front c.args.operands.d.now c.args.m.now c.args.operands.given.now) (get_or c.args.operands.numbers 0 0) {img = serve_image c.args.operands.d.now c.args.m.now c.args.operands.given.now (room_of (get_or c.args.operands.numbers 0 0))} (rw c.in-Serve.is refl) c.args.part.now (omega (arith, fits)) long c.serve-reply.ensures.reply c.serve-reply.ensures.room c.sent.ensures
    (c.serve-reply.ensures.image ∙ same_image c.args.operands.d.now c.args.m.now c.args.operands.given.now _ _ (room_long (get_or c.args.operands.numbers 0 0) c.args.part.now (omega (arith, fits, long))))

pub returns-in-ReadRequest : goal.returns-in-ReadRequest
unfolding table_rows message_rows rows row_at form_of limits said
returns-in-ReadRequest c =
    was_read (of_request c.args.operands.d.now [] [] []) (rw c.in-ReadRequest.is refl) (rw c.in-ReadRequest.is refl) (rw c.in-ReadRequest.is refl) c.requires.d_len_bound c.read_request.ensures

pub slice_bounds-room-end-in-WriteRequest : goal.slice_bounds-room-end-in-WriteRequest
unfolding table_rows message_rows rows row_at form_of limits said
slice_bounds-room-end-in-WriteRequest c =
    let long : length c.args.part.now ≡ 150000 = search rules in
    let fits = fits_at 16 4 65544 refl c.requires.within (ap messages_place c.in-WriteRequest.is) in
    omega (arith, length-take (get_or c.args.operands.numbers 4 0) c.args.part.now, long)

pub sent-requires-in-WriteRequest : goal.sent-requires-in-WriteRequest
unfolding table_rows message_rows rows row_at form_of limits said
sent-requires-in-WriteRequest c =
    told_within (request_in_front (request_of (get_or c.args.operands.numbers 0 0) (get_or c.args.operands.numbers 1 0) (get_or c.args.operands.numbers 2 0) (get_or c.args.operands.numbers 3 0) c.args.operands.given.now)) c.write_request-reply.new.room c.write_request-reply.ensures.reply c.write_request-reply.auto.room

pub returns-in-WriteRequest : goal.returns-in-WriteRequest
unfolding table_rows message_rows rows row_at form_of limits said
returns-in-WriteRequest c =
    let long : length c.args.part.now ≡ 150000 = search rules in
    let fits = fits_at 16 4 65544 refl c.requires.within (ap messages_place c.in-WriteRequest.is) in
    put_in_room (request_in_front (request_of (get_or c.args.operands.numbers 0 0) (get_or c.args.operands.numbers 1 0) (get_or c.args.operands.numbers 2 0) (get_or c.args.operands.numbers 3 0) c.args.operands.given.now)) (get_or c.args.operands.numbers 4 0) (rw c.in-WriteRequest.is refl) c.args.part.now (omega (arith, fits)) long c.write_request-reply.ensures.reply c.write_request-reply.ensures.room c.sent-in-WriteRequest.ensures
    refl

pub returns-in-ReadReply : goal.returns-in-ReadReply
unfolding table_rows message_rows rows row_at form_of limits said
returns-in-ReadReply c =
    was_read (of_reply c.args.operands.d.now [] [] []) (rw c.in-ReadReply.is refl) (rw c.in-ReadReply.is refl) (rw c.in-ReadReply.is refl) c.requires.d_len_bound c.read_reply.ensures

pub slice_bounds-room-end-in-WriteReply : goal.slice_bounds-room-end-in-WriteReply
unfolding table_rows message_rows rows row_at form_of limits said
slice_bounds-room-end-in-WriteReply c =
    let long : length c.args.part.now ≡ 150000 = search rules in
    let fits = fits_at 18 2 65544 refl c.requires.within (ap messages_place c.in-WriteReply.is) in
    omega (arith, length-take (get_or c.args.operands.numbers 2 0) c.args.part.now, long)

pub sent-requires-in-WriteReply : goal.sent-requires-in-WriteReply
unfolding table_rows message_rows rows row_at form_of limits said
sent-requires-in-WriteReply c =
    told_within (reply_in_front (reply_of (get_or c.args.operands.numbers 0 0) (get_or c.args.operands.numbers 1 0) c.args.operands.given.now)) c.write_reply-reply.new.room c.write_reply-reply.ensures.reply c.write_reply-reply.auto.room

pub returns-in-WriteReply : goal.returns-in-WriteReply
unfolding table_rows message_rows rows row_at form_of limits said
returns-in-WriteReply c =
    let long : length c.args.part.now ≡ 150000 = search rules in
    let fits = fits_at 18 2 65544 refl c.requires.within (ap messages_place c.in-WriteReply.is) in
    put_in_room (reply_in_front (reply_of (get_or c.args.operands.numbers 0 0) (get_or c.args.operands.numbers 1 0) c.args.operands.given.now)) (get_or c.args.operands.numbers 2 0) (rw c.in-WriteReply.is refl) c.args.part.now (omega (arith, fits)) long c.write_reply-reply.ensures.reply c.write_reply-reply.ensures.room c.sent-in-WriteReply.ensures
    refl
