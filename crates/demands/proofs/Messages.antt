-- THE MESSAGES: all that specs/Messages.antt says holds of ours, over our tables' replies. Assumes nothing.
use mathlib.Core.Path.{◌≡◌}
use mathlib.Core.Option.{some}
use Rattle.meaning.specs.Messages.{is_request, request_in, reply_in, write_request_reply, write_request_room, write_reply_reply, write_reply_room}
use Rattle.demands.specs.Bench.{our_messages}
use Rattle.demands.specs.Messages.{RequestForm, RequestFits, request_long, request_data, ReplyForm, ReplyFits, reply_long, reply_data, MessagesSay}
use Rattle.demands.specs.Replies.{ours}
use Rattle.demands.proofs.Forms.{request_kind, reply_kind}
use Rattle.demands.proofs.Reading.{request_reads, reply_reads}
use Rattle.demands.proofs.Sending.{request_written, reply_written}
use Rattle.demands.proofs.Serving.{serves}
use Rattle.demands.proofs.Undoing.{undoes}

pub messages_say : MessagesSay our_messages ours
messages_say =
    record {
      read_request = request_reads;
      read_reply = reply_reads;
      write_request = request_written;
      write_reply = reply_written;
      requests =
          undoes RequestForm RequestFits request_long request_data request_kind (λ xs q. request_in xs ≡ is_request q) (λ xs. (request_reads xs).good)
          (λ q room. write_request_reply q room) (λ q room. write_request_room q room) request_written;
      replies =
          undoes ReplyForm ReplyFits reply_long reply_data reply_kind (λ xs a. reply_in xs ≡ some a) (λ xs. (reply_reads xs).good)
          (λ a room. write_reply_reply a room) (λ a room. write_reply_room a room) reply_written;
      serve = serves;
    }
