-- A FAMILY OF MESSAGES: what some program makes of requests and replies (document 02's E2), whatever the program. The statement of E2 is made of any family (specs/Messages);
-- `our_messages` is the one that the public calls are proved to give (crate meaning, specs/Messages). Assumes nothing.
use Rattle.std.specs.Prelude.{ℕ, List}
use Rattle.std.proofs.Math.Option.{Option}
use Rattle.meaning.specs.Messages.{Request, RequestRead, request_in, write_request_reply, write_request_room, MeterReply, reply_in, write_reply_reply, write_reply_room, serve_reply, serve_room, serve_image}
use Rattle.meaning.specs.Values.{Reply}

-- a request and a reply read; either written into the room lent, and the room afterwards; a request served, and image and room afterwards
pub record Messages : Type 0 where
  pub read_request : (octets : List ℕ) → RequestRead
  pub write_request : Request → (room : List ℕ) → Reply
  pub request_room : Request → (room : List ℕ) → List ℕ
  pub read_reply : (octets : List ℕ) → Option MeterReply
  pub write_reply : MeterReply → (room : List ℕ) → Reply
  pub reply_room : MeterReply → (room : List ℕ) → List ℕ
  pub serve : (description image request room : List ℕ) → Reply
  pub served_image : (description image request room : List ℕ) → List ℕ
  pub served_room : (description image request room : List ℕ) → List ℕ

abbrev pub our_messages : Messages
our_messages =
    record {
      read_request = request_in;
      write_request = λ q room. write_request_reply q room;
      request_room = λ q room. write_request_room q room;
      read_reply = reply_in;
      write_reply = λ a room. write_reply_reply a room;
      reply_room = λ a room. write_reply_room a room;
      serve = serve_reply;
      served_image = serve_image;
      served_room = serve_room;
    }
