-- TWO FAMILIES OF REPLIES THAT ARE THE SAME: every reply, and all that is left in lent memory, for every description, image and question; and two families of messages. Assumes nothing.
use Rattle.std.specs.Prelude.{ℕ, ◌≡◌, List}
use Rattle.offsets.specs.declared.TableOffset.{TableOffset}
use Rattle.meaning.specs.declared.Date.{Date}
use Rattle.meaning.specs.declared.ElementName.{ElementName}
use Rattle.meaning.specs.declared.Moment.{Moment}
use Rattle.meaning.specs.declared.Quantity.{Quantity}
use Rattle.meaning.specs.Messages.{Request, MeterReply}
use Rattle.demands.specs.Bench.{Messages}
use Rattle.demands.specs.Messages.{Octets, request_data, reply_data}
use Rattle.demands.specs.Replies.{Replies}

pub record Same (R S : Replies) : Type 0 where
  pub check : (d : List ℕ) → R.check d ≡ S.check d
  pub layout : (d img : List ℕ) → R.layout d img ≡ S.layout d img
  pub table_place : (d img : List ℕ) (m k : ℕ) → R.table_place d img m k ≡ S.table_place d img m k
  pub table_part : (d img : List ℕ) (m k : ℕ) → R.table_part d img m k ≡ S.table_part d img m k
  pub element_place : (d img : List ℕ) (q : ElementName) → R.element_place d img q ≡ S.element_place d img q
  pub element_part : (d img : List ℕ) (q : ElementName) → R.element_part d img q ≡ S.element_part d img q
  pub element_number : (d img : List ℕ) (q : ElementName) → R.element_number d img q ≡ S.element_number d img q
  pub write_range : (d img : List ℕ) (m k : ℕ) (o : TableOffset) (new : List ℕ) → R.write_range d img m k o new ≡ S.write_range d img m k o new
  pub range_image : (d img : List ℕ) (m k : ℕ) (o : TableOffset) (new : List ℕ) → R.range_image d img m k o new ≡ S.range_image d img m k o new
  pub write_octets : (d img : List ℕ) (q : ElementName) (new : List ℕ) → R.write_octets d img q new ≡ S.write_octets d img q new
  pub octets_image : (d img : List ℕ) (q : ElementName) (new : List ℕ) → R.octets_image d img q new ≡ S.octets_image d img q new
  pub write_number : (d img : List ℕ) (q : ElementName) (x : ℕ) → R.write_number d img q x ≡ S.write_number d img q x
  pub number_image : (d img : List ℕ) (q : ElementName) (x : ℕ) → R.number_image d img q x ≡ S.number_image d img q x
  pub tier : (d img : List ℕ) (w : Moment) (q : Quantity) → R.tier d img w q ≡ S.tier d img w q
  pub matrix : (d img : List ℕ) → R.matrix d img ≡ S.matrix d img
  pub matrix_verdict : (d img : List ℕ) → R.matrix_verdict d img ≡ S.matrix_verdict d img
  pub matrix_cells : (d img : List ℕ) (lent : List (List ℕ)) → R.matrix_cells d img lent ≡ S.matrix_cells d img lent
  pub seasoned : (d img : List ℕ) (t : Date) → R.seasoned d img t ≡ S.seasoned d img t
  pub read_range : (d img : List ℕ) (m k : ℕ) (o : TableOffset) (n : ℕ) → R.read_range d img m k o n ≡ S.read_range d img m k o n
  pub range_part : (d img : List ℕ) (m k : ℕ) (o : TableOffset) (n : ℕ) → R.range_part d img m k o n ≡ S.range_part d img m k o n
  pub weekday : (t : Date) → R.weekday t ≡ S.weekday t

-- messages: everything that is read, replied and left in the image; what is left in the room, where the octets that go into it are octets
pub record SameMessages (M N : Messages) : Type 0 where
  pub read_request : (xs : List ℕ) → M.read_request xs ≡ N.read_request xs
  pub read_reply : (xs : List ℕ) → M.read_reply xs ≡ N.read_reply xs
  pub write_request : (q : Request) (room : List ℕ) → M.write_request q room ≡ N.write_request q room
  pub request_room : (q : Request) (room : List ℕ) → Octets (request_data q) → M.request_room q room ≡ N.request_room q room
  pub write_reply : (a : MeterReply) (room : List ℕ) → M.write_reply a room ≡ N.write_reply a room
  pub reply_room : (a : MeterReply) (room : List ℕ) → Octets (reply_data a) → M.reply_room a room ≡ N.reply_room a room
  pub serve : (d img xs room : List ℕ) → M.serve d img xs room ≡ N.serve d img xs room
  pub served_image : (d img xs room : List ℕ) → M.served_image d img xs room ≡ N.served_image d img xs room
  pub served_room : (d img xs room : List ℕ) → Octets img → M.served_room d img xs room ≡ N.served_room d img xs room
