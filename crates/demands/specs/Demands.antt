-- THE THREE DEMANDS, which everything serves, and what document 02 asks of messages; each is one named statement, clause by clause in the file of its name. They are over a family of
-- replies and a family of messages, whichever program gives them. proofs/Demands.antt proves them of ours, and that any families that meet them are ours: so what has to be believed is
-- this, and what it is made of. Assumes nothing.
use Rattle.std.specs.Prelude.{ℕ, List}
use Rattle.demands.specs.Demand1.{Demand1}
use Rattle.demands.specs.Demand2.{Demand2}
use Rattle.demands.specs.Demand3.{Demand3}
use Rattle.demands.specs.Bench.{Messages}
use Rattle.demands.specs.Messages.{MessagesSay}
use Rattle.demands.specs.Replies.{Replies}

pub record Demands (R : Replies) : Type 0 where
  -- 1. "Any description, any image, any question gets an answer or one of document 01's numbered refusals, at the place stated there. A refused call changes no
  -- octet lent."
  pub first : (description image : List ℕ) → Demand1 R description image
  -- 2. "Reads, writes and the calendar follow C12.19-1997 as condensed in document 01. Over a passed description and an image that lays out, a write is accepted exactly when
  -- its table or element exists, its range, length or number fits, the table is writable and no dimension octet is touched. Afterwards reading that place gives what
  -- was written, and every other octet is the same."
  pub second : (description image : List ℕ) → Demand2 R description image
  -- 3. "A description is passed exactly when it meets document 01's rules. A passed one, over any image of at most 65,535 octets, never meets a dimension not yet read, a bit
  -- outside its element or an array of unequal elements: it lays out, or is refused as short exactly where document 01's walk first runs past the end. Laid out, every octet
  -- below the total lies in exactly one element; after an accepted write every element stands where it stood."
  pub third : (description image : List ℕ) → Demand3 R description image

-- ALL THAT IS DEMANDED: of the tables' replies, and of the messages over them
pub record AllDemands (R : Replies) (M : Messages) : Type 0 where
  pub tables : Demands R
  -- document 02, E2: "The test bench must answer meter messages. Full read, offset read, full write and offset write. .. Read and write requests and replies, each undoing the
  -- other. .. Refusals, first that applies. .. A reply or request that doesn't fit the lent room, or a number that doesn't fit its field, is refused as 21, before any write is
  -- done; a reply read that has none of these forms is 43."
  pub messages : MessagesSay M R
