-- THE STATEMENT OF E2 DECIDES EVERY MESSAGE: two families M and N that meet it, M over tables' replies R that are ours and N over ours, read, write and serve alike. Assumes nothing.
use Prim.Native.Nat.{ℕ, ◌+◌}
use mathlib.Core.Path.{◌≡◌, refl, sym, ◌∙◌, ap, subst}
use mathlib.Core.List.{List, map}
use mathlib.Core.Option.{Option, some, none}
use native.Mathlib.Omega.{arith}
use Rattle.meaning.specs.Messages.{Request, full_read, offset_read, full_write, offset_write, RequestRead, is_request, not_request, MeterReply, holds}
use Rattle.meaning.specs.Refusals.{place_part, table_part_reply, read_range_part}
use Rattle.meaning.proofs.Either.{clash}
use Rattle.meaning.proofs.Splices.{part_at, part_long}
use Rattle.demands.specs.Bench.{Messages}
use Rattle.demands.specs.Given.{first_of}
use Rattle.demands.specs.Messages.{Octets, RequestForm, RequestFits, request_long, request_data, ReplyForm, ReplyFits, reply_long, reply_data, code_in, request_faults, ReadsRequest, ReadsReply}
use Rattle.demands.specs.Messages.{tables_refuse, as_code, tables_faults, faults, Good, Answers, fits, does_not, WrittenReply, MessagesSay}
use Rattle.demands.specs.Replies.{Replies, ours}
use Rattle.demands.specs.Same.{Same, SameMessages}
use Rattle.demands.proofs.Forms.{no_octets, request_kind, reply_kind}
use Rattle.demands.proofs.OnlyOctets.{octet_at, octets_at_lem}
use Rattle.demands.proofs.Serving.{first_before}
use Rattle.demands.proofs.Undoing.{written_same}
use Rattle.meaning.specs.Values.{Place}
use Rattle.std.specs.Prelude.{Ok, Err}

-- A REQUEST READ, and a reply
read_same : (M N : Messages) (xs : List ℕ) → ReadsRequest M xs → ReadsRequest N xs → M.read_request xs ≡ N.read_request xs
unfolding code_in
read_same M N xs h k = go (M.read_request xs) refl (N.read_request xs) refl
  where
    go : (x : RequestRead) → M.read_request xs ≡ x → (y : RequestRead) → N.read_request xs ≡ y → M.read_request xs ≡ N.read_request xs
    go (is_request q) e y f = e ∙ sym ((k.good q).1 ((h.good q).0 e))
    go (not_request c) e (is_request q) f = (h.good q).1 ((k.good q).0 f) ∙ sym f
    go (not_request c) e (not_request b) f = let same : some c ≡ some b = ap code_in (sym e) ∙ h.refused ∙ sym k.refused ∙ ap code_in f in cc

reply_same : (M N : Messages) (xs : List ℕ) → ReadsReply M xs → ReadsReply N xs → M.read_reply xs ≡ N.read_reply xs
reply_same M N xs h k = go (M.read_reply xs) refl
  where
    go : (x : Option MeterReply) → M.read_reply xs ≡ x → M.read_reply xs ≡ N.read_reply xs
    go (some a) e = e ∙ sym ((k.good a).1 ((h.good a).0 e))
    go none e = e ∙ sym (k.none.1 (h.none.0 e))

-- THE TABLES ASKED
module _ (R S : Replies) (same : Same R S) (d img : List ℕ) where
  refusals_same : (q : Request) → tables_refuse R d img q ≡ tables_refuse S d img q
  unfolding tables_refuse
  refusals_same (full_read id) = rw (same.table_place d img)
  refusals_same (offset_read id o n) = rw (same.read_range d img)
  refusals_same (full_write id new) = rw (same.table_place d img, same.write_range d img)
  refusals_same (offset_write id o new) = rw (same.write_range d img)

  good_same : (q : Request) (a b : MeterReply) (x y : List ℕ) → Good R d img q a x → Good S d img q b y → (a ≡ b) × (x ≡ y)
  good_same (full_read id) a b x y h k = (h.0 ∙ ap holds (same.table_part d img _ _) ∙ sym k.0, h.1 ∙ sym k.1)
  good_same (offset_read id o n) a b x y h k = (h.0 ∙ ap holds (same.range_part d img _ _ _ n) ∙ sym k.0, h.1 ∙ sym k.1)
  good_same (full_write id new) a b x y h k = (h.0 ∙ sym k.0, h.1 ∙ same.range_image d img _ _ _ new ∙ sym k.1)
  good_same (offset_write id o new) a b x y h k = (h.0 ∙ sym k.0, h.1 ∙ same.range_image d img _ _ _ new ∙ sym k.1)

  tables_same : (r : RequestRead) → tables_faults R d img r ≡ tables_faults S d img r
  unfolding tables_faults
  tables_same (is_request q) = ap (map as_code) (refusals_same q)
  tables_same (not_request c) = refl

  -- THE ANSWER, with its image
  module _ (M N : Messages) (m : MessagesSay M R) (n : MessagesSay N S) (xs : List ℕ) where
    request_same : M.read_request xs ≡ N.read_request xs
    request_same = read_same M N xs (m.read_request xs) (n.read_request xs)

    first_same : first_of (faults M R d img xs) ≡ first_of (faults N S d img xs)
    unfolding faults
    first_same = rw (request_same, tables_same (N.read_request xs))

    -- refused by a fault, or a good request
    answered : {A : Type 0} → ((c : ℕ) → first_of (faults N S d img xs) ≡ some c → A)
        → ((q : Request) → N.read_request xs ≡ is_request q → first_of (faults N S d img xs) ≡ none → A) → A
    unfolding faults code_in
    answered {A} refused good = go (first_of (faults N S d img xs)) refl (N.read_request xs) refl
      where
        go : (x : Option ℕ) → first_of (faults N S d img xs) ≡ x → (r : RequestRead) → N.read_request xs ≡ r → A
        go (some c) e r f = refused c e
        go none e (is_request q) f = good q f e
        go none e (not_request c) f =
            let told = first_before (request_faults xs) (tables_faults S d img (N.read_request xs)) c (sym (n.read_request xs).refused ∙ ap code_in f) in
            clash (cc)

    answer_same : (a b : MeterReply) (x y : List ℕ) → Answers M R d img xs a x → Answers N S d img xs b y → (a ≡ b) × (x ≡ y)
    answer_same a b x y h k =
        answered
        (λ c e. let p = h.refused c (first_same ∙ e) in let q = k.refused c e in (p.0 ∙ sym q.0, p.1 ∙ sym q.1))
        (λ q f e. good_same q a b x y (h.good q (request_same ∙ f) (first_same ∙ e)) (k.good q f e))

    module _ (room : List ℕ) where
      same_answer : ((m.serve d img xs room).answer ≡ (n.serve d img xs room).answer) × ((m.serve d img xs room).image ≡ (n.serve d img xs room).image)
      same_answer = answer_same _ _ _ _ (m.serve d img xs room).answers (n.serve d img xs room).answers

      -- it goes into the room alike
      written_alike : (M.serve d img xs room ≡ N.serve d img xs room)
          × (Octets (reply_data (n.serve d img xs room).answer) → M.served_room d img xs room ≡ N.served_room d img xs room)
      written_alike =
          written_same ReplyForm ReplyFits reply_long reply_data reply_kind (n.serve d img xs room).answer (Unit {0}) room
          (subst (λ a. WrittenReply (Unit {0}) a room (M.serve d img xs room) (M.served_room d img xs room)) same_answer.0 (m.serve d img xs room).written)
          (n.serve d img xs room).written

      image_alike : M.served_image d img xs room ≡ N.served_image d img xs room
      image_alike = go (n.serve d img xs room).written
        where
          go : WrittenReply (Unit {0}) (n.serve d img xs room).answer room (N.serve d img xs room) (N.served_room d img xs room)
              → M.served_image d img xs room ≡ N.served_image d img xs room
          go (fits f l s) = (m.serve d img xs room).after _ (written_alike.0 ∙ s.total) ∙ same_answer.1 ∙ sym ((n.serve d img xs room).after _ s.total)
          go (does_not f s) = (m.serve d img xs room).unchanged (written_alike.0 ∙ s.refused) ∙ sym ((n.serve d img xs room).unchanged s.refused)

-- OCTETS ANSWERED from an image of octets
part_octets : (img : List ℕ) → Octets img → (x : Place) → Octets (place_part img x)
unfolding place_part
part_octets img h (Ok e) = octets_at_lem _ (λ i l. rw (part_at img e.start.0 e.length i (omega (arith, part_long img e.start.0 e.length))) (octet_at img h (e.start.0 + i)))
part_octets img h (Err r) = no_octets

good_octets : (d img : List ℕ) → Octets img → (q : Request) (a : MeterReply) (x : List ℕ) → Good ours d img q a x → Octets (reply_data a)
unfolding table_part_reply read_range_part
good_octets d img h (full_read id) a x g = rw g.0 (part_octets img h _)
good_octets d img h (offset_read id o n) a x g = rw g.0 (part_octets img h _)
good_octets d img h (full_write id new) a x g = rw g.0 no_octets
good_octets d img h (offset_write id o new) a x g = rw g.0 no_octets

-- ANY FAMILY IS THE SAME
pub only_messages : (R : Replies) → Same R ours → (M N : Messages) → MessagesSay M R → MessagesSay N ours → SameMessages M N
only_messages R same M N m n =
    let request : (q : Request) (room : List ℕ) → (M.write_request q room ≡ N.write_request q room) × (Octets (request_data q) → M.request_room q room ≡ N.request_room q room) =
    λ q room. written_same RequestForm RequestFits request_long request_data request_kind q (RequestFits q) room (m.write_request q room) (n.write_request q room) in
    let reply : (a : MeterReply) (room : List ℕ) → (M.write_reply a room ≡ N.write_reply a room) × (Octets (reply_data a) → M.reply_room a room ≡ N.reply_room a room) =
    λ a room. written_same ReplyForm ReplyFits reply_long reply_data reply_kind a (ReplyFits a) room (m.write_reply a room) (n.write_reply a room) in
    record {
      read_request = λ xs. read_same M N xs (m.read_request xs) (n.read_request xs);
      read_reply = λ xs. reply_same M N xs (m.read_reply xs) (n.read_reply xs);
      write_request = λ q room. (request q room).0;
      request_room = λ q room. (request q room).1;
      write_reply = λ a room. (reply a room).0;
      reply_room = λ a room. (reply a room).1;
      serve = λ d img xs room. (written_alike R ours same d img M N m n xs room).0;
      served_image = λ d img xs room. image_alike R ours same d img M N m n xs room;
      served_room = λ d img xs room h. (written_alike R ours same d img M N m n xs room).1 (octets d img xs room h);
    }
  where
    octets : (d img xs room : List ℕ) → Octets img → Octets (reply_data (n.serve d img xs room).answer)
    octets d img xs room h =
        let a = (n.serve d img xs room).answers in
        answered R ours same d img M N m n xs (λ c e. rw (a.refused c e).0 no_octets) (λ q f e. good_octets d img h q _ _ (a.good q f e))
