-- Of demand 3: laid out, every octet below the total lies in exactly one element, known by its name, and no octet from the total on in any; each name that there is has an element of its
-- length, and elements stand in the description's order. Assumes nothing.
use Prim.Native.Nat.{ℕ, ◌+◌, ◌-◌, ◌<◌, ◌≤◌}
use mathlib.Core.Path.{◌≡◌, sym, ◌∙◌, ap}
use mathlib.Core.Bool.{Bool, true, false}
use mathlib.Core.List.{List, ◌++◌}
use lib.ListN.{length, replicate, length-append, length-replicate}
use lib.Seq.{take-append_seam}
use borrow.Author.Tests.{le-leb}
use native.Mathlib.Omega.{arith}
use Rattle.meaning.specs.declared.ElementName.{ElementName}
use Rattle.meaning.specs.Causes.{subscripts_of}
use Rattle.meaning.specs.Description.{item_count, fields_at}
use Rattle.meaning.specs.Layout.{Placed, Seat, Slots}
use Rattle.meaning.specs.Questions.{refusal_in}
use Rattle.meaning.specs.Refusals.{open_image, place_reply, layout_reply, element_in, placed_place, element_place_in, element_place_reply, integer_place_reply, place_number, element_number_reply}
use Rattle.meaning.proofs.Ranges.{fields_range}
use Rattle.laying.proofs.Cover.{EndsBy, Consecutive}
use Rattle.laying.proofs.LaidOut.{elements_follow, elements_end, names_found, subscripts_few}
use Rattle.demands.specs.Causes.{CausesSay}
use Rattle.demands.specs.Demand3.{Holds, OneElement, length_in, ElementsStand}
use Rattle.demands.specs.Replies.{ours, octets_at, alone}
use Rattle.demands.specs.Walk.{numbers_in, exists, way_to, Earlier}
use Rattle.laying.proofs.Opened.{Opens, where_laid, where_found, total_opens}
use Rattle.laying.proofs.Among.{Among, every_among, ElementOf, named_among, Has, one_has, only_has}
use Rattle.laying.proofs.Found.{own, for_exactly}
use Rattle.demands.proofs.Laid.{laid_facts}
use Rattle.demands.proofs.Names.{dimension_exists, Found, name_found}
use Rattle.demands.proofs.Causes.{causes_say}
use Rattle.demands.proofs.Refused.{number_refusal, refused_by_lem}
use Rattle.std.specs.Prelude.{Ok}
use Rattle.meaning.specs.Values.{at}
use Rattle.meaning.specs.declared.Answer.{Answer}

-- an element's name: its item, and its subscripts filled up to four places
abbrev pub name_of : Placed → ElementName
name_of e =
    record {
      item = e.item;
      count = length e.subscripts;
      subscripts = e.subscripts ++ replicate (4 - length e.subscripts) 0;
    }

module _ {d img : List ℕ} {ts : List Seat} {es : List Placed} {s : Slots} {total : ℕ} (o : Opens d img ts es s total) where
  -- elements follow one another
  follow : Consecutive 0 es total
  follow = elements_follow d img ts es s total o.laid

  -- the element at a place that is replied
  pub record PlacedAt (q : ElementName) (p n : ℕ) : Type 0 where
    pub element : Placed
    pub of : ElementOf q.item (subscripts_of q) es element
    pub start : element.start ≡ p
    pub size : element.size ≡ n

  pub placed_at : (q : ElementName) (p n : ℕ) → element_place_reply d img q ≡ octets_at p n → PlacedAt q p n
  placed_at q p n e =
      let f = where_found o q p n e in
      record { element = f.element; of = named_among q.item (subscripts_of q) es f.element f.found; start = f.start; size = f.size }

  -- and that holds an octet
  pub record HolderOf (q : ElementName) (x : ℕ) : Type 0 where
    pub element : Placed
    pub of : ElementOf q.item (subscripts_of q) es element
    pub has : Has x element

  pub holder : (q : ElementName) (x : ℕ) → Holds ours d img q x → HolderOf q x
  holder q x h =
      let f = placed_at q h.start h.size h.reply in
      record { element = f.element; of = f.of; has = (omega (arith, f.start, h.from), omega (arith, f.start, f.size, h.to)) }

  -- an element is found by its name
  pub told : (e : Placed) → Among e es → element_place_reply d img (name_of e) ≡ at (record { 0 = e.start }) e.size
  unfolding element_in placed_place
  told e m =
      let few = every_among _ e es (subscripts_few d img ts es s total o.laid) m in
      let found = every_among _ e es (names_found d img ts es s total o.laid) m in
      where_laid o (name_of e) ∙ rw (le-leb (length e.subscripts) 4 few, take-append_seam e.subscripts _, found)

  -- an octet below the total lies in the element found there, and in no other
  one_element : (x : ℕ) → x < total → OneElement ours d img x
  one_element x l =
      let r = one_has follow x (omega arith) l in
      let e = r.0 in
      let few = every_among _ e es (subscripts_few d img ts es s total o.laid) r.1 in
      record {
        name = name_of e;
        places = length-append e.subscripts _ ∙ rw length-replicate (omega arith);
        holds = record { start = e.start; size = e.size; reply = told e r.1; from = r.2.0; to = r.2.1 };
        only = λ q g.
            let f = holder q x g in
            let same = only_has follow x e f.element r.1 f.of.among r.2 f.has in
            record {
              item = ap (λ y. y.item) same ∙ f.of.item;
              subscripts = take-append_seam e.subscripts _ ∙ ap (λ y. y.subscripts) same ∙ f.of.subscripts;
            };
      }

  -- the element at a place that is replied ends by the total
  ends_by : (q : ElementName) (p n : ℕ) → element_place_reply d img q ≡ octets_at p n → p + n ≤ total
  ends_by q p n e =
      let f = placed_at q p n e in
      omega (arith, f.start, f.size, every_among (EndsBy total) f.element es (elements_end d img ts es s total o.laid) f.of.among)

  -- NAMES: each that there is has an element
  pub name_told : (q : ElementName) → exists d (numbers_in d img) q ≡ true → (f : Found o q) × (element_place_reply d img q ≡ octets_at f.element.start f.element.size)
  unfolding placed_place
  name_told q h = let f = name_found o q h in (f, where_laid o q ∙ ap (placed_place _) f.found)

  -- as long as its item says
  is_there : (q : ElementName) → exists d (numbers_in d img) q ≡ true
      → (p : ℕ) × (element_place_reply d img q ≡ octets_at p (length_in d (numbers_in d img) q.item))
  is_there q h =
      let r = name_told q h in
      let n = r.0.of in
      let long = every_among _ r.0.element es (laid_facts o).long n.among ∙ ap (length_in d (numbers_in d img)) n.item in
      (r.0.element.start, rw (← long) r.1)

  -- and no other has: the first cause is told
  told_by_lem : (number : Bool) (q : ElementName) → CausesSay number d (numbers_in d img) q (refusal_in (place_reply (element_place_in number d q (open_image d img))))
  told_by_lem number q = rw (refused_by_lem o number q) (causes_say d (numbers_in d img) q number)

  no_element_lem : (q : ElementName) → CausesSay false d (numbers_in d img) q (refusal_in (place_reply (element_place_reply d img q)))
  unfolding element_place_reply
  no_element_lem q = told_by_lem false q

  no_number_lem : (q : ElementName) → CausesSay true d (numbers_in d img) q (refusal_in (element_number_reply d img q))
  unfolding element_number_reply integer_place_reply
  no_number_lem q = rw (number_refusal img (element_place_in true d q (open_image d img))) (told_by_lem true q)

  -- the description's order
  in_order : (q r : ElementName) (p n x m : ℕ) → element_place_reply d img q ≡ octets_at p n → element_place_reply d img r ≡ octets_at x m
      → Earlier (way_to d q) (way_to d r) → p + n ≤ x
  in_order q r p n x m a b h =
      let f = placed_at q p n a in
      let g = placed_at r x m b in
      let early = (laid_facts o).order f.element g.element f.of.among g.of.among (rw (f.of.item, f.of.subscripts, g.of.item, g.of.subscripts) h) in
      omega (arith, early, f.start, f.size, g.start)

  -- THE DIMENSIONS: the number question answers a slot's number
  dimension_number : (i : ℕ) → i < item_count d → 0 < (fields_at d i).sets → element_number_reply d img (alone i) ≡ Ok (Answer.Number (numbers_in d img (fields_at d i).sets))
  unfolding element_number_reply integer_place_reply place_number
  dimension_number i l sets =
      let r = name_told (alone i) (dimension_exists d o.passes (numbers_in d img) i l sets) in
      let e = r.0.element in
      let m = r.0.of.among in
      let slot : e.slot ≡ (fields_at d i).sets = sym (own o e m).sets ∙ ap (λ j. (fields_at d j).sets) r.0.of.item in
      let number = every_among _ e es (laid_facts o).dimensions m (omega arith) in
      let kind = (fields_range d i).dimension sets in
      rw ((for_exactly d img (alone i) true e.start e.size).1 ((λ z. rw kind), r.1), number, slot)

-- laid out, elements stand so
pub elements_stand_lem : (d img : List ℕ) (total : ℕ) → layout_reply d img ≡ Ok (Answer.Total total) → ElementsStand ours d img total
elements_stand_lem d img total e =
    let o = (total_opens d img total e).opens in
    record {
      one = one_element o;
      ends = ends_by o;
      dimensions = dimension_number o;
      there = is_there o;
      no_element = no_element_lem o;
      no_number = no_number_lem o;
      order = in_order o;
    }
