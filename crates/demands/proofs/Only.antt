-- THE DEMANDS ALONE DECIDE EVERY REPLY: any family that meets them is ours, in every reply and in all that is left in memory lent, for every description, image and question. So no wrong
-- answer meets them, and whoever believes the statements of specs/ has no need to read how a reply is made. Three facts about ours are used beside the demands: a name is read up to its
-- count, a tier is answered by a tier or "none yet today", and whether a season record stands by yes or no. Assumes nothing but that both families meet the demands; proofs/Demands.antt has it of ours.
use Prim.Native.Nat.{ℕ}
use mathlib.Core.Path.{◌≡◌, refl}
use mathlib.Core.Bool.{false}
use mathlib.Core.List.{List}
use borrow.Author.Tests.{le-leb}
use Rattle.meaning.specs.declared.ElementName.{ElementName}
use Rattle.meaning.specs.declared.Controls.{Controls}
use Rattle.meaning.specs.declared.Date.{Date}
use Rattle.meaning.specs.declared.Moment.{Moment}
use Rattle.meaning.specs.declared.Quantity.{Quantity}
use Rattle.meaning.specs.Refusals.{Opened, opened, refused, open_image, element_in, element_for, element_place_in, element_place_reply}
use Rattle.meaning.specs.Causes.{why_none}
use Rattle.meaning.specs.Calendar.{Found, found, missing, calendar, tier_in, tier_reply, seasoned_in, seasoned_reply}
use Rattle.demands.specs.Demands.{Demands}
use Rattle.demands.specs.Replies.{Replies, ours}
use Rattle.demands.specs.Same.{Same}
use Rattle.demands.proofs.Calendar.{OneOf, refusal, none, tier, answer, Stood, unreal, stands, stands_none, stood}
use Rattle.demands.proofs.OnlyCalendar as kinds
use Rattle.demands.proofs.OnlyCalendar.{TierKind, SeasonedKind, had_only, matrix_only, cells_only, tier_only, seasoned_only}
use Rattle.demands.proofs.OnlyImages.{range_image_only, octets_image_only, number_image_only}
use Rattle.demands.proofs.OnlyReads.{Counted, check_only, layout_only, table_only, table_part_only, read_only, read_part_only, element_only, element_part_only, number_only}
use Rattle.demands.proofs.OnlyWeekdays.{weekday_only}
use Rattle.demands.proofs.OnlyWrites.{range_only, octets_only, number_write_only}
use Rattle.meaning.specs.Values.{Reply}

-- OURS
counted : Counted ours
unfolding element_place_reply element_place_in element_for element_in why_none
counted d img q t same few less = go (open_image d img)
  where
    go : (o : Opened) → element_place_in false d q o ≡ element_place_in false d t o
    go (opened ts es s n) = rw (le-leb _ _ few, le-leb _ _ less, same.item, same.subscripts)
    go (refused r) = refl

tier_kind : (d img : List ℕ) (w : Moment) (q : Quantity) → TierKind (tier_reply d img w q)
unfolding tier_reply tier_in
tier_kind d img w q = go (calendar d img)
  where
    kind : (o : ℕ) (c : Controls) (t : List ℕ) → OneOf o c t w q → TierKind (tier_in w q (found o c t))
    kind o c t (refusal r e) = kinds.refused r e
    kind o c t (none s e f) = kinds.none f
    kind o c t (tier s v x e f) = kinds.told x f

    go : (x : Found) → TierKind (tier_in w q x)
    go (missing r) = kinds.refused r refl
    go (found o c t) = kind o c t (answer o c t w q)

seasoned_kind : (d img : List ℕ) (t : Date) → SeasonedKind (seasoned_reply d img t)
unfolding seasoned_reply seasoned_in
seasoned_kind d img t = go (calendar d img)
  where
    kind : (o : ℕ) (c : Controls) (b : List ℕ) (x : Reply) → Stood o c b t x → SeasonedKind x
    kind o c b x (unreal r e n) = kinds.barred r e
    kind o c b x (stands e dated s) = kinds.stands e
    kind o c b x (stands_none e dated s) = kinds.before e

    go : (x : Found) → SeasonedKind (seasoned_in t x)
    go (missing r) = kinds.barred r refl
    go (found o c b) = kind o c b _ (stood o c b t)

-- ANY FAMILY IS OURS
pub only : (R : Replies) → Demands R → Demands ours → Same R ours
only R r o =
    let layout = layout_only R ours r o in
    let table = table_only R ours r o in
    let element : (d img : List ℕ) (q : ElementName) → R.element_place d img q ≡ element_place_reply d img q = λ d img. element_only R ours r o d img counted in
    let part = table_part_only R ours r o in
    record {
      check = check_only R ours r o;
      layout = layout;
      table_place = table;
      table_part = part;
      element_place = element;
      element_part = λ d img. element_part_only R ours r o d img counted;
      element_number = λ d img. number_only R ours r o d img counted;
      write_range = λ d img. range_only R ours r o d img (layout d img) (table d img) (element d img);
      range_image = λ d img. range_image_only R ours r o d img (layout d img) (table d img) (element d img);
      write_octets = λ d img. octets_only R ours r o d img (layout d img) (table d img) (element d img);
      octets_image = λ d img. octets_image_only R ours r o d img (layout d img) (table d img) (element d img);
      write_number = λ d img. number_write_only R ours r o d img (layout d img) (table d img) (element d img);
      number_image = λ d img. number_image_only R ours r o d img (layout d img) (table d img) (element d img);
      tier = λ d img w q. tier_only R ours r o d img (layout d img) (part d img) w q (tier_kind d img w q);
      matrix = λ d img. matrix_only R ours r o d img (layout d img) (part d img);
      matrix_verdict = λ d img. had_only R ours r o d img (layout d img) (part d img);
      matrix_cells = λ d img. cells_only R ours r o d img (layout d img) (part d img);
      seasoned = λ d img t. seasoned_only R ours r o d img (layout d img) (part d img) t (seasoned_kind d img t);
      read_range = read_only R ours r o;
      range_part = read_part_only R ours r o;
      weekday = weekday_only R ours r o;
    }
