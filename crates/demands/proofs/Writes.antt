-- Of demands 2 and 3, for any write: data put where no dimension stands leave every table and element where it stood, are read there afterwards, and every
-- other octet is the same; a refused write changes nothing. Assumes nothing.
use Prim.Native.Nat.{ℕ, ◌+◌, ◌<◌, ◌≤◌}
use mathlib.Core.Path.{◌≡◌, refl, sym, ◌∙◌, ap, subst}
use mathlib.Core.Logic.{inl, inr}
use mathlib.Core.Bool.{false}
use mathlib.Core.List.{List, [], ◌∷◌}
use lib.ListN.{length, get_or}
use native.Mathlib.Decide.{dec_lt, dec_le}
use native.Mathlib.Omega.{arith}
use Rattle.meaning.specs.Basics.{part, splice, bits, octets_in}
use Rattle.meaning.specs.Layout.{Placed, Seat, Slots, lay_out, data_order, number_at}
use Rattle.meaning.specs.Refusals.{any_dimension, place_verdict, image_with, image_with_number}
use Rattle.meaning.proofs.Splices.{part_same, splice_long, splice_there, splice_others}
use Rattle.laying.specs.Every.{Every}
use Rattle.laying.specs.Kept.{SameNumber, Undisturbed, elements_reached}
use Rattle.laying.proofs.Every.{every_map}
use Rattle.laying.proofs.Dimensions.{Free, search_free}
use Rattle.laying.proofs.LaidOut.{total_inside}
use Rattle.laying.proofs.First.{Ordered, first_ordered}
use Rattle.laying.proofs.Kept.{layout_kept}
use Rattle.demands.specs.Demand2.{OthersSame, Unchanged}
use Rattle.demands.specs.Replies.{octets_at, ours}
use Rattle.demands.specs.Demand3.{StaysPut}
use Rattle.laying.proofs.Opened.{Opens, total_laid, table_laid, where_laid}
use Rattle.meaning.proofs.Either.{clash}
use Rattle.std.specs.Prelude.{Ok, Err}
use Rattle.meaning.specs.Values.{Place, passed}

-- OCTETS OUTSIDE DIMENSIONS
-- an image whose octets are the same but for n from p on, none of them a dimension's
module _ {img later : List ℕ} {p n : ℕ} (same : OthersSame img later p n) where
  -- octets of an element that sets a slot are the same
  octet_same : (e : Placed) → Free p n e → 0 < e.slot → (x : ℕ) → e.start ≤ x → x < e.start + e.size → get_or later x 0 ≡ get_or img x 0
  octet_same e h k x a b = go (dec_lt x p) (dec_le (p + n) x)
    where
      go : Dec (x < p) → Dec (p + n ≤ x) → get_or later x 0 ≡ get_or img x 0
      go (yes l) r = same.same x (inl l)
      go (no l) (yes r) = same.same x (inr (omega arith))
      go (no l) (no r) = absurd (omega (arith, h x (omega arith) (omega arith) a b))

  -- so DATA_ORDER is
  order_same : (es : List Placed) → Ordered es → Every (Free p n) es → data_order later ≡ data_order img
  unfolding data_order Every
  order_same [] o h = absurd o
  order_same (e ∷ es) o h = ap (λ (x : ℕ). bits 0 0 x) (octet_same e h.0 o.0 0 (omega (arith, o.1)) (omega (arith, o.1, o.2)))

  -- and each dimension's number
  undisturbed : (es : List Placed) → Ordered es → Every (Free p n) es → Undisturbed img later es
  unfolding number_at
  undisturbed es o h =
      let order = order_same es o h in
      every_map (Free p n) (SameNumber img later)
      (λ e f k. rw (order, part_same later img e.start e.size same.long (octet_same e f k))) es h

-- A WRITE'S PLACE
-- what a write comes to, w, is n octets from p on, of an opened image and none a dimension's, for data as long
pub record Taken (d img : List ℕ) (w : Place) (data' : ℕ → List ℕ) (p n : ℕ) : Type 0 where
  pub seats : List Seat
  pub elements : List Placed
  pub slots : Slots
  pub total : ℕ
  pub opens : Opens d img seats elements slots total
  pub is : w ≡ octets_at p n
  pub long : length (data' n) ≡ n
  pub inside : p + n ≤ total
  pub free : any_dimension elements p n ≡ false

-- the image afterwards: data that the place's length decides, in that place
unfoldable pub written_with : (image : List ℕ) → (ℕ → List ℕ) → Place → List ℕ
written_with img data' (Ok e) = splice img e.start.0 (data' e.length)
written_with img data' (Err r) = img

-- octets or a range: the data as they are
pub with_data : (img new : List ℕ) (w : Place) → image_with img new w ≡ written_with img (λ n. new) w
unfolding image_with written_with
with_data img new (Ok e) = refl
with_data img new (Err r) = refl

-- a number: its octets, as many as the place has
pub with_number : (img : List ℕ) (x : ℕ) (w : Place) → image_with_number img x w ≡ written_with img (λ n. octets_in (data_order img) n x) w
unfolding image_with_number written_with
with_number img x (Ok e) = refl
with_number img x (Err r) = refl

module _ {d img : List ℕ} {w : Place} {data' : ℕ → List ℕ} {p n : ℕ} (t : Taken d img w data' p n) where
  -- such a write is accepted
  pub taken_passed : place_verdict w ≡ passed
  unfolding place_verdict
  taken_passed = ap place_verdict t.is

  -- the image afterwards
  abbrev pub after : List ℕ
  after = splice img p (data' n)

  -- it is what the write leaves
  pub taken_after : written_with img data' w ≡ after
  unfolding written_with
  taken_after = ap (written_with img data') t.is

  -- the data end inside the image
  ends : p + length (data' n) ≤ length img
  ends = omega (arith, t.long, t.inside, total_inside d img t.seats t.elements t.slots t.total t.opens.laid)

  -- every other octet is the same
  pub taken_others : OthersSame img after p n
  taken_others = record { long = splice_long img p (data' n) ends; same = λ x h. splice_others img p (data' n) ends x (rw t.long h) }

  -- the data are there
  pub taken_there : part after p n ≡ data' n
  taken_there = ap (part after p) (sym t.long) ∙ splice_there img p (data' n) ends

  -- each element that holds one of them sets no slot
  each_free : Every (Free p n) t.elements
  each_free = search_free p n t.elements t.free

  -- the first element is DATA_ORDER
  ordered : Ordered t.elements
  ordered = first_ordered d img t.seats t.elements t.slots t.total t.opens.passes t.opens.laid

  -- so DATA_ORDER is the same
  pub taken_order : data_order after ≡ data_order img
  taken_order = order_same taken_others t.elements ordered each_free

  -- and the image is laid out as before
  laid_after : lay_out d after ≡ lay_out d img
  laid_after =
      layout_kept d img after t.opens.passes taken_others.long
      (subst (λ o. Undisturbed img after (elements_reached o)) (sym t.opens.laid) (undisturbed taken_others t.elements ordered each_free))

  -- to the same tables and elements
  opens_after : Opens d after t.seats t.elements t.slots t.total
  opens_after =
      record { passes = t.opens.passes; allowed = omega (arith, t.opens.allowed, taken_others.long); laid = laid_after ∙ t.opens.laid }

  -- so that every table and element stands where it stood
  pub taken_stays : StaysPut ours d img after
  taken_stays =
      record {
        total = total_laid opens_after ∙ sym (total_laid t.opens);
        tables = λ m k. table_laid opens_after m k ∙ sym (table_laid t.opens m k);
        elements = λ q. where_laid opens_after q ∙ sym (where_laid t.opens q);
      }

-- ACCEPTED OR NOT
-- an accepted write has its place
abbrev pub Takes : (d img : List ℕ) → Place → (ℕ → List ℕ) → Type 0
Takes d img w data' = place_verdict w ≡ passed → (p : ℕ) × (n : ℕ) × Taken d img w data' p n

-- every table and element stands where it stood
pub stays_put : {d img : List ℕ} (w : Place) (data' : ℕ → List ℕ) → Takes d img w data' → StaysPut ours d img (written_with img data' w)
unfolding place_verdict written_with
stays_put {d} {img} (Ok e) data' h = let t = (h refl).2 in subst (StaysPut ours d img) (sym (taken_after t)) (taken_stays t)
stays_put (Err r) data' h = record { total = refl; tables = λ m k. refl; elements = λ q. refl }

-- a refused write changes nothing
pub refused_unchanged : (img : List ℕ) (w : Place) (data' : ℕ → List ℕ) → Unchanged (place_verdict w) img (written_with img data' w)
unfolding place_verdict written_with
refused_unchanged img (Ok w) data' r e = clash (cc)
refused_unchanged img (Err s) data' r e = refl
