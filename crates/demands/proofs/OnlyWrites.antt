-- THE DEMANDS DECIDE WHICH WRITES ARE ACCEPTED: two families R and S that meet them and lay out alike give the same verdicts. And what reading back says of the octets written. Assumes
-- nothing.
use Prim.Native.Nat.{ℕ, zero, suc, ◌+◌, ◌-◌, ◌<◌}
use mathlib.Core.Path.{◌≡◌, refl, sym, ◌∙◌, ap}
use mathlib.Core.Logic.{inl, inr}
use mathlib.Core.Bool.{Bool, ◌&&◌}
use mathlib.Core.List.{List}
use lib.ListN.{length, get_or}
use lib.Seq.{ext_get_or}
use native.Mathlib.Decide.{dec_lt}
use native.Mathlib.Omega.{arith}
use Rattle.offsets.specs.declared.TableOffset.{TableOffset}
use Rattle.meaning.specs.Basics.{part}
use Rattle.meaning.specs.declared.ElementName.{ElementName}
use Rattle.meaning.specs.Description.{item_count, fields_at, is_dimension}
use Rattle.meaning.specs.Questions as ask
use Rattle.meaning.proofs.Splices.{part_at, part_part}
use Rattle.demands.specs.Demand1.{some_before, touches_dimension, fourteen, meets, refusals_of}
use Rattle.demands.specs.Demand2.{OthersSame}
use Rattle.demands.specs.Demands.{Demands}
use Rattle.demands.specs.Replies.{Replies, outcome_by, octets_at, alone}
use Rattle.demands.proofs.OnlyFirst.{verdict_same, refusal_same}
use Rattle.meaning.specs.Values.{passed}
use Rattle.meaning.specs.Refusals.{place_length}

-- the same tests, the same answer
some_same : (n : ℕ) (f g : ℕ → Bool) → ((i : ℕ) → f i ≡ g i) → some_before n f ≡ some_before n g
unfolding some_before
some_same zero f g e = refl
some_same (suc n) f g e = rw (e n, some_same n f g e)

-- LATER IMAGES with the same octets where they were written, and elsewhere those of before
pub later_same : (img a b : List ℕ) (p n : ℕ) → OthersSame img a p n → OthersSame img b p n → part a p n ≡ part b p n → a ≡ b
later_same img a b p n h k e = ext_get_or 0 a b (h.long ∙ sym k.long) (λ x l. go x (dec_lt x p) (dec_lt x (p + n)))
  where
    go : (x : ℕ) → Dec (x < p) → Dec (x < p + n) → get_or a x 0 ≡ get_or b x 0
    go x (yes l) m = h.same x (inl l) ∙ sym (k.same x (inl l))
    go x (no l) (no m) = h.same x (inr (omega (arith, m))) ∙ sym (k.same x (inr (omega (arith, m))))
    go x (no l) (yes m) =
        let f : x ≡ p + (x - p) = omega (arith, l) in
        let i : x - p < n = omega (arith, l) in
        rw f (sym (part_at a p n (x - p) i) ∙ ap (λ c. get_or c (x - p) 0) e ∙ part_at b p n (x - p) i)

module _ (R S : Replies) (r : Demands R) (s : Demands S) (d img : List ℕ)
    (layout : R.layout d img ≡ S.layout d img)
    (table : (m k : ℕ) → R.table_place d img m k ≡ S.table_place d img m k)
    (element : (q : ElementName) → R.element_place d img q ≡ S.element_place d img q) where
  -- 14 is the same
  fourteen_same : (p n : ℕ) → fourteen R d img p n ≡ fourteen S d img p n
  unfolding fourteen touches_dimension
  fourteen_same p n = rw (some_same (item_count d) (λ i. is_dimension (fields_at d i) && meets p n (R.element_place d img (alone i)))
      (λ i. is_dimension (fields_at d i) && meets p n (S.element_place d img (alone i))) (λ i. rw (element (alone i))))

  -- VERDICTS
  pub range_only : (m k : ℕ) (o : TableOffset) (new : List ℕ) → R.write_range d img m k o new ≡ S.write_range d img m k o new
  unfolding outcome_by refusals_of
  range_only m k o new =
      verdict_same _ _ (refusal_same R S r s d img (ask.write_range m k o new) (rw (layout, table m k, fourteen_same)))

  pub octets_only : (q : ElementName) (new : List ℕ) → R.write_octets d img q new ≡ S.write_octets d img q new
  unfolding outcome_by refusals_of
  octets_only q new =
      verdict_same _ _ (refusal_same R S r s d img (ask.write_octets q new) (rw (layout, element q, fourteen_same)))

  pub number_write_only : (q : ElementName) (x : ℕ) → R.write_number d img q x ≡ S.write_number d img q x
  unfolding outcome_by refusals_of
  number_write_only q x =
      verdict_same _ _ (refusal_same R S r s d img (ask.write_number q x) (rw (layout, element q, fourteen_same)))

-- THE OCTETS WRITTEN, of one family
module _ (R : Replies) (r : Demands R) (d img : List ℕ) where
  -- in a range
  pub range_written : (m k : ℕ) (o : TableOffset) (new : List ℕ) (p n : ℕ) → R.write_range d img m k o new ≡ passed → R.table_place d img m k ≡ octets_at p n
      → part (R.range_image d img m k o new) (p + o.0) (length new) ≡ new
  range_written m k o new p n w at =
      let later = R.range_image d img m k o new in
      let told = (r.second d later).reads.table m k p n (((r.third d img).writes_stay_put.range m k o new).tables m k ∙ at) in
      let good = ((r.second d img).range m k o new).accepted.0 w in
      let long : good.size ≡ n = ap place_length (sym good.exists ∙ at) in
      sym (part_part later p n o.0 (length new) (omega (arith, good.fits))) ∙ ap (λ c. part c o.0 (length new)) (sym told)
      ∙ ((r.second d img).range m k o new).read_back w

  -- as an element's octets
  pub octets_written : (q : ElementName) (new : List ℕ) (p n : ℕ) → R.write_octets d img q new ≡ passed → R.element_place d img q ≡ octets_at p n
      → part (R.octets_image d img q new) p n ≡ new
  octets_written q new p n w at =
      let later = R.octets_image d img q new in
      sym ((r.second d later).reads.element q p n (((r.third d img).writes_stay_put.octets q new).elements q ∙ at)) ∙ ((r.second d img).octets q new).read_back w
