-- THE DEMANDS DECIDE WHAT IS IN THE IMAGE AFTER A WRITE: two families R and S that meet them and lay out alike leave the same octets. Assumes nothing.
use Prim.Native.Nat.{ℕ, ◌+◌, ◌-◌, min}
use mathlib.Core.Path.{◌≡◌, refl, sym, ◌∙◌, ap}
use mathlib.Core.List.{List}
use lib.ListN.{length}
use native.Mathlib.Omega.{arith}
use Rattle.offsets.specs.declared.TableOffset.{TableOffset}
use Rattle.meaning.specs.Basics.{bits, part, number_in}
use Rattle.meaning.specs.declared.ElementName.{ElementName}
use Rattle.meaning.specs.Layout.{data_order, number_at}
use Rattle.meaning.proofs.Splices.{part_at, part_long}
use Rattle.demands.specs.Demand2.{OthersSame, Unchanged}
use Rattle.demands.specs.Demands.{Demands}
use Rattle.demands.specs.Messages.{Octets}
use Rattle.demands.specs.Replies.{Replies, octets_at}
use Rattle.demands.proofs.OnlyOctets.{octets_at_lem, writing_only}
use Rattle.demands.proofs.OnlyOrder.{order_kept}
use Rattle.demands.proofs.OnlyWrites.{later_same, range_only, octets_only, number_write_only, range_written, octets_written}
use Rattle.meaning.specs.Refusals.{place_start, place_length}
use Rattle.meaning.specs.Values.{Verdict, passed}
use Rattle.std.specs.Prelude.{Err}
use Rattle.meaning.specs.Values.{passed}

-- A NUMBER WRITTEN, by one family: its octets, in the DATA_ORDER of before
record NumberPut (img : List ℕ) (x p n : ℕ) (later : List ℕ) : Type 0 where
  pub others : OthersSame img later p n
  pub octets : Octets (part later p n)
  pub makes : number_in (data_order img) (part later p n) ≡ x

number_put : (R : Replies) → Demands R → (d img : List ℕ) (q : ElementName) (x p n : ℕ) → R.write_number d img q x ≡ passed → R.element_place d img q ≡ octets_at p n
    → NumberPut img x p n (R.number_image d img q x)
unfolding number_at data_order
number_put R r d img q x p n w at =
    let later = R.number_image d img q x in
    let law = (r.second d img).number q x in
    let good = law.accepted.0 w in
    let start : good.1.start ≡ p = ap place_start (sym good.1.exists ∙ at) in
    let size : good.1.size ≡ n = ap place_length (sym good.1.exists ∙ at) in
    let others = law.others p n w at in
    let first = others.same 0 (order_kept R r d img q p n at (λ y a b. good.1.free y (omega arith) (omega arith))) in
    let read = (r.second d later).reads.number q p n (((r.third d img).writes_stay_put.number q x).elements q ∙ at) good.0 in
    let number : number_at later p n ≡ x = cc (sym (law.read_back w) ∙ read) in
    record {
      others = others;
      octets = octets_at_lem _ (λ i l. let k = part_long later p n in rw (part_at later p n i (omega arith)) (law.octets p n w at (p + i) (omega arith) (omega (arith, k))));
      makes = ap (λ o. number_in o (part later p n)) (ap (λ y. bits 0 0 y) (sym first)) ∙ number;
    }

number_same : (img : List ℕ) (x p n : ℕ) (a b : List ℕ) → NumberPut img x p n a → NumberPut img x p n b → a ≡ b
number_same img x p n a b h k =
    let long = part_long a p n ∙ ap (λ m. min n (m - p)) (h.others.long ∙ sym k.others.long) ∙ sym (part_long b p n) in
    later_same img a b p n h.others k.others (writing_only (data_order img) (part a p n) (part b p n) long h.octets k.octets (h.makes ∙ sym k.makes))

-- WHATEVER IS WRITTEN: refused, nothing changes
image_same : (img a b : List ℕ) (u v : Verdict) → u ≡ v → Unchanged u img a → Unchanged v img b → (u ≡ passed → v ≡ passed → a ≡ b) → a ≡ b
image_same img a b u v e h k same = go u refl
  where
    go : (w : Verdict) → u ≡ w → a ≡ b
    go passed f = same f (sym e ∙ f)
    go (Err r) f = h r f ∙ sym (k r (sym e ∙ f))

module _ (R S : Replies) (r : Demands R) (s : Demands S) (d img : List ℕ)
    (layout : R.layout d img ≡ S.layout d img)
    (table : (m k : ℕ) → R.table_place d img m k ≡ S.table_place d img m k)
    (element : (q : ElementName) → R.element_place d img q ≡ S.element_place d img q) where
  pub range_image_only : (m k : ℕ) (o : TableOffset) (new : List ℕ) → R.range_image d img m k o new ≡ S.range_image d img m k o new
  range_image_only m k o new =
      let a = (r.second d img).range m k o new in
      let b = (s.second d img).range m k o new in
      image_same img _ _ _ _ (range_only R S r s d img layout table element m k o new) a.unchanged b.unchanged (λ e f.
      let at = (a.accepted.0 e).exists in
      let there = sym (table m k) ∙ at in
      later_same img _ _ _ (length new) (a.others _ _ e at) (b.others _ _ f there)
      (range_written R r d img m k o new _ _ e at ∙ sym (range_written S s d img m k o new _ _ f there)))

  pub octets_image_only : (q : ElementName) (new : List ℕ) → R.octets_image d img q new ≡ S.octets_image d img q new
  octets_image_only q new =
      let a = (r.second d img).octets q new in
      let b = (s.second d img).octets q new in
      image_same img _ _ _ _ (octets_only R S r s d img layout table element q new) a.unchanged b.unchanged (λ e f.
      let at = (a.accepted.0 e).exists in
      let there = sym (element q) ∙ at in
      later_same img _ _ _ _ (a.others _ _ e at) (b.others _ _ f there)
      (octets_written R r d img q new _ _ e at ∙ sym (octets_written S s d img q new _ _ f there)))

  pub number_image_only : (q : ElementName) (x : ℕ) → R.number_image d img q x ≡ S.number_image d img q x
  number_image_only q x =
      let a = (r.second d img).number q x in
      let b = (s.second d img).number q x in
      image_same img _ _ _ _ (number_write_only R S r s d img layout table element q x) a.unchanged b.unchanged (λ e f.
      let at = (a.accepted.0 e).1.exists in
      number_same img x _ _ _ _ (number_put R r d img q x _ _ e at) (number_put S s d img q x _ _ f (sym (element q) ∙ at)))
