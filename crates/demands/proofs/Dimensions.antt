-- Of demand 2: octets of the image hold no octet of a dimension, by the search that a write makes, exactly where each element that holds one of them sets no
-- slot. Assumes nothing.
use Prim.Native.Nat.{ℕ}
use mathlib.Core.Path.{◌≡◌, ap}
use mathlib.Core.Bool.{false}
use mathlib.Core.List.{List}
use borrow.Author.Tests.{ltb-false, le-ltb}
use native.Mathlib.Omega.{arith}
use Rattle.meaning.specs.Description.{fields_at}
use Rattle.meaning.specs.Layout.{Placed, Seat, Slots}
use Rattle.meaning.specs.Refusals.{any_dimension}
use Rattle.demands.specs.Demand2.{NoDimension}
use Rattle.demands.specs.Replies.{ours}
use Rattle.laying.proofs.Dimensions.{Free, search_free, free_search}
use Rattle.laying.proofs.Opened.{Opens}
use Rattle.laying.proofs.Among.{every_among, among_every}
use Rattle.laying.proofs.Found.{own}
use Rattle.demands.proofs.Elements.{holder, name_of, told}

module _ {d img : List ℕ} {ts : List Seat} {es : List Placed} {s : Slots} {total : ℕ} (o : Opens d img ts es s total) where
  -- no dimension is found: none is touched
  pub found_none : (p n : ℕ) → any_dimension es p n ≡ false → NoDimension ours d img p n
  found_none p n h x a b q g =
      let f = holder o q x g in
      let e = f.element in
      let z = every_among (Free p n) e es (search_free p n es h) f.of.among x a b f.has.0 f.has.1 in
      let i : (fields_at d e.item).sets ≡ (fields_at d q.item).sets = ap (λ (j : ℕ). (fields_at d j).sets) f.of.item in
      le-ltb 0 (fields_at d q.item).sets (omega (arith, (own o e f.of.among).sets))

  -- none is touched: none is found
  pub none_found : (p n : ℕ) → NoDimension ours d img p n → any_dimension es p n ≡ false
  none_found p n h =
      free_search p n es (among_every (Free p n) es (λ e m x a b c f.
      let g = h x a b (name_of e) (record { start = e.start; size = e.size; reply = told o e m; from = c; to = f }) in
      omega (arith, ltb-false 0 (fields_at d e.item).sets g, (own o e m).sets)))
