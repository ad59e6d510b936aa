-- Of demand 3: laid out, an element that holds octets stands in a table, by its item, exactly where its octets lie in the table. Assumes nothing.
use Prim.Native.Nat.{ℕ, ◌+◌, ◌<◌, ◌≤◌}
use mathlib.Core.Path.{◌≡◌, refl}
use mathlib.Core.Logic.{inl, inr}
use mathlib.Core.List.{List}
use native.Mathlib.Omega.{arith}
use Rattle.meaning.specs.Description.{fields_at}
use Rattle.meaning.specs.Layout.{Seat, Placed}
use Rattle.meaning.specs.Passed.{Exactly}
use Rattle.meaning.proofs.Passed.{passed_laws}
use Rattle.laying.specs.Every.{Every}
use Rattle.laying.proofs.Among.{every_among, Has}
use Rattle.laying.proofs.Found.{seat_of_lem}
use Rattle.laying.proofs.LaidOut.{LiesIn, OfOrBeside, tables_hold, tables_only}
use Rattle.laying.proofs.Opened.{table_opens}
use Rattle.demands.specs.Demand3.{InBody, TableMadeUp}
use Rattle.demands.specs.Replies.{ours}
use Rattle.demands.proofs.Elements.{holder}
use Rattle.demands.proofs.Tables.{found_table, one_table}

-- an element that holds octet x is of one of a table's items exactly where x is one of the table's octets
made_up : (d : List ℕ) (t : Seat) (e : Placed) {i j p n : ℕ} (x : ℕ) → LiesIn d t e → OfOrBeside d t e → Has x e
    → t.item ≡ i → e.item ≡ j → t.start ≡ p → t.size ≡ n → Exactly (InBody d i j) ((p ≤ x) × (x < p + n))
made_up d t e {i} {j} {p} {n} x lies only h a b c f =
    ((λ g. let l = lies (omega arith) (omega (arith, same)) in (omega (arith, l.starts), omega (arith, l.ends))), λ g. go g only)
  where
    same : (fields_at d t.item).first ≡ (fields_at d i).first
    same = rw a

    go : (p ≤ x) × (x < p + n) → OfOrBeside d t e → InBody d i j
    go g (inl r) = (omega arith, omega (arith, same))
    go g (inr (inl r)) = absurd (omega arith)
    go g (inr (inr r)) = absurd (omega arith)

-- each table's elements make up the table
pub table_made_up_lem : (d img : List ℕ) → TableMadeUp ours d img
table_made_up_lem d img i p n l is reply q x h =
    let w = table_opens d img _ _ p n reply in
    let o = w.opens in
    let t = w.at.seat in
    let f = holder o q x h in
    let e = f.element in
    let m = (seat_of_lem w).among in
    let lies = every_among (λ u. Every (LiesIn d u) w.elements) t w.seats (tables_hold d img w.seats w.elements w.slots w.total o.laid) m in
    let only = every_among (λ u. Every (OfOrBeside d u) w.elements) t w.seats (tables_only d img w.seats w.elements w.slots w.total o.laid) m in
    let same = one_table (passed_laws d o.passes) (found_table o w.at.found) (record { there = l; is = is; manufacturer = refl; number = refl }) in
    made_up d t e x (every_among (LiesIn d t) e w.elements lies f.of.among) (every_among (OfOrBeside d t) e w.elements only f.of.among)
    f.has same f.of.item w.at.start w.at.size
