-- A description laid over an image. Laid out: elements follow one another from octet 0 to the total, which is inside the image; each is of its item, has at most
-- 4 subscripts and is found by its own name; tables follow one another, and those elements lie in a table that are of its items. Where the image is short: the
-- elements before the short item fill the image up to its octet. Of any description and image. Assumes nothing.
use Prim.Native.Nat.{ℕ, ◌+◌, ◌-◌, ◌<◌, ◌≤◌}
use mathlib.Core.Path.{◌≡◌, refl, subst}
use mathlib.Core.Logic.{◌⊎◌, inl, inr}
use mathlib.Core.Bool.{false}
use mathlib.Core.List.{List, ◌++◌}
use lib.ListN.{length}
use native.Mathlib.Omega.{arith}
use Rattle.meaning.specs.declared.Fields.{Fields}
use Rattle.meaning.specs.Description.{item_count}
use Rattle.meaning.specs.Layout.{Tables, no_more, table, stray_table, tree_of, Slots, Placed, fault, short, Laid}
use Rattle.meaning.specs.Layout.{Seat, Layout, laid_out, stopped_at, before, seated, lay_tables, lay_out}
use Rattle.laying.specs.Cover.{Follow}
use Rattle.laying.specs.Every.{Every}
use Rattle.laying.specs.Names.{Found, FewSubscripts}
use Rattle.laying.specs.Own.{OfItem}
use Rattle.laying.proofs.Every.{every_map, every_append}
use Rattle.laying.proofs.Apart.{apart_found}
use Rattle.laying.proofs.Cover.{EndsBy, Lies, Fill, Consecutive, consecutive_fill}
use Rattle.laying.proofs.Rising.{RisesTables, after_table, rises_tree}
use Rattle.laying.proofs.Laying.{Laying, Keeps, lays, falls_short, faults, laying_none, laying_append, laying_map, Joins, Own, wider, rising, keeps_body}

module _ (d : List ℕ) where
  -- if e is of one of table t's items, it lies in the table
  abbrev pub LiesIn : Seat → Placed → Type 0
  LiesIn t e = t.item < e.item → e.item < after_table d t.item → Lies t.start (t.start + t.size) e

  -- it is of one of them, or it lies before the table or after it
  abbrev pub OfOrBeside : Seat → Placed → Type 0
  OfOrBeside t e = ((t.item < e.item) × (e.item < after_table d t.item)) ⊎ ((e.start + e.size ≤ t.start) ⊎ (t.start + t.size ≤ e.start))

  -- a table of an item from lo on, at p or after, made up by the elements of its items
  record Made (p lo : ℕ) (es : List Placed) (t : Seat) : Type 0 where
    there : t.item < item_count d
    low : lo ≤ t.item
    from : p ≤ t.start
    lies : Every (LiesIn t) es
    only : Every (OfOrBeside t) es

  -- an element of an item from lo on
  abbrev From : (lo : ℕ) → Placed → Type 0
  From lo = Own d 0 lo (item_count d)

  -- tables from p on, with their elements, up to n
  record Whole (l p lo : ℕ) (ts : List Seat) (es : List Placed) (n : ℕ) : Type 0 where
    laying : Laying false l p (From lo) es n
    follow : Follow p ts n
    made : Every (Made p lo es) ts

  -- what is laid out from p on, of items from lo on
  abbrev KeepsAll : (l p lo : ℕ) → Layout → Type 0
  KeepsAll l p lo (laid_out ts es s n) = Whole l p lo ts es n
  KeepsAll l p lo (stopped_at es (short i q)) = Laying false l p (From lo) es q
  KeepsAll l p lo (stopped_at es (fault x i)) = Unit {0}

  -- table i from p to q, with its elements; a later table's items come after its own
  module _ {l p q lo i : ℕ} (f : Fields) (above : lo ≤ i) (fits : after_table d i ≤ item_count d) {ps : List Placed}
      (h : Laying false l p (Own d 0 (i + 1) (after_table d i)) ps q) where
    -- the item after its last
    abbrev to : ℕ
    to = after_table d i

    -- what its elements fill
    fill : Fill p ps q
    fill = consecutive_fill h.consecutive

    -- as a seat
    abbrev seat : Seat
    seat = record { item = i; manufacturer = f.manufacturer; number = f.number; start = p; size = q - p }

    -- its elements, before those of later items
    joins : Joins (Own d 0 (i + 1) to) (From to) (From lo)
    joins = rising d (omega arith) (omega arith) fits

    -- the table itself, with elements of later items
    made_here : {n : ℕ} {qs : List Placed} → Laying false l q (From to) qs n → Made p lo (ps ++ qs) seat
    made_here {n} {qs} k =
        record {
          there = omega (arith, fits);
          low = above;
          from = omega arith;
          lies = every_append (LiesIn seat) ps qs
              (every_map (Lies p q) (LiesIn seat) (λ e g a b. record { starts = g.starts; ends = omega (arith, g.ends) }) ps fill.lies)
              (every_map (From to) (LiesIn seat) (λ e g a b. absurd (omega (arith, g.low))) qs k.each);
          only = every_append (OfOrBeside seat) ps qs
              (every_map (Own d 0 (i + 1) to) (OfOrBeside seat) (λ e g. inl (omega (arith, g.low), g.high)) ps h.each)
              (every_map (Lies q n) (OfOrBeside seat) (λ e g. inr (inr (omega (arith, fill.order, g.starts)))) qs (consecutive_fill k.consecutive).lies);
        }

    -- a later table, with elements of earlier items
    made_later : (qs : List Placed) (t : Seat) → Made q to qs t → Made p lo (ps ++ qs) t
    made_later qs t k =
        record {
          there = k.there;
          low = omega (arith, k.low);
          from = omega (arith, fill.order, k.from);
          lies = every_append (LiesIn t) ps qs
              (every_map (Own d 0 (i + 1) to) (LiesIn t) (λ e g a b. absurd (omega (arith, g.high, k.low))) ps h.each) k.lies;
          only = every_append (OfOrBeside t) ps qs
              (every_map (Lies p q) (OfOrBeside t) (λ e g. inr (inl (omega (arith, g.ends, k.from)))) ps fill.lies) k.only;
        }

    -- before others, or before what stops
    keeps_before : (o : Layout) → KeepsAll l q to o → KeepsAll l p lo (before seat ps o)
    unfolding Follow Every
    keeps_before (laid_out ts qs s n) k =
        let e : p + (q - p) ≡ q = omega (arith, fill.order) in
        record {
          laying = laying_append joins h k.laying;
          follow = (refl, rw e k.follow);
          made = (made_here k.laying, every_map (Made q to qs) (Made p lo (ps ++ qs)) (made_later qs) ts k.made);
        }
    keeps_before (stopped_at qs (short j y)) k = laying_append joins h k
    keeps_before (stopped_at qs (fault x j)) k = tt

  -- a table, then others
  keeps_seated : {l p lo i : ℕ} (f : Fields) → lo ≤ i → after_table d i ≤ item_count d → {o : Laid} (g : Slots → ℕ → Layout)
      → Keeps false l p (Own d 0 (i + 1) (after_table d i)) o → ((s : Slots) (q : ℕ) → KeepsAll l q (after_table d i) (g s q)) → KeepsAll l p lo (seated i f p o g)
  unfolding seated
  keeps_seated f a b g (lays {s = s} {q} h) k = keeps_before f a b h (g s q) (k s q)
  keeps_seated f a b g (falls_short e h) k = laying_map (wider d (omega arith) b) h
  keeps_seated f a b g faults k = tt

  -- all tables
  keeps_tables : (t : Tables) (lo : ℕ) → RisesTables d lo t → (img : List ℕ) (s : Slots) (p : ℕ) → KeepsAll (length img) p lo (lay_tables t img s p)
  unfolding lay_tables RisesTables Follow Every
  keeps_tables no_more lo h img s p = record { laying = laying_none; follow = refl; made = tt }
  keeps_tables (table i f body rest) lo h img s p =
      keeps_seated f h.0 h.1 _ (keeps_body d img body 0 (i + 1) (after_table d i) h.2 false s p) (λ t q. keeps_tables rest (after_table d i) h.3 img t q)
  keeps_tables (stray_table i) lo h img s p = tt

  module _ (img : List ℕ) where
    -- the description laid over an image
    keeps_layout : KeepsAll (length img) 0 0 (lay_out d img)
    unfolding lay_out
    keeps_layout = keeps_tables (tree_of d) 0 (rises_tree d) img _ 0

    module _ (ts : List Seat) (es : List Placed) (s : Slots) (total : ℕ) (e : lay_out d img ≡ laid_out ts es s total) where
      whole : Whole (length img) 0 0 ts es total
      whole = subst (KeepsAll (length img) 0 0) e keeps_layout

      -- elements follow one another from octet 0 to the total
      pub elements_follow : Consecutive 0 es total
      elements_follow = whole.laying.consecutive

      -- each element ends by the total
      pub elements_end : Every (EndsBy total) es
      elements_end = every_map (Lies 0 total) (EndsBy total) (λ x g. g.ends) es (consecutive_fill elements_follow).lies

      -- the total is inside the image
      pub total_inside : total ≤ length img
      total_inside = omega (arith, whole.laying.inside refl)

      -- each element is of its item
      pub elements_own : Every (λ x. OfItem d x.item x.slot x.size) es
      elements_own = every_map (From 0) _ (λ x g. g.of) es whole.laying.each

      -- each element is found by its own name
      pub names_found : Found es
      names_found = apart_found es whole.laying.apart

      -- each element has at most 4 subscripts
      pub subscripts_few : FewSubscripts es
      subscripts_few = every_map (From 0) (λ x. length x.subscripts ≤ 4) (λ x g. omega (arith, g.few)) es whole.laying.each

      -- tables follow one another from octet 0 to the total
      pub tables_follow_lem : Follow 0 ts total
      tables_follow_lem = whole.follow

      -- each is of an item of the description
      pub tables_there : Every (λ t. t.item < item_count d) ts
      tables_there = every_map (Made 0 0 es) _ (λ t g. g.there) ts whole.made

      -- the elements of each table's items lie in the table, those of no octets too
      pub tables_hold : Every (λ t. Every (LiesIn t) es) ts
      tables_hold = every_map (Made 0 0 es) _ (λ t g. g.lies) ts whole.made

      -- and no others do
      pub tables_only : Every (λ t. Every (OfOrBeside t) es) ts
      tables_only = every_map (Made 0 0 es) _ (λ t g. g.only) ts whole.made
