-- A passed description is walked table by table: each table stands from the end of the pieces before it to the end of its own, and the elements laid out are those of its names.
-- Assumes nothing.
use Prim.Native.Nat.{ℕ, suc, ◌+◌, ◌-◌, ◌<◌, ◌≤◌}
use mathlib.Core.Path.{◌≡◌, refl, ◌∙◌, ap, ap₂, sym}
use mathlib.Core.Bool.{true, false}
use mathlib.Core.List.{List, [], ◌∷◌, ◌++◌}
use lib.ListN.{length}
use native.Mathlib.Omega.{arith}
use Rattle.meaning.specs.declared.Fields.{Fields}
use Rattle.meaning.specs.Description.{item_count, fields_at, nested}
use Rattle.meaning.specs.Description.{inside as enclosed}
use Rattle.meaning.specs.Layout.{body_at, tables_of, tree_of, Slots, unread, Placed, fault, short, Laid, laid, stopped}
use Rattle.meaning.specs.Layout.{Seat, Layout, laid_out, stopped_at, before, seated, lay_tables, lay_out, lay_body, Numbers, number_of}
use Rattle.meaning.specs.Passed.{PassedLaws, end_of}
use Rattle.meaning.proofs.Rules.{slot_none}
use Rattle.laying.specs.Every.{Every}
use Rattle.laying.specs.Slots.{octets_of, Matches}
use Rattle.laying.specs.Sound.{Known, none_known, after_body}
use Rattle.laying.proofs.Bodies.{Same}
use Rattle.laying.proofs.Every.{every_append}
use Rattle.laying.proofs.Nested.{Run, rest_body}
use Rattle.laying.proofs.Steps.{tables_none, tables_step, by_items}
use Rattle.laying.proofs.Tops.{table_is, top, TableAt, table_at_lem, whole_run, fit_body}
use Rattle.demands.specs.Walk.{arrays_of, all_chosen, Reached, reached, octet_before, numbers_before, numbers_in}
use Rattle.demands.proofs.Around.{nests_to, to_count, from_after, from_other}
use Rattle.demands.proofs.Naming.{element_after, Name, names_body, names_tables, Names, Sorted, names_from, names_append, names_body_lem}
use Rattle.demands.proofs.Pieces.{no_piece, no_runs, Inside, inside_one, inside_both, octets_grow}
use Rattle.demands.proofs.Stripped.{strip, strip_append}
use Rattle.demands.proofs.Walked.{walks_body}
use Rattle.demands.proofs.Walking.{At, DimensionIs, FirstIn, Walks, first_before, first_after, walks_before, other_piece}

no_more_of : (js : List ℕ) → length js ≡ 0 → js ≡ []
no_more_of [] e = refl
no_more_of (j ∷ js) e = absurd (omega (arith, e))

module _ (d img : List ℕ) where
  -- TABLES from item a on, with their elements
  pub record TablesWalked (a : ℕ) (ns : List Name) (ts : List Seat) (es : List Placed) (s : Slots) (n : ℕ) : Type 0 where
    pub here : At d img (item_count d) s n
    pub inside : Inside d img a (item_count d)
    pub starts : Every (λ t. octet_before d img t.item ≡ t.start) ts
    pub ends : Every (λ t. octet_before d img (end_of d t.item) ≡ t.start + t.size) ts
    pub names : strip es ≡ ns
    pub dimensions : Every (DimensionIs d img) es

  abbrev pub WalksAll : (a : ℕ) → List Name → Layout → Type 0
  WalksAll a ns (laid_out ts es s n) = TablesWalked a ns ts es s n
  WalksAll a ns (stopped_at es (short i x)) = FirstIn d img a (item_count d) i x
  WalksAll a ns (stopped_at es (fault x i)) = ⊥

  -- a table from item a up to b, then others
  walks_seated : (a b : ℕ) (f : Fields) (q : ℕ) → a < b → end_of d a ≡ b → b ≤ item_count d → octet_before d img a ≡ q → (κ : Known) (ns ms : List Name) (o : Laid) (next : Slots → ℕ → Layout)
      → Walks d img a b κ ns o → ((t : Slots) (x : ℕ) → At d img b t x → Matches t κ → WalksAll b ms (next t x)) → WalksAll a (ns ++ ms) (seated a f q o next)
  unfolding seated Every
  walks_seated a b f q l end room at κ ns ms (laid ps t x) next h k = go (next t x) (k t x h.here h.matches)
    where
      x_is : octet_before d img b ≡ x
      x_is = ap (λ (r : Reached). r.octet) h.here

      go : (o : Layout) → WalksAll b ms o → WalksAll a (ns ++ ms) (before (record { item = a; manufacturer = f.manufacturer; number = f.number; start = q; size = x - q }) ps o)
      go (laid_out ts qs u n) w =
          record {
            here = w.here;
            inside = inside_both d img a b (item_count d) h.inside w.inside;
            starts = (at, w.starts);
            ends = (rw end (omega (arith, x_is, at, octets_grow d img a b (omega arith))), w.ends);
            names = strip_append ps qs ∙ ap₂ ◌++◌ h.names w.names;
            dimensions = every_append (DimensionIs d img) ps qs h.dimensions w.dimensions;
          }
      go (stopped_at qs (short i y)) w = first_before d img a b (item_count d) i y (omega arith) h.inside w
      go (stopped_at qs (fault y i)) w = w
  walks_seated a b f q l end room at κ ns ms (stopped ps (short i x)) next h k = first_after d img a b (item_count d) i x room h
  walks_seated a b f q l end room at κ ns ms (stopped ps (fault x i)) next h k = h

-- OF A PASSED DESCRIPTION
module _ (d img : List ℕ) (p : PassedLaws d) where
  abbrev v : Numbers
  v = numbers_in d img

  -- it is walked, and then the tables that follow
  walks_table : (a n : ℕ) (κ : Known) (s : Slots) (q : ℕ) → a + suc n ≡ item_count d → TableAt d a κ → Matches s κ → At d img a s q
      → ((t : Slots) (x : ℕ) → Matches t (after_body (body_at 4 d (a + 1) (fields_at d a).first) κ) → At d img (end_of d a) t x
      → WalksAll d img (end_of d a) (names_tables (tables_of d (n - nested (fields_at d a)) 0 (end_of d a)) v) (lay_tables (tables_of d (n - nested (fields_at d a)) 0 (end_of d a)) img t x))
      → WalksAll d img a (names_tables (tables_of d (suc n) 0 a) v) (lay_tables (tables_of d (suc n) 0 a) img s q)
  unfolding lay_tables names_tables enclosed arrays_of all_chosen
  walks_table a n κ s q long t m here rest =
      let f = fields_at d a in
      let ends = t.ends in
      let end = t.end in
      let none = other_piece d (numbers_before d img a) a t.element t.array in
      let there : a + 1 + nested f ≡ end_of d a = omega arith in
      rw (tables_step d a n, there, table_is d a n (tables_of d (n - nested f) 0 (end_of d a)) t.is (omega arith))
      (walks_seated d img a (end_of d a) f q (omega arith) refl ends (ap (λ (r : Reached). r.octet) here)
      (after_body (body_at 4 d (a + 1) f.first) κ) (names_body (body_at 4 d (a + 1) f.first) v) _ (lay_body (body_at 4 d (a + 1) f.first) img false s q)
      (λ t y. lay_tables (tables_of d (n - nested f) 0 (end_of d a)) img t y)
      (walks_before d img a (a + 1) (end_of d a) _ _ (lay_body (body_at 4 d (a + 1) f.first) img false s q) (inside_one d img a (no_runs d img a none)) (omega arith)
      (rw end at (walks_body d img p 4 (omega arith) (a + 1) f.first _ true κ s q t.body t.sound t.next m (no_piece d img a none ∙ here)
      (λ i y z. let empty = no_more_of (nests_to d (a + 1) i) (to_count d (a + 1) i (omega arith) ∙ rw (t.body.held i y z, t.flat)) in rw empty (refl, refl)))))
      (λ t y at matches. rest t y matches at))

  -- the tables among the last n items
  abbrev WalksLast : (a n : ℕ) → Type 0
  WalksLast a n = (κ : Known) (s : Slots) (q : ℕ) → a + n ≡ item_count d → Run d a (item_count d) (top d) → Same d κ a → Matches s κ → At d img a s q
      → WalksAll d img a (names_tables (tables_of d n 0 a) v) (lay_tables (tables_of d n 0 a) img s q)

  walks_none : (a : ℕ) → WalksLast a 0
  unfolding lay_tables names_tables strip Every
  walks_none a κ s q long run same g here =
      let e : item_count d ≡ a = omega arith in
      rw (tables_none d a) (record { here = rw e here; inside = λ i x y. absurd (omega arith); starts = tt; ends = tt; names = refl; dimensions = tt })

  walks_last : (a n : ℕ) → WalksLast a n
  walks_last =
      by_items d WalksLast walks_none
      (λ a n rest κ s q long run same g here.
      let t = table_at_lem p a κ (omega arith) run same in
      let ends = t.ends in
      let there : a + 1 + nested (fields_at d a) ≡ end_of d a = omega arith in
      walks_table a n κ s q long t g here (λ u x g' here'. rw there at rest _ u x (omega arith) (rest_body p run (omega arith)) t.after g' here'))

  -- from octet 0, no dimension read
  pub walks_all : WalksAll d img 0 (names_tables (tree_of d) v) (lay_out d img)
  unfolding lay_out tree_of reached octets_of number_of
  walks_all =
      walks_last 0 (item_count d) none_known (λ k. unread) 0 (omega arith) (whole_run d) (λ j some. sym (slot_none d j)) (record { octets = λ k. refl }) refl

  -- THE NAMES OF ALL TABLES
  names_table : (a n : ℕ) (κ : Known) → a + suc n ≡ item_count d → TableAt d a κ
      → Names d v (end_of d a) (item_count d) (names_tables (tables_of d (n - nested (fields_at d a)) 0 (end_of d a)) v) → Names d v a (item_count d) (names_tables (tables_of d (suc n) 0 a) v)
  unfolding names_tables
  names_table a n κ long t rest =
      let f = fields_at d a in
      let ends = t.ends in
      let end = t.end in
      let there : a + 1 + nested f ≡ end_of d a = omega arith in
      let body = rw end at (names_body_lem d v p.nest 4 (a + 1) f.first (omega arith) (fit_body true κ (body_at 4 d (a + 1) f.first) t.sound)) in
      rw (tables_step d a n, there, table_is d a n (tables_of d (n - nested f) 0 (end_of d a)) t.is (omega arith))
      (names_append d v a (end_of d a) (item_count d) (names_body (body_at 4 d (a + 1) f.first) v) (names_tables (tables_of d (n - nested f) 0 (end_of d a)) v) (omega arith) ends
      (λ i x y. from_after d p.nest a i ends x)
      (names_from d v a (a + 1) (end_of d a) (names_body (body_at 4 d (a + 1) f.first) v) (omega arith) (λ i x y. from_other d a i t.flat (omega arith))
      (λ i x y element. element_after d a i t.element x element) body) rest)

  abbrev NamesLast : (a n : ℕ) → Type 0
  NamesLast a n = (κ : Known) → a + n ≡ item_count d → Run d a (item_count d) (top d) → Same d κ a → Names d v a (item_count d) (names_tables (tables_of d n 0 a) v)

  names_none : (a : ℕ) → NamesLast a 0
  unfolding names_tables Every Sorted
  names_none a κ long run same = rw (tables_none d a) (record { each = tt; all = λ i xs x y element h. absurd (omega arith); sorted = tt })

  names_last : (a n : ℕ) → NamesLast a n
  names_last =
      by_items d NamesLast names_none
      (λ a n rest κ long run same.
      let t = table_at_lem p a κ (omega arith) run same in
      let ends = t.ends in
      let there : a + 1 + nested (fields_at d a) ≡ end_of d a = omega arith in
      names_table a n κ long t (rw there at rest _ (omega arith) (rest_body p run (omega arith)) t.after))

  pub names_all : Names d v 0 (item_count d) (names_tables (tree_of d) v)
  unfolding tree_of
  names_all = names_last 0 (item_count d) none_known (omega arith) (whole_run d) (λ j some. sym (slot_none d j))
