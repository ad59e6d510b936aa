-- Outside arrays a body of a passed description is walked piece by piece: it is laid up to where the pieces of its items end, with the numbers that they set, the elements that its
-- names say, and no piece past the image's end; or it is short at the first piece that is. Assumes nothing.
use Rattle.std.specs.Prelude.{if◌then◌else◌}
use Prim.Native.Nat.{ℕ, zero, suc, ◌+◌, ◌-◌, ◌*◌, ◌<◌, ◌≤◌}
use mathlib.Core.Path.{◌≡◌, refl, ◌∙◌, ap, ap₂, sym, subst}
use mathlib.Core.Bool.{Bool, true, false, ◌&&◌, ◌||◌, and-eq-true_iff, or-true, false≢true, and-false}
use mathlib.Core.List.{List, [], ◌∷◌, ◌++◌}
use lib.ListN.{length}
use borrow.Author.Tests.{leb-true, leb-false, eq-eqb, ne_eqb, le-leb, lt-leb, lt-ltb, le-ltb}
use native.Mathlib.Omega.{arith}
use Rattle.meaning.specs.Basics.{◌<?◌, ◌≤?◌}
use Rattle.meaning.specs.declared.Fields.{Fields}
use Rattle.meaning.specs.declared.Round.{Round}
use Rattle.meaning.specs.Description.{item_count, fields_at, is_element, is_array, is_choice, nests, nested, slot_octets, kind_of}
use Rattle.meaning.specs.Layout.{Body, branches_in, if_branches, branches_of, taken, body_in, only_body, body_at, leaf_octets, number_at}
use Rattle.meaning.specs.Layout.{Slots, Placed, short, Laid, laid, stopped, in_image, placed, size_from, repeated, lay_body, lay_node, Numbers, value, slot_numbers}
use Rattle.meaning.specs.Passed.{PassedLaws, end_of}
use Rattle.meaning.proofs.Either.{tested}
use Rattle.meaning.proofs.Ranges.{fields_range, sets_none}
use Rattle.meaning.proofs.Rules.{slot_step}
use Rattle.laying.specs.Every.{Every}
use Rattle.laying.specs.Outcomes.{set_number}
use Rattle.laying.specs.Rows.{Spot, body_row}
use Rattle.laying.specs.Sizes.{body_size, item_size}
use Rattle.laying.specs.Slots.{Matches}
use Rattle.laying.specs.Sound.{Known, set_known, SoundBody, SoundNode, after_node, after_body, FitNode}
use Rattle.laying.specs.Tree.{inner_at, node_at}
use Rattle.laying.proofs.Arms.{taken_lay, taken_sound}
use Rattle.laying.proofs.Branches.{only_run}
use Rattle.laying.proofs.Bodies.{Same, same_next, quiet_body}
use Rattle.laying.proofs.Every.{every_map}
use Rattle.laying.proofs.Nested.{Run, first_ends, second_body, rest_body, still}
use Rattle.laying.proofs.Nodes.{node_cases, choice_no_array}
use Rattle.laying.proofs.Reaches.{numbers_set, matches_leaf}
use Rattle.laying.proofs.Rising.{RisesNode, rises_at}
use Rattle.laying.proofs.Steps.{body_none, body_step, by_items}
use Rattle.laying.proofs.Tops.{fit_node}
use Rattle.laying.proofs.Whole.{Whole, value_is, w_array, w_body}
use Rattle.demands.specs.Walk.{nests_round, arrays_of, in_chosen, all_chosen, is_chosen, is_none, is_piece, octets_of, Reached, reached, octet_before, numbers_before, numbers_in, runs_past}
use Rattle.demands.proofs.Around.{body_taken, nests_to, to_nest, to_past, to_from, from_nest, nested_ends, fit_room}
use Rattle.demands.proofs.Lengths.{item_octets_lem, element_octets}
use Rattle.demands.proofs.Naming.{Name, names_body, names_node, taken_names, repeat_names, choice_no_element}
use Rattle.demands.proofs.Pieces.{set_same, no_piece, no_pieces, no_runs, inside_one, inside_both, piece_reached, piece_inside, piece_past, number_stays, is_chosen_lem}
use Rattle.demands.proofs.Walking.{At, Open, DimensionIs, FirstIn, Walks, other_piece, array_piece, walks_before, walks_after, walks_then}
use Rattle.demands.proofs.Stripped.{strip, Strips, s_repeated, s_body, Agree, value_agrees, names_agree}

-- slot 0 is none
set_nothing : (q n x : ℕ) (w : Numbers) → ◌≡◌ {A = Reached} (record { octet = q + n; numbers = set_number 0 x w }) (record { octet = q + n; numbers = w })
unfolding set_number
set_nothing q n x w = refl

-- WHAT STANDS ROUND, IN PARTS
module _ (d : List ℕ) where
  arrays_append : (xs ys : List ℕ) → arrays_of d (xs ++ ys) ≡ arrays_of d xs ++ arrays_of d ys
  unfolding arrays_of
  arrays_append [] ys = refl
  arrays_append (x ∷ xs) ys = go (is_array (fields_at d x)) (arrays_append xs ys)
    where
      go : (b : Bool) → arrays_of d (xs ++ ys) ≡ arrays_of d xs ++ arrays_of d ys
          → (if b then x ∷ arrays_of d (xs ++ ys) else arrays_of d (xs ++ ys)) ≡ (if b then x ∷ arrays_of d xs else arrays_of d xs) ++ arrays_of d ys
      go true h = ap (λ (l : List ℕ). x ∷ l) h
      go false h = h

  module _ (v : Numbers) (i : ℕ) where
    one_unchosen : (a : ℕ) (xs ys : List ℕ) → is_array (fields_at d a) ≡ false → in_chosen d v a i ≡ false → all_chosen d v i (xs ++ a ∷ ys) ≡ false
    unfolding all_chosen
    one_unchosen a [] ys is e = rw (is, e)
    one_unchosen a (x ∷ xs) ys is e = rw (one_unchosen a xs ys is e) (and-false (is_array (fields_at d x) || in_chosen d v x i))

    chosen_append : (xs ys : List ℕ) → all_chosen d v i xs ≡ true → all_chosen d v i ys ≡ true → all_chosen d v i (xs ++ ys) ≡ true
    unfolding all_chosen
    chosen_append [] ys h k = k
    chosen_append (x ∷ xs) ys h k =
        let b = (and-eq-true_iff (is_array (fields_at d x) || in_chosen d v x i) (all_chosen d v i xs)).0 h in
        rw b.0 (chosen_append xs ys b.1 k)

module _ (d img : List ℕ) (p : PassedLaws d) where
  abbrev v : Numbers
  v = numbers_in d img

  -- the first of items that stand open, if a UINT, BLOCK, SET or ARRAY, is a piece
  open_piece : (a e : ℕ) → a < e → e ≤ item_count d → Open d img a e → (is_element (fields_at d a) || is_array (fields_at d a)) ≡ true → is_piece d (numbers_before d img a) a ≡ true
  unfolding is_piece is_none
  open_piece a e l m o is = let h = o a (omega arith) l in rw (is, h.0, is_chosen_lem d img p a (omega arith)) h.1

  -- what stands in a branch not chosen is none
  unchosen_piece : (a i : ℕ) → is_choice (fields_at d a) ≡ true → a < i → i < end_of d a → i ≤ item_count d → in_chosen d v a i ≡ false → is_piece d (numbers_before d img i) i ≡ false
  unfolding is_piece
  unchosen_piece a i is l m r other =
      let e : nests_round d i ≡ nests_to d a i ++ a ∷ _ = to_from d a i (omega arith) ∙ ap (λ (js : List ℕ). nests_to d a i ++ js) (from_nest d a i (rw (is, or-true)) l m) in
      let h : is_chosen d v i ≡ false = rw e (one_unchosen d v i a (nests_to d a i) _ (choice_no_array (fields_at d a) is) other) in
      rw (is_chosen_lem d img p i r, h) (and-false ((is_element (fields_at d i) || is_array (fields_at d i)) && is_none (arrays_of d (nests_round d i))))

  -- A PIECE at item a, of n octets from q on, that sets its slot to the number there
  module _ (a : ℕ) (s : Slots) (q n : ℕ) (here : At d img a s q) (piece : is_piece d (numbers_before d img a) a ≡ true) (long : octets_of d (slot_numbers s) a ≡ n) where
    octet_here : octet_before d img a ≡ q
    octet_here = ap (λ (r : Reached). r.octet) here

    numbers_here : numbers_before d img a ≡ slot_numbers s
    numbers_here = ap (λ (r : Reached). r.numbers) here

    end_here : octet_before d img a + octets_of d (numbers_before d img a) a ≡ q + n
    end_here = rw (numbers_here, octet_here, long)

    past_piece_lem : reached d img (a + 1) ≡ record { octet = q + n; numbers = set_number (fields_at d a).sets (number_at img q n) (slot_numbers s) }
    past_piece_lem = piece_reached d img a piece ∙ rw (numbers_here, octet_here, long)

    -- it ends inside the image
    in_image_lem : q + n ≤ length img → runs_past d img a ≡ false
    in_image_lem l = piece_inside d img a (omega (arith, end_here))

    -- or is short
    is_short : length img < q + n → FirstIn d img a (a + 1) a q
    is_short l =
        record { low = omega arith; high = omega arith; at = octet_here; past = piece_past d img a piece (omega (arith, end_here)); before = λ j m r. absurd (omega arith) }

    -- laid, it comes to one or the other
    walks_piece : (κ : Known) (ns : List Name) (ps : List Placed) (t : Slots) → At d img (a + 1) t (q + n) → Matches t κ → strip ps ≡ ns → Every (DimensionIs d img) ps
        → Walks d img a (a + 1) κ ns (in_image false (length img) a q (laid ps t (q + n)))
    unfolding in_image
    walks_piece κ ns ps t at m names dimensions =
        tested (Walks d img a (a + 1) κ ns) (q + n ≤? length img) (laid ps t (q + n)) (stopped [] (short a q))
        (λ e. record { here = at; inside = inside_one d img a (in_image_lem (leb-true (q + n) (length img) e)); matches = m; names = names; dimensions = dimensions })
        (λ e. is_short (leb-false (q + n) (length img) e))

  -- a UINT, BLOCK or SET
  walks_leaf : (a : ℕ) (s : Slots) (κ : Known) (q : ℕ) → At d img a s q → Matches s κ → a < item_count d → is_piece d (numbers_before d img a) a ≡ true
      → 2 ≤ kind_of (fields_at d a) → kind_of (fields_at d a) ≤ 4 → (0 < (fields_at d a).sets → (fields_at d a).slot ≡ 0) → value (slot_numbers s) (fields_at d a) ≡ value v (fields_at d a)
      → Walks d img a (a + 1) (set_known (fields_at d a).sets (fields_at d a).octets κ)
      (record { item = a; subscripts = []; octets = leaf_octets (fields_at d a) (value v (fields_at d a)) } ∷ [])
      (in_image false (length img) a q (placed a (fields_at d a) img s q (leaf_octets (fields_at d a) (value (slot_numbers s) (fields_at d a)))))
  unfolding placed strip Every
  walks_leaf a s κ q here m l piece two four owns same =
      let f = fields_at d a in
      let n = leaf_octets f (value (slot_numbers s) f) in
      let long = element_octets d (slot_numbers s) 4 a two four in
      let past = past_piece_lem a s q n here piece long in
      walks_piece a s q n here piece long (set_known f.sets f.octets κ) _ _ _
      (past ∙ ap (λ (w : Numbers). record { octet = q + n; numbers = w }) (sym (numbers_set f.sets n (number_at img q n) s)))
      (matches_leaf f (value (slot_numbers s) f) (number_at img q n) s κ f.sets m owns)
      (ap (λ (x : ℕ). record { item = a; subscripts = []; octets = leaf_octets f x } ∷ []) same)
      (λ some. sym (read_on n some (ap (λ (r : Reached). r.numbers f.sets) past)), tt)
    where
      -- what it sets is what its slot has from there on
      read_on : (n : ℕ) → 0 < (fields_at d a).sets
          → numbers_before d img (a + 1) (fields_at d a).sets ≡ set_number (fields_at d a).sets (number_at img q n) (slot_numbers s) (fields_at d a).sets → v (fields_at d a).sets ≡ number_at img q n
      read_on n some past =
          let k = (fields_at d a).sets in
          let set : 0 < slot_octets d (a + 1) k = rw (slot_step d a k, eq-eqb k k refl) ((fields_range d a).some_octets some) in
          number_stays d img p k (a + 1) (item_count d) some (omega arith) (omega arith) set ∙ past ∙ set_same k (number_at img q n) (slot_numbers s) some

  -- an outermost ARRAY: what is laid whole, with these names
  walks_array : (a : ℕ) (s : Slots) (κ : Known) (q n : ℕ) (ns : List Name) (f : ℕ → List ℕ → Spot) (o : Laid) → At d img a s q → Matches s κ → end_of d a ≤ item_count d
      → is_piece d (numbers_before d img a) a ≡ true → is_array (fields_at d a) ≡ true → (fields_at d a).sets ≡ 0 → octets_of d (slot_numbers s) a ≡ n
      → Whole s q n f o → Strips s ns o → Walks d img a (end_of d a) κ ns (in_image false (length img) a q o)
  walks_array a s κ q n ns f (laid ps t r) here m room piece is sets long h names =
      rw (h.same, h.ends)
      (walks_after d img a (a + 1) (end_of d a) κ ns (in_image false (length img) a q (laid ps s (q + n))) (λ i l u. array_piece d (numbers_before d img i) a i is (omega arith) u) (omega arith)
      (walks_piece a s q n here piece long κ ns ps s (past_piece_lem a s q n here piece long ∙ rw sets (set_nothing q n (number_at img q n) (slot_numbers s))) m names.1
      (every_map (λ x. x.slot ≡ 0) (DimensionIs d img) (λ x z some. absurd (omega arith)) ps h.unset)))
  walks_array a s κ q n ns f (stopped ps x) here m room piece is sets long h names = absurd h

  -- AN ITEM AND A BODY
  -- what is said of bodies that b gives
  abbrev Bodies : (b : ℕ → ℕ → Body) → Type 0
  Bodies b = (a m : ℕ) (r : Round) (free : Bool) (κ : Known) (s : Slots) (q : ℕ) → Run d a (a + m) r → SoundBody free κ (b a m) → Same d κ a → Matches s κ → At d img a s q → Open d img a (a + m)
      → Walks d img a (a + m) (after_body (b a m) κ) (names_body (b a m) v) (lay_body (b a m) img false s q)

  -- slots known by then have the numbers that they keep
  agrees : (a : ℕ) (s : Slots) (κ : Known) (q : ℕ) → a ≤ item_count d → Same d κ a → At d img a s q → Agree κ (slot_numbers s) v
  agrees a s κ q l same here k some h =
      sym (ap (λ (r : Reached). r.numbers k) here) ∙ sym (number_stays d img p k a (item_count d) some l (omega arith) (omega (arith, same k some)))

  -- with an IF at item a, before those of its branch
  module _ (a e : ℕ) (o : Open d img a e) (is : is_choice (fields_at d a) ≡ true) (l : a < e) (ends : end_of d a ≤ e) (room : e ≤ item_count d) where
    -- round the items of its first body, or of its second, stands it too
    open_body : (b c : ℕ) → a < b → c ≤ end_of d a → ((i : ℕ) → b ≤ i → i < c → nests_to d b i ≡ nests_to d a i ++ a ∷ []) → ((i : ℕ) → b ≤ i → i < c → in_chosen d v a i ≡ true) → Open d img b c
    unfolding arrays_of all_chosen
    open_body b c m n round chosen i x y =
        let h = o i (omega arith) (omega arith) in
        let other = choice_no_array (fields_at d a) is in
        let none : arrays_of d (a ∷ []) ≡ [] = rw other in
        let one : all_chosen d v i (a ∷ []) ≡ true = rw (other, chosen i x y) in
        rw (round i x y) (arrays_append d (nests_to d a i) (a ∷ []) ∙ rw h.0 none, chosen_append d v i (nests_to d a i) (a ∷ []) h.1 one)

  -- an ARRAY or IF at item a, first of the items up to e, that is reached
  module _ (a e : ℕ) (r : Round) (κ : Known) (s : Slots) (q : ℕ) (run : Run d a e r) (l : a < e) (same : Same d κ a) (m : Matches s κ) (here : At d img a s q) (o : Open d img a e)
      (nest : nests (fields_at d a) ≡ true) where
    abbrev room : end_of d a ≤ item_count d
    room = omega (arith, first_ends p run l, run.whole)

    -- it and what stands in it set no slot
    sets_nothing : (fields_at d a).sets ≡ 0
    sets_nothing = sets_none (fields_at d a) (fields_range d a) (λ two. false≢true (rw two at nest))

    same_in : (k : ℕ) → a + 1 ≤ k → k ≤ end_of d a → Same d κ k
    same_in k x y j some =
        same j some ∙ sym (still p run l nest j some k x y ∙ slot_step d a j ∙ rw (ne_eqb (fields_at d a).sets j (λ z. omega (arith, sets_nothing))))

    agree : Agree κ (slot_numbers s) v
    agree = agrees a s κ q (omega arith) same here

    -- an IF takes one of its bodies
    module _ (inner : ℕ → ℕ → Body) (below : Bodies inner) (is : is_choice (fields_at d a) ≡ true) (element : is_element (fields_at d a) ≡ false) where
      abbrev f : Fields
      f = fields_at d a

      -- up to it and from it on no item is a piece
      walks_branch : (b c : ℕ) (body : Body) → a < b → b ≤ c → c ≤ end_of d a → ((i : ℕ) → a < i → i < b → in_chosen d v a i ≡ false) → ((i : ℕ) → c ≤ i → i < end_of d a → in_chosen d v a i ≡ false)
          → SoundBody false κ body → (At d img b s q → Walks d img b c (after_body body κ) (names_body body v) (lay_body body img false s q)) → Walks d img a (end_of d a) κ (names_body body v) (lay_body body img false s q)
      walks_branch b c body x y z before after sound walk =
          let first = other_piece d (numbers_before d img a) a element (choice_no_array f is) in
          let none : (i : ℕ) → a + 1 ≤ i → i < b → is_piece d (numbers_before d img i) i ≡ false
          = λ i u w. unchosen_piece a i is (omega arith) (omega arith) (omega (arith, room)) (before i (omega arith) w) in
          let start = no_pieces d img (a + 1) b (omega arith) none ∙ no_piece d img a first ∙ here in
          walks_after d img a c (end_of d a) κ (names_body body v) (lay_body body img false s q) (λ i u w. unchosen_piece a i is (omega arith) w (omega (arith, room)) (after i u w)) z
          (walks_before d img a b c κ (names_body body v) (lay_body body img false s q)
          (inside_both d img a (a + 1) b (inside_one d img a (no_runs d img a first)) (λ i u w. no_runs d img i (none i u w))) (omega arith)
          (subst (λ (κ' : Known). Walks d img b c κ' (names_body body v) (lay_body body img false s q)) (quiet_body κ body sound) (walk start)))

      -- the first where the value isn't 0, else the second
      walks_taken : (t : Bool) → (0 <? value v f) ≡ t → SoundBody false κ (body_in inner a (body_taken f t))
          → Walks d img a (end_of d a) κ (names_body (body_in inner a (body_taken f t)) v) (lay_body (body_in inner a (body_taken f t)) img false s q)
      unfolding in_chosen
      walks_taken true x sound =
          let z : a + 1 + 0 ≡ a + 1 = omega arith in
          let ends = first_ends p run l in
          walks_branch (a + 1 + 0) (a + 1 + 0 + f.first) (inner (a + 1 + 0) f.first) (omega arith) (omega arith) (omega arith)
          (λ i u w. absurd (omega arith)) (λ i u w. rw x (le-ltb i (a + 1 + f.first) (omega arith))) sound
          (λ start.
          below (a + 1 + 0) f.first _ false κ s q (only_run p run l) sound (same_in (a + 1 + 0) (omega arith) (omega arith)) m start
          (open_body a e o is l ends run.whole (a + 1 + 0) (a + 1 + 0 + f.first) (omega arith) (omega arith)
          (λ i u w. rw z (to_nest d a i nest (omega arith) (omega arith))) (λ i u w. rw x (lt-ltb i (a + 1 + f.first) (omega arith)))))
      walks_taken false x sound =
          let ends = first_ends p run l in
          walks_branch (a + 1 + f.first) (a + 1 + f.first + f.second) (inner (a + 1 + f.first) f.second) (omega arith) (omega arith) (omega arith)
          (λ i u w. rw x (lt-leb (a + 1 + f.first) i w)) (λ i u w. absurd (omega arith)) sound
          (λ start.
          below (a + 1 + f.first) f.second _ false κ s q (second_body p run l) sound (same_in (a + 1 + f.first) (omega arith) (omega arith)) m start
          (open_body a e o is l ends run.whole (a + 1 + f.first) (a + 1 + f.first + f.second) (omega arith) (omega arith)
          (λ i u w. to_past d (a + 1) (a + 1 + f.first) i (omega arith) (λ j g h. omega (arith, p.nest.first a j (omega (arith, room)) (omega arith) h)) ∙ to_nest d a i nest (omega arith) (omega arith))
          (λ i u w. rw x (le-leb (a + 1 + f.first) i u))))

  -- AN ITEM, kind by kind
  walks_node : (k a n e : ℕ) (r : Round) (free : Bool) (κ : Known) (s : Slots) (q : ℕ) → k ≤ 4 → Bodies (inner_at k d) → Run d a e r → a < e → Same d κ a → Matches s κ → At d img a s q → Open d img a e
      → FitNode (node_at k d a n) → SoundNode free κ (node_at k d a n)
      → Walks d img a (end_of d a) (after_node (node_at k d a n) κ) (names_node (node_at k d a n) v) (lay_node (node_at k d a n) img false s q)
  unfolding SoundNode after_node names_node lay_node RisesNode item_size branches_in if_branches taken
  walks_node k a n e r free κ s q deep below run l same m here o fit sound =
      let f = fields_at d a in
      let ends = first_ends p run l in
      let room = run.whole in
      let w = slot_numbers s in
      node_cases (λ t. item_size t w ≡ octets_of d w a → RisesNode d 0 a (end_of d a) t → SoundNode free κ t → Walks d img a (end_of d a) (after_node t κ) (names_node t v) (lay_node t img false s q))
      (inner_at k d) d a n
      (λ lost long rises h. absurd h)
      (λ g two four long rises h.
      let end : end_of d a ≡ a + 1 = omega (arith, (fields_range d a).whole two four) in
      let is : is_element f ≡ true = rw (le-leb 2 (kind_of f) two, le-leb (kind_of f) 4 four) in
      rw (end, value_is s κ f a _ m h.refers)
      (walks_leaf a s κ q here m (omega arith) (open_piece a e l room o (rw is)) two four h.owns (value_agrees κ w v f (agrees a s κ q (omega arith) same here) h.refers)))
      (λ g five long rises h.
      let is : is_array f ≡ true = rw five in
      let nest : nests f ≡ true = rw five in
      let b = body_in (inner_at k d) a (only_body f) in
      let agree = agrees a s κ q (omega arith) same here in
      rw (value_is s κ f a _ m h.0)
      (subst (λ (ns : List Name). Walks d img a (end_of d a) κ ns (in_image false (length img) a q
      (repeated (λ t x. lay_body b img true t x) a (size_from q (lay_body b img true s q)) (value w f) 0 s q)))
      (ap₂ (λ (c : ℕ) (ns : List Name). repeat_names c 0 ns) (value_agrees κ w v f agree h.0) (names_agree κ w v b agree h.1))
      (walks_array a s κ q (value w f * body_size b w) (repeat_names (value w f) 0 (names_body b w)) _ _ here m (omega arith) (open_piece a e l room o (rw (is, or-true))) is
      (sets_nothing a e r κ s q run l same m here o nest) (sym long)
      (w_array s (λ t x. lay_body b img true t x) (body_size b w) (body_row b w) (λ x. w_body d img s κ m b 1 a (end_of d a) x h.1 rises) a (value w f) q)
      (s_repeated s (λ t x. lay_body b img true t x) (names_body b w) (λ x. s_body img s κ m b x h.1) a _ (value w f) 0 q))))
      (λ g is long rises h.
      let nest : nests f ≡ true = rw (is, or-true) in
      let same-value = value_agrees κ w v f (agrees a s κ q (omega arith) same here) h.0 in
      rw (value_is s κ f a _ m h.0, same-value, taken_lay (inner_at k d) a (value v f) (branches_of d a) img false s q, taken_names (inner_at k d) a (value v f) (branches_of d a) v)
      (walks_taken a e r κ s q run l same m here o nest (inner_at k d) below is (choice_no_element f is) (0 <? value v f) refl (taken_sound (inner_at k d) a (value v f) κ (branches_of d a) h.1)))
      (item_octets_lem d w k a n deep fit)
      (rises_at d k 0 a n a (end_of d a) (omega arith) (omega arith, omega arith, omega arith))
      sound

  -- what is known after it
  same_after : (k a n e : ℕ) (r : Round) (free : Bool) (κ : Known) (s : Slots) (q : ℕ) → Run d a e r → a < e → Same d κ a → Matches s κ → At d img a s q → Open d img a e → SoundNode free κ (node_at k d a n)
      → Same d (after_node (node_at k d a n) κ) (end_of d a)
  unfolding SoundNode after_node
  same_after k a n e r free κ s q run l same m here o =
      let f = fields_at d a in
      node_cases (λ t. SoundNode free κ t → Same d (after_node t κ) (end_of d a)) (inner_at k d) d a n (λ lost h. absurd h)
      (λ g two four h.
      let end : end_of d a ≡ a + 1 = omega (arith, (fields_range d a).whole two four) in
      rw end (same_next d a f.sets f.octets κ same (slot_step d a)))
      (λ g five h. same_in a e r κ s q run l same m here o (rw five) (end_of d a) (omega arith) (omega arith))
      (λ g is h. same_in a e r κ s q run l same m here o (rw (is, or-true)) (end_of d a) (omega arith) (omega arith))

  -- round the items after it stands what stood round it
  open_rest : (a e : ℕ) → end_of d a ≤ e → e ≤ item_count d → Open d img a e → Open d img (end_of d a) e
  open_rest a e l room o i x y =
      let z = to_past d a (end_of d a) i (omega arith) (λ j g h. omega (arith, nested_ends d p.nest a j (omega arith) g h)) in
      rw z (o i (omega arith) y)

  -- A BODY is its first item and the rest
  walks_more : (k a n e : ℕ) (r : Round) (free : Bool) (κ : Known) (s : Slots) (q : ℕ) → k ≤ 4 → Bodies (inner_at k d) → a + suc n ≡ e → nested (fields_at d a) ≤ n → Run d a e r → Same d κ a → Matches s κ
      → At d img a s q → Open d img a e → FitNode (node_at k d a n) → SoundNode free κ (node_at k d a n)
      → ((κ' : Known) (t : Slots) (x : ℕ) → κ' ≡ after_node (node_at k d a n) κ → Run d (end_of d a) e r → Same d κ' (end_of d a) → Matches t κ' → At d img (end_of d a) t x → Open d img (end_of d a) e
      → Walks d img (end_of d a) e (after_body (body_at k d (end_of d a) (n - nested (fields_at d a))) κ') (names_body (body_at k d (end_of d a) (n - nested (fields_at d a))) v)
      (lay_body (body_at k d (end_of d a) (n - nested (fields_at d a))) img false t x))
      → Walks d img a e (after_body (body_at k d a (suc n)) κ) (names_body (body_at k d a (suc n)) v) (lay_body (body_at k d a (suc n)) img false s q)
  unfolding after_body names_body lay_body
  walks_more k a n e r free κ s q deep below end fits run same m here o fit sound rest =
      let l : a < e = omega arith in
      let ends = first_ends p run l in
      let u = nested (fields_at d a) in
      let there : a + 1 + u ≡ end_of d a = omega arith in
      rw (body_step k d a n, there)
      (walks_then d img a (end_of d a) e (after_node (node_at k d a n) κ) _ (names_node (node_at k d a n) v) (names_body (body_at k d (end_of d a) (n - u)) v)
      (lay_node (node_at k d a n) img false s q) (λ t x. lay_body (body_at k d (end_of d a) (n - u)) img false t x) (omega arith) ends
      (walks_node k a n e r free κ s q deep below run l same m here o fit sound)
      (λ t x at matches.
      rest (after_node (node_at k d a n) κ) t x refl (rest_body p run l) (same_after k a n e r free κ s q run l same m here o sound) matches at (open_rest a e ends run.whole o)))

  -- of no items
  walks_none : (k a : ℕ) (κ : Known) (s : Slots) (q : ℕ) → Matches s κ → At d img a s q
      → Walks d img a (a + 0) (after_body (body_at k d a 0) κ) (names_body (body_at k d a 0) v) (lay_body (body_at k d a 0) img false s q)
  unfolding after_body names_body lay_body strip Every
  walks_none k a κ s q m here =
      let e : a + 0 ≡ a = omega arith in
      rw (body_none k d a, e) (record { here = here; inside = λ i x y. absurd (omega arith); matches = m; names = refl; dimensions = tt })

  sound_step : (k a n : ℕ) (free : Bool) (κ : Known) → SoundBody free κ (body_at k d a (suc n))
      → SoundNode free κ (node_at k d a n) × SoundBody free (after_node (node_at k d a n) κ) (body_at k d (a + 1 + nested (fields_at d a)) (n - nested (fields_at d a)))
  unfolding SoundBody
  sound_step k a n free κ h = subst (SoundBody free κ) (body_step k d a n) h

  -- of any number
  abbrev WalksItems : (k a n : ℕ) → Type 0
  WalksItems k a n = (e : ℕ) (r : Round) (free : Bool) (κ : Known) (s : Slots) (q : ℕ) → a + n ≡ e → Run d a e r → SoundBody free κ (body_at k d a n) → Same d κ a → Matches s κ
      → At d img a s q → Open d img a e → Walks d img a e (after_body (body_at k d a n) κ) (names_body (body_at k d a n) v) (lay_body (body_at k d a n) img false s q)

  walks_items : (k : ℕ) → k ≤ 4 → Bodies (inner_at k d) → (a n : ℕ) → WalksItems k a n
  walks_items k deep below =
      by_items d (WalksItems k)
      (λ a e r free κ s q end run sound same m here o.
      subst (λ (x : ℕ). Walks d img a x (after_body (body_at k d a 0) κ) (names_body (body_at k d a 0) v) (lay_body (body_at k d a 0) img false s q)) end (walks_none k a κ s q m here))
      (λ a n rest e r free κ s q end run sound same m here o.
      let h = sound_step k a n free κ sound in
      let fit = fit_node free κ (node_at k d a n) h.0 in
      let fits = fit_room d k a n fit in
      let there : a + 1 + nested (fields_at d a) ≡ end_of d a = omega arith in
      walks_more k a n e r free κ s q deep below end fits run same m here o fit h.0
      (λ κ' t x is run' same' m' here' o'. subst (λ (b : ℕ). WalksItems k b (n - nested (fields_at d a))) there rest e r free κ' t x (omega arith) run' (rw (is, ← there) h.1) same' m' here' o'))

  pub walks_body : (k : ℕ) → k ≤ 4 → Bodies (body_at k d)
  unfolding inner_at SoundBody
  walks_body zero deep a m r free κ s q run sound same g here o =
      walks_items zero deep (λ a m r free κ s q run sound same g here o. absurd sound.0) a m (a + m) r free κ s q refl run sound same g here o
  walks_body (suc k) deep a m r free κ s q run sound same g here o =
      walks_items (suc k) deep (walks_body k (omega arith)) a m (a + m) r free κ s q refl run sound same g here o
