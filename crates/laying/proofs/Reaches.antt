-- Outside arrays a sound body is laid, its slots known and its elements standing where its rows say; or the image is short. So it is of all tables.
-- Assumes nothing.
use Prim.Native.Nat.{ℕ, zero, suc, ◌+◌, ◌<◌}
use mathlib.Core.Path.{◌≡◌, refl, ◌∙◌, sym, fun_ext, subst}
use mathlib.Core.Logic.{◌⊎◌, inl, inr}
use mathlib.Core.Bool.{Bool, true, false, cond}
use mathlib.Core.List.{List, [], ◌++◌}
use lib.Dec.{eqb}
use lib.ListN.{length}
use borrow.Author.Tests.{le-ltb}
use native.Mathlib.Omega.{arith}
use Rattle.meaning.specs.Basics.{◌≤?◌}
use Rattle.meaning.specs.declared.Fields.{Fields}
use Rattle.meaning.specs.Passed.{Passes}
use Rattle.meaning.specs.Layout.{Node, Body, Arms, Tables, leaf, array, choice, stray, done, more, last_arm, arm, no_more, table, stray_table, tree_of}
use Rattle.meaning.specs.Layout.{Slots, unread, holds, set_slot, leaf_octets, number_at, Placed, Stop, fault, short, Laid, laid, stopped, also, and_then, in_image, placed}
use Rattle.meaning.specs.Layout.{lay_body, lay_node, lay_arms, Seat, Layout, laid_out, stopped_at, before, seated, lay_tables, lay_out, value, number_of, slot_numbers}
use Rattle.laying.specs.Outcomes.{Lays, set_number}
use Rattle.laying.specs.Rows.{Row, no_row, row_spot, first_row, onward, body_row, item_row, row_after, walk_body, walk_node, walk_arms}
use Rattle.laying.specs.Rows.{walk_tables, row_of, seen}
use Rattle.laying.specs.Sizes.{body_size, item_size}
use Rattle.laying.specs.Slots.{octets_of, Matches}
use Rattle.laying.specs.Sound.{Known, none_known, set_known, SoundBody, SoundNode, SoundArms, SoundTables, after_node, after_body}
use Rattle.laying.proofs.Bodies.{quiet_body}
use Rattle.meaning.proofs.Either.{tested}
use Rattle.laying.proofs.Rising.{RisesBody, RisesNode, RisesArms, RisesTables, after_table, rises_tree}
use Rattle.laying.proofs.Rows.{Other, other_narrower, first_none, onward_none, parted}
use Rattle.laying.proofs.Spots.{or_else, seen_none, seen_append, seen_one, row_onward, row_absent, row_first}
use Rattle.laying.proofs.Tops.{passed_sound}
use Rattle.laying.proofs.Whole.{other_node, Whole, value_is, w_body, w_array}

-- THE SLOTS
-- a slot that is set, on each side
pub numbers_set : (k o x : ℕ) (s : Slots) → slot_numbers (set_slot k (holds o x) s) ≡ set_number k x (slot_numbers s)
unfolding set_slot set_number number_of
numbers_set zero o x s = refl
numbers_set (suc k) o x s = fun_ext (λ j. go j (eqb j (suc k)))
  where
    go : (j : ℕ) (b : Bool) → number_of (cond b (holds o x) (s j)) ≡ cond b x (number_of (s j))
    go j true = refl
    go j false = refl

matches_set : (k o x : ℕ) (s : Slots) (κ : Known) → Matches s κ → Matches (set_slot k (holds o x) s) (set_known k o κ)
unfolding set_slot set_known octets_of
matches_set zero o x s κ h = h
matches_set (suc k) o x s κ h = record { octets = λ j. go j (eqb j (suc k)) }
  where
    go : (j : ℕ) (b : Bool) → octets_of (cond b (holds o x) (s j)) ≡ cond b o (κ j)
    go j true = refl
    go j false = h.octets j

-- what sets a slot has octets of its own
pub matches_leaf : (f : Fields) (x y : ℕ) (s : Slots) (κ : Known) (k : ℕ) → Matches s κ → (0 < k → f.slot ≡ 0)
    → Matches (set_slot k (holds (leaf_octets f x) y) s) (set_known k f.octets κ)
unfolding set_slot set_known leaf_octets
matches_leaf f x y s κ zero m h = m
matches_leaf f x y s κ (suc k) m h =
    rw (le-ltb 0 f.slot (omega (arith, h (omega arith)))) (matches_set (suc k) f.octets y s κ m)

-- ROWS OF OTHER ITEMS, outside arrays
after_none : (o : Laid) (f : Slots → ℕ → Row) → ((s : Slots) (p : ℕ) → f s p ≡ no_row) → row_after o f ≡ no_row
unfolding row_after
after_none (laid ps s p) f h = h s p
after_none (stopped ps x) f h = refl

module _ (d img : List ℕ) (i : ℕ) where
  mutual
    unfolding walk_body RisesBody

    pub elsewhere_body : (n lo hi : ℕ) (b : Body) → RisesBody d n lo hi b → Other lo hi i → (s : Slots) (p : ℕ) → walk_body b img s p i ≡ no_row
    elsewhere_body n lo hi done h o s p = refl
    elsewhere_body n lo hi (more x b) h o s p =
        first_none _ _ (elsewhere_node n lo h.0 x h.3 (other_narrower lo hi lo h.0 i (omega arith) h.2 o) s p)
        (after_none (lay_node x img false s p) _ (λ t q. elsewhere_body n h.0 hi b h.4 (other_narrower lo hi h.0 hi i h.1 (omega arith) o) t q))

    elsewhere_node : (n lo hi : ℕ) (x : Node) → RisesNode d n lo hi x → Other lo hi i → (s : Slots) (p : ℕ) → walk_node x img s p i ≡ no_row
    elsewhere_node n lo hi (leaf j f) h o s p = onward_none p _ (other_node d (slot_numbers s) i n lo hi (leaf j f) h o)
    elsewhere_node n lo hi (array j f b) h o s p = onward_none p _ (other_node d (slot_numbers s) i n lo hi (array j f b) h o)
    elsewhere_node n lo hi (choice j f arms) h o s p = elsewhere_arms n lo hi arms (value (slot_numbers s) f) h o s p
    elsewhere_node n lo hi (stray j) h o s p = refl

    elsewhere_arms : (n lo hi : ℕ) (arms : Arms) (x : ℕ) → RisesArms d n lo hi arms → Other lo hi i → (s : Slots) (p : ℕ) → walk_arms arms x img s p i ≡ no_row
    elsewhere_arms n lo hi (last_arm b) x h o s p = elsewhere_body n lo hi b h o s p
    elsewhere_arms n lo hi (arm t b arms) x h o s p =
        tested (λ r. r ≡ no_row) (t x) _ _ (λ e. elsewhere_body n lo hi b h.0 o s p) (λ e. elsewhere_arms n lo hi arms x h.1 o s p)

  elsewhere_tables : (lo : ℕ) (t : Tables) → RisesTables d lo t → i < lo → (s : Slots) (p : ℕ) → walk_tables t img s p i ≡ no_row
  unfolding walk_tables RisesTables
  elsewhere_tables lo no_more h o s p = refl
  elsewhere_tables lo (table j f body rest) h o s p =
      first_none _ _ (elsewhere_body 0 (j + 1) (after_table d j) body h.2 (inl (omega (arith, h.0))) s p)
      (after_none (lay_body body img false s p) _ (λ t q. elsewhere_tables (after_table d j) rest h.3 (omega (arith, h.0)) t q))
  elsewhere_tables lo (stray_table j) h o s p = refl

-- WHAT IS REACHED
-- what stops is a short image
abbrev Stops : Stop → Type 0
Stops (fault x i) = ⊥
Stops (short i p) = Unit {0}

-- elements laid up to slots t of κ octets: they stand where the rows say
pub record Reached (κ : Known) (r : ℕ → Row) (ps : List Placed) (t : Slots) : Type 0 where
  pub matches : Matches t κ
  pub stand : (i : ℕ) (xs : List ℕ) → seen i xs ps ≡ row_spot (r i) xs

-- so laid, or stopped as short
abbrev pub Reaches : Known → (ℕ → Row) → Laid → Type 0
Reaches κ r (laid ps t q) = Reached κ r ps t
Reaches κ r (stopped ps x) = Stops x

-- elements before others, of other items
stand_append : (r q : ℕ → Row) (ps qs : List Placed) → ((i : ℕ) → (r i ≡ no_row) ⊎ (q i ≡ no_row)) → ((i : ℕ) (xs : List ℕ) → seen i xs ps ≡ row_spot (r i) xs)
    → ((i : ℕ) (xs : List ℕ) → seen i xs qs ≡ row_spot (q i) xs) → (i : ℕ) (xs : List ℕ) → seen i xs (ps ++ qs) ≡ row_spot (first_row (r i) (q i)) xs
unfolding or_else
stand_append r q ps qs apart h k i xs = seen_append i xs ps qs ∙ rw (h i xs, k i xs) (sym (row_first (r i) (q i) xs (apart i)))

-- one after another
r_then : (κ μ : Known) (r : ℕ → Row) (q : Slots → ℕ → ℕ → Row) (o : Laid) (next : Slots → ℕ → Laid)
    → ((i : ℕ) (t : Slots) (p : ℕ) → (r i ≡ no_row) ⊎ (q t p i ≡ no_row)) → Reaches κ r o → ((t : Slots) (p : ℕ) → Matches t κ → Reaches μ (q t p) (next t p))
    → Reaches μ (λ i. first_row (r i) (row_after o (λ t p. q t p i))) (and_then o next)
unfolding and_then row_after
r_then κ μ r q (laid ps t p) next apart h k = go (next t p) (k t p h.matches)
  where
    go : (o : Laid) → Reaches μ (q t p) o → Reaches μ (λ i. first_row (r i) (q t p i)) (also ps o)
    go (laid qs u e) l = record { matches = l.matches; stand = stand_append r (q t p) ps qs (λ i. apart i t p) h.stand l.stand }
    go (stopped qs x) l = l
r_then κ μ r q (stopped ps x) next apart h k = h

-- by one arm, or by those after it
r_pick : (κ : Known) (b : Bool) (r q : ℕ → Row) (o u : Laid) → Reaches κ r o → Reaches κ q u → Reaches κ (λ i. cond b (r i) (q i)) (cond b o u)
r_pick κ true r q o u h k = h
r_pick κ false r q o u h k = k

module _ (img : List ℕ) where
  -- a leaf outside arrays, or an outermost array: laid, or not ending inside the image
  r_image : (κ : Known) (r : ℕ → Row) (i p : ℕ) (o : Laid) → Reaches κ r o → Reaches κ r (in_image false (length img) i p o)
  unfolding in_image
  r_image κ r i p (laid ps t q) h = tested (Reaches κ r) (q ≤? length img) (laid ps t q) (stopped [] (short i p)) (λ e. h) (λ e. tt)
  r_image κ r i p (stopped ps x) h = h

  -- an outermost array
  r_whole : (s : Slots) (κ : Known) (r : ℕ → Row) (i p n : ℕ) (o : Laid) → Matches s κ → Whole s p n (λ j xs. row_spot (r j) xs) o
      → Reaches κ (λ j. onward p (r j)) (in_image false (length img) i p o)
  r_whole s κ r i p n (laid ps t q) m h = r_image κ _ i p (laid ps t q) (record { matches = rw h.same m; stand = λ j xs. h.seen_at j xs ∙ sym (row_onward p (r j) xs) })
  r_whole s κ r i p n (stopped ps x) m h = absurd h

  -- a leaf may set a slot
  r_leaf : (i : ℕ) (f : Fields) (s : Slots) (κ : Known) (p : ℕ) → Matches s κ → (0 < f.sets → f.slot ≡ 0)
      → Reaches (set_known f.sets f.octets κ) (λ j. onward p (item_row (leaf i f) (slot_numbers s) j)) (placed i f img s p (leaf_octets f (value (slot_numbers s) f)))
  unfolding placed item_row
  r_leaf i f s κ p m owns =
      let n = leaf_octets f (value (slot_numbers s) f) in
      record {
        matches = matches_leaf f (value (slot_numbers s) f) (number_at img p n) s κ f.sets m owns;
        stand = λ j xs. seen_one i f.sets p n j xs ∙ sym (row_onward p (item_row (leaf i f) (slot_numbers s) j) xs);
      }

  -- a body, each item in it and the arms of a choice
  module _ (d : List ℕ) where
    mutual
      unfolding lay_body SoundBody after_body after_node walk_body RisesBody body_size body_row

      pub r_body : (b : Body) (free : Bool) (n lo hi : ℕ) (s : Slots) (κ : Known) (p : ℕ) → Matches s κ → SoundBody free κ b → RisesBody d n lo hi b
          → Reaches (after_body b κ) (λ i. walk_body b img s p i) (lay_body b img false s p)
      r_body done free n lo hi s κ p m h r = record { matches = m; stand = λ i xs. seen_none i xs ∙ sym (row_absent xs) }
      r_body (more x b) free n lo hi s κ p m h r =
          r_then (after_node x κ) (after_body b (after_node x κ)) (λ i. walk_node x img s p i) (λ t q i. walk_body b img t q i)
          (lay_node x img false s p) (λ t q. lay_body b img false t q)
          (λ i t q. parted i r.0 _ _ (λ l. elsewhere_node d img i n lo r.0 x r.3 (inr l) s p) (λ l. elsewhere_body d img i n r.0 hi b r.4 (inl l) t q))
          (r_node x free n lo r.0 s κ p m h.0 r.3) (λ t q m. r_body b free n r.0 hi t (after_node x κ) q m h.1 r.4)

      pub r_node : (x : Node) (free : Bool) (n lo hi : ℕ) (s : Slots) (κ : Known) (p : ℕ) → Matches s κ → SoundNode free κ x → RisesNode d n lo hi x
          → Reaches (after_node x κ) (λ i. walk_node x img s p i) (lay_node x img false s p)
      r_node (leaf i f) free n lo hi s κ p m h r = rw (value_is s κ f i _ m h.refers) (r_image _ _ i p _ (r_leaf i f s κ p m h.owns))
      r_node (array i f b) free n lo hi s κ p m h r =
          let v = slot_numbers s in
          rw (value_is s κ f i _ m h.0)
          (r_whole s κ (item_row (array i f b) v) i p (item_size (array i f b) v) _ m
          (w_array s (λ t q. lay_body b img true t q) (body_size b v) (λ j. body_row b v j) (λ q. w_body d img s κ m b (n + 1) lo hi q h.1 r) i (value v f) p))
      r_node (choice j f arms) free n lo hi s κ p m h r = rw (value_is s κ f j _ m h.0) (r_arms arms (value (slot_numbers s) f) n lo hi s κ p m h.1 r)
      r_node (stray i) free n lo hi s κ p m h r = absurd h

      r_arms : (arms : Arms) (x n lo hi : ℕ) (s : Slots) (κ : Known) (p : ℕ) → Matches s κ → SoundArms κ arms → RisesArms d n lo hi arms
          → Reaches κ (λ i. walk_arms arms x img s p i) (lay_arms arms x img false s p)
      r_arms (last_arm b) x n lo hi s κ p m h r = rw (quiet_body κ b h) at (r_body b false n lo hi s κ p m h r)
      r_arms (arm t b arms) x n lo hi s κ p m h r =
          r_pick κ (t x) (λ i. walk_body b img s p i) (λ i. walk_arms arms x img s p i) _ _
          (rw (quiet_body κ b h.0) at (r_body b false n lo hi s κ p m h.0 r.0)) (r_arms arms x n lo hi s κ p m h.1 r.1)

-- THE WHOLE IMAGE
-- elements of tables stand where the rows say; or it is stopped as short
abbrev Ends : (ℕ → Row) → Layout → Type 0
Ends r (laid_out ts es t n) = (i : ℕ) (xs : List ℕ) → seen i xs es ≡ row_spot (r i) xs
Ends r (stopped_at es x) = Stops x

-- a table and what follows it
e_seated : (κ : Known) (r : ℕ → Row) (q : Slots → ℕ → ℕ → Row) (i : ℕ) (f : Fields) (p : ℕ) (o : Laid) (next : Slots → ℕ → Layout)
    → ((i : ℕ) (t : Slots) (p : ℕ) → (r i ≡ no_row) ⊎ (q t p i ≡ no_row)) → Reaches κ r o → ((t : Slots) (p : ℕ) → Matches t κ → Ends (q t p) (next t p))
    → Ends (λ i. first_row (r i) (row_after o (λ t p. q t p i))) (seated i f p o next)
unfolding seated row_after
e_seated κ r q i f p (laid ps t e) next apart h k = go _ (next t e) (k t e h.matches)
  where
    go : (y : Seat) (o : Layout) → Ends (q t e) o → Ends (λ i. first_row (r i) (q t e i)) (before y ps o)
    go y (laid_out ts qs u n) l = stand_append r (q t e) ps qs (λ i. apart i t e) h.stand l
    go y (stopped_at qs x) l = l
e_seated κ r q i f p (stopped ps x) next apart h k = h

module _ (d img : List ℕ) where
  -- sound tables
  e_tables : (t : Tables) (lo : ℕ) (s : Slots) (κ : Known) (p : ℕ) → Matches s κ → SoundTables κ t → RisesTables d lo t → Ends (λ i. walk_tables t img s p i) (lay_tables t img s p)
  unfolding lay_tables SoundTables walk_tables RisesTables
  e_tables no_more lo s κ p m h r = λ i xs. seen_none i xs ∙ sym (row_absent xs)
  e_tables (table j f body rest) lo s κ p m h r =
      let to = after_table d j in
      e_seated (after_body body κ) (λ i. walk_body body img s p i) (λ t q i. walk_tables rest img t q i) j f p
      (lay_body body img false s p) (λ t q. lay_tables rest img t q)
      (λ i t q. parted i to _ _ (λ l. elsewhere_body d img i 0 (j + 1) to body r.2 (inr l) s p) (λ l. elsewhere_tables d img i to rest r.3 l t q))
      (r_body img d body true 0 (j + 1) to s κ p m h.0 r.2) (λ t q m. e_tables rest to t (after_body body κ) q m h.1 r.3)
  e_tables (stray_table j) lo s κ p m h r = absurd h

  -- what laying out a passed description comes to
  passed_ends : Passes d → Ends (row_of d img) (lay_out d img)
  unfolding lay_out row_of octets_of
  passed_ends h = e_tables (tree_of d) 0 (λ k. unread) none_known 0 (record { octets = λ k. refl }) (passed_sound d h) (rises_tree d)

  -- it is laid out, or the image is short
  pub passed_lays : Passes d → Lays (lay_out d img)
  unfolding Lays
  passed_lays h = go (lay_out d img) (passed_ends h)
    where
      go : (o : Layout) → Ends (row_of d img) o → Lays o
      go (laid_out ts es t n) e = tt
      go (stopped_at es (fault x i)) e = e
      go (stopped_at es (short i p)) e = tt

  -- THE ROW AND THE SUBSCRIPTS SAY WHERE AN ELEMENT IS, or that there is none
  pub row_says : Passes d → {ts : List Seat} {es : List Placed} {s : Slots} {n : ℕ} → lay_out d img ≡ laid_out ts es s n
      → (i : ℕ) (xs : List ℕ) → seen i xs es ≡ row_spot (row_of d img i) xs
  row_says h e = subst (Ends (row_of d img)) e (passed_ends h)
