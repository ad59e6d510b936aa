-- Inside an ARRAY a sound body is laid whole: nothing stops it, no slot is set, it is as long as its size says, and its elements stand where its rows say.
-- So an array's elements are of one size. Assumes nothing.
use Prim.Native.Nat.{ℕ, zero, suc, ◌+◌, ◌-◌, ◌*◌, ◌<◌, ◌≤◌}
use mathlib.Core.Path.{◌≡◌, refl, ◌∙◌, ap, ap₂, sym}
use mathlib.Core.Logic.{inl, inr}
use mathlib.Core.Bool.{Bool, true, false, cond}
use mathlib.Core.List.{List, [], ◌∷◌}
use lib.Dec.{eqb}
use borrow.Author.Tests.{le-leb, eq-eqb, ne_eqb, ltb-true}
use native.Mathlib.Nat.{suc-mul}
use native.Mathlib.Omega.{arith}
use Rattle.meaning.specs.declared.Fields.{Fields}
use Rattle.meaning.specs.Description.{refers}
use Rattle.meaning.specs.Layout.{Node, Body, Arms, leaf, array, choice, stray, done, more, last_arm, arm}
use Rattle.meaning.specs.Layout.{Slot, Slots, unread, holds, set_slot, bit_range, leaf_octets, Placed, Laid, laid, stopped, also, and_then, reading, valued}
use Rattle.meaning.specs.Layout.{in_image, placed, size_from, under, as_element, repeated, lay_body, lay_node, lay_arms, Numbers, value, number_of, slot_numbers}
use Rattle.laying.specs.Every.{Every}
use Rattle.laying.specs.Rows.{Row, row, no_row, Spot, absent, row_spot, onward, in_array, body_row, item_row, arms_row, seen}
use Rattle.laying.specs.Sizes.{body_size, item_size, arms_size}
use Rattle.laying.specs.Slots.{octets_of, Matches}
use Rattle.laying.specs.Sound.{Known, GoodReference, SoundBody, SoundNode, SoundArms}
use Rattle.laying.proofs.Bodies.{quiet_node}
use Rattle.meaning.proofs.Either.{tested}
use Rattle.laying.proofs.Every.{every_append}
use Rattle.laying.proofs.Rising.{RisesBody, RisesNode, RisesArms}
use Rattle.laying.proofs.Rows.{Other, other_narrower, first_none, onward_none, array_none, parted}
use Rattle.laying.proofs.Spots.{or_else, further, further_or, further_twice, further_absent, seen_none, seen_append, seen_one, some_spot, some_none}
use Rattle.laying.proofs.Spots.{some_more, row_onward, row_absent, row_array, row_first}

-- ROWS OF OTHER ITEMS
-- i is not an item from lo up to hi
other_item : (lo hi j i : ℕ) → lo ≤ j → j < hi → Other lo hi i → j ≡ i → ⊥
other_item lo hi j i a b (inl h) e = omega arith
other_item lo hi j i a b (inr h) e = omega arith

module _ (d : List ℕ) (v : Numbers) (i : ℕ) where
  mutual
    unfolding body_row RisesBody

    -- a body has no row of other items
    pub other_body : (n lo hi : ℕ) (b : Body) → RisesBody d n lo hi b → Other lo hi i → body_row b v i ≡ no_row
    other_body n lo hi done h o = refl
    other_body n lo hi (more x b) h o =
        first_none _ _ (other_node n lo h.0 x h.3 (other_narrower lo hi lo h.0 i (omega arith) h.2 o))
        (onward_none (item_size x v) _ (other_body n h.0 hi b h.4 (other_narrower lo hi h.0 hi i h.1 (omega arith) o)))

    pub other_node : (n lo hi : ℕ) (x : Node) → RisesNode d n lo hi x → Other lo hi i → item_row x v i ≡ no_row
    other_node n lo hi (leaf j f) h o = rw (ne_eqb j i (other_item lo hi j i h.low h.high o))
    other_node n lo hi (array j f b) h o = array_none _ _ _ (other_body (n + 1) lo hi b h o)
    other_node n lo hi (choice j f arms) h o = other_arms n lo hi arms (value v f) h o
    other_node n lo hi (stray j) h o = refl

    pub other_arms : (n lo hi : ℕ) (arms : Arms) (x : ℕ) → RisesArms d n lo hi arms → Other lo hi i → arms_row arms x v i ≡ no_row
    other_arms n lo hi (last_arm b) x h o = other_body n lo hi b h o
    other_arms n lo hi (arm t b arms) x h o =
        tested (λ r. r ≡ no_row) (t x) _ _ (λ e. other_body n lo hi b h.0 o) (λ e. other_arms n lo hi arms x h.1 o)

-- WHOLE
abbrev pub Spots : Type 0
Spots = ℕ → List ℕ → Spot

-- elements from p on, n octets in all, that set no slot and stand where the spots say, counted from p
pub record Stand (s : Slots) (p n : ℕ) (f : Spots) (ps : List Placed) (t : Slots) (q : ℕ) : Type 0 where
  pub same : t ≡ s
  pub ends : q ≡ p + n
  pub seen_at : (i : ℕ) (xs : List ℕ) → seen i xs ps ≡ further p (f i xs)
  pub unset : Every (λ e. e.slot ≡ 0) ps

-- so laid, and not stopped
abbrev pub Whole : Slots → (p n : ℕ) → Spots → Laid → Type 0
Whole s p n f (laid ps t q) = Stand s p n f ps t q
Whole s p n f (stopped ps x) = ⊥

-- under a subscript no slot is set either
unset_under : (j : ℕ) (ps : List Placed) → Every (λ e. e.slot ≡ 0) ps → Every (λ e. e.slot ≡ 0) (under j ps)
unfolding Every under
unset_under j [] h = tt
unset_under j (e ∷ es) h = (h.0, unset_under j es h.1)

module _ (s : Slots) where
  -- the same by another name for the octets and the spots
  w_as : (p n m : ℕ) (f g : Spots) (o : Laid) → n ≡ m → ((i : ℕ) (xs : List ℕ) → f i xs ≡ g i xs) → Whole s p n f o → Whole s p m g o
  w_as p n m f g (laid ps t q) e h k =
      record { same = k.same; ends = omega (arith, k.ends); seen_at = λ i xs. k.seen_at i xs ∙ ap (further p) (h i xs); unset = k.unset }
  w_as p n m f g (stopped ps x) e h k = k

  -- nothing laid
  w_none : (p : ℕ) → Whole s p 0 (λ i xs. absent) (laid [] s p)
  unfolding Every
  w_none p = record { same = refl; ends = omega arith; seen_at = λ i xs. seen_none i xs ∙ sym (further_absent p); unset = tt }

  -- elements before
  w_also : (p n m : ℕ) (f g h : Spots) (ps : List Placed) (o : Laid)
      → ((i : ℕ) (xs : List ℕ) → or_else (seen i xs ps) (further (p + n) (g i xs)) ≡ further p (h i xs)) → Every (λ e. e.slot ≡ 0) ps
      → Whole s (p + n) m g o → Whole s p (n + m) h (also ps o)
  w_also p n m f g h ps (laid qs t q) j u k =
      record {
        same = k.same;
        ends = omega (arith, k.ends);
        seen_at = λ i xs. seen_append i xs ps qs ∙ ap (or_else (seen i xs ps)) (k.seen_at i xs) ∙ j i xs;
        unset = every_append _ ps qs u k.unset;
      }
  w_also p n m f g h ps (stopped qs x) j u k = k

  -- one after another
  w_then : (p n m : ℕ) (f g h : Spots) (o : Laid) (next : Slots → ℕ → Laid) → ((i : ℕ) (xs : List ℕ) → or_else (f i xs) (further n (g i xs)) ≡ h i xs)
      → Whole s p n f o → Whole s (p + n) m g (next s (p + n)) → Whole s p (n + m) h (and_then o next)
  unfolding and_then
  w_then p n m f g h (laid ps t q) next j k l =
      rw (k.same, k.ends)
      (w_also p n m f g h ps (next s (p + n))
      (λ i xs. ap₂ or_else (k.seen_at i xs) (sym (further_twice p n (g i xs))) ∙ sym (further_or p (f i xs) (further n (g i xs))) ∙ ap (further p) (j i xs))
      k.unset l)
  w_then p n m f g h (stopped ps x) next j k l = absurd k

  -- elements of an array, each w octets long
  module _ (w : ℕ) (f : Spots) where
    -- one as element j, before others
    w_element : (i j p m : ℕ) (g h : Spots) (o : Laid) (next : Slots → ℕ → Laid)
        → ((ps : List Placed) → ((i : ℕ) (xs : List ℕ) → seen i xs ps ≡ further p (f i xs))
        → (i : ℕ) (xs : List ℕ) → or_else (seen i xs (under j ps)) (further (p + w) (g i xs)) ≡ further p (h i xs))
        → Whole s p w f o → Whole s (p + w) m g (next s (p + w)) → Whole s p (w + m) h (and_then (as_element i w j p o) next)
    unfolding and_then as_element
    w_element i j p m g h (laid ps t q) next join k l =
        let e : q - p ≡ w = omega (arith, k.ends) in
        rw (eq-eqb (q - p) w e, k.same, k.ends) (w_also p w m f g h (under j ps) (next s (p + w)) (join ps k.seen_at) (unset_under j ps k.unset) l)
    w_element i j p m g h (stopped ps x) next join k l = absurd k

    w_repeated : (element : Slots → ℕ → Laid) → ((p : ℕ) → Whole s p w f (element s p)) → (i c j p : ℕ)
        → Whole s p (c * w) (λ i xs. some_spot j c w (f i) xs) (repeated element i w c j s p)
    unfolding repeated
    w_repeated element h i zero j p = w_as p 0 (0 * w) _ _ (laid [] s p) (omega arith) (λ i xs. sym (some_none j w (f i) xs)) (w_none p)
    w_repeated element h i (suc c) j p =
        let e : suc c * w ≡ w + c * w = suc-mul c w ∙ omega arith in
        rw e
        (w_element i j p (c * w) (λ i xs. some_spot (j + 1) c w (f i) xs) _ (element s p) (repeated element i w c (j + 1))
        (λ ps k i xs. some_more i j c w p ps (f i) (λ ys. k i ys) xs) (h p) (w_repeated element h i c (j + 1) (p + w)))

  -- the size asked of each element is the first one's
  w_size : (p n : ℕ) (f : Spots) (o : Laid) → Whole s p n f o → size_from p o ≡ n
  unfolding size_from
  w_size p n f (laid ps t q) h = omega (arith, h.ends)
  w_size p n f (stopped ps x) h = absurd h

  pub w_array : (element : Slots → ℕ → Laid) (w : ℕ) (r : ℕ → Row) → ((p : ℕ) → Whole s p w (λ i xs. row_spot (r i) xs) (element s p)) → (i c p : ℕ)
      → Whole s p (c * w) (λ j xs. row_spot (in_array c w (r j)) xs) (repeated element i (size_from p (element s p)) c 0 s p)
  w_array element w r h i c p =
      rw (w_size p w _ (element s p) (h p))
      (w_as p (c * w) (c * w) _ _ (repeated element i w c 0 s p) refl (λ j xs. row_array c w (r j) xs) (w_repeated w (λ i xs. row_spot (r i) xs) element h i c 0 p))

-- one element
pub stand_placed : (i : ℕ) (f : Fields) (img : List ℕ) (s : Slots) (p n : ℕ) → f.sets ≡ 0
    → Whole s p n (λ j xs. row_spot (cond (eqb i j) (row 0 n []) no_row) xs) (placed i f img s p n)
unfolding placed set_slot Every
stand_placed i f img s p n e = record { same = rw e; ends = refl; seen_at = λ j xs. seen_one i f.sets p n j xs; unset = (e, tt) }

-- a good reference is read
pub value_is : (s : Slots) (κ : Known) (f : Fields) (i : ℕ) (g : ℕ → Laid) → Matches s κ → GoodReference κ f → valued s f i g ≡ g (value (slot_numbers s) f)
unfolding valued value reading number_of octets_of
value_is s κ f i g m h = by_test (refers f) refl
  where
    by_slot : (x : Slot) → octets_of x ≡ κ f.slot → 0 < f.slot → reading x f i g ≡ g (bit_range (number_of x) f)
    by_slot unread e l = absurd (omega (arith, h.some l, h.inside l))
    by_slot (holds o x) e l = let b : f.low + f.width ≤ 8 * o = omega (arith, h.inside l) in rw (le-leb (f.low + f.width) (8 * o) b)

    by_test : (b : Bool) → refers f ≡ b
        → cond b (reading (s f.slot) f i g) (g 0) ≡ g (cond b (bit_range (number_of (s f.slot)) f) 0)
    by_test true e = by_slot (s f.slot) (m.octets f.slot) (ltb-true 0 f.slot e)
    by_test false e = refl

-- by the first arm, or by those after it
w_pick : (s : Slots) (p : ℕ) (b : Bool) (n m : ℕ) (r q : ℕ → Row) (o u : Laid) → Whole s p n (λ i xs. row_spot (r i) xs) o → Whole s p m (λ i xs. row_spot (q i) xs) u
    → Whole s p (cond b n m) (λ i xs. row_spot (cond b (r i) (q i)) xs) (cond b o u)
w_pick s p true n m r q o u h k = h
w_pick s p false n m r q o u h k = k

-- a sound body that rises is laid whole, and so is each item in it
module _ (d img : List ℕ) (s : Slots) (κ : Known) (m : Matches s κ) where
  abbrev v : Numbers
  v = slot_numbers s

  mutual
    unfolding lay_body SoundBody RisesBody body_size body_row in_image

    pub w_body : (b : Body) (n lo hi p : ℕ) → SoundBody false κ b → RisesBody d n lo hi b
        → Whole s p (body_size b v) (λ i xs. row_spot (body_row b v i) xs) (lay_body b img true s p)
    w_body done n lo hi p h r = w_as s p 0 0 _ _ (laid [] s p) refl (λ i xs. sym (row_absent xs)) (w_none s p)
    w_body (more x b) n lo hi p h r =
        w_then s p (item_size x v) (body_size b v) _ _ _ (lay_node x img true s p) (λ t q. lay_body b img true t q)
        (λ i xs. ap (or_else (row_spot (item_row x v i) xs)) (sym (row_onward (item_size x v) (body_row b v i) xs))
        ∙ sym (row_first (item_row x v i) (onward (item_size x v) (body_row b v i)) xs
        (parted i r.0 _ _ (λ l. other_node d v i n lo r.0 x r.3 (inr l)) (λ l. onward_none _ _ (other_body d v i n r.0 hi b r.4 (inl l))))))
        (w_node x n lo r.0 p h.0 r.3) (w_body b n r.0 hi (p + item_size x v) (rw (quiet_node κ x h.0) at h.1) r.4)

    pub w_node : (x : Node) (n lo hi p : ℕ) → SoundNode false κ x → RisesNode d n lo hi x
        → Whole s p (item_size x v) (λ i xs. row_spot (item_row x v i) xs) (lay_node x img true s p)
    w_node (leaf j f) n lo hi p h r = rw (value_is s κ f j _ m h.refers) (stand_placed j f img s p (leaf_octets f (value v f)) (h.unset refl))
    w_node (array j f b) n lo hi p h r =
        rw (value_is s κ f j _ m h.0)
        (w_array s (λ t q. lay_body b img true t q) (body_size b v) (body_row b v) (λ q. w_body b (n + 1) lo hi q h.1 r) j (value v f) p)
    w_node (choice j f arms) n lo hi p h r = rw (value_is s κ f j _ m h.0) (w_arms arms (value v f) n lo hi p h.1 r)
    w_node (stray j) n lo hi p h r = absurd h

    w_arms : (arms : Arms) (x n lo hi p : ℕ) → SoundArms κ arms → RisesArms d n lo hi arms
        → Whole s p (arms_size arms x v) (λ i xs. row_spot (arms_row arms x v i) xs) (lay_arms arms x img true s p)
    w_arms (last_arm b) x n lo hi p h r = w_body b n lo hi p h r
    w_arms (arm t b arms) x n lo hi p h r =
        w_pick s p (t x) _ _ (body_row b v) (arms_row arms x v) _ _ (w_body b n lo hi p h.0 r.0) (w_arms arms x n lo hi p h.1 r.1)
