-- What each step of laying keeps, in one record, `Laying`: the elements ps, laid from octet p to q, follow one another, are each as P says and no two have
-- one name; outside arrays q is no further than the image's end. For a body that rises, P says that the element is of its item, one of the body's, and has few
-- subscripts. Elements of different items differ in the item, those of one array in their first subscript. Of any description and image. Assumes nothing.
use Prim.Native.Nat.{ℕ, zero, suc, ◌+◌, ◌-◌, ◌*◌, ◌<◌, ◌≤◌}
use mathlib.Core.Path.{◌≡◌, refl, ap, subst}
use mathlib.Core.Bool.{Bool, true, false, true≢false}
use mathlib.Core.List.{List, [], ◌∷◌, ◌++◌}
use lib.ListN.{length, get_or}
use borrow.Author.Tests.{leb-true}
use native.Mathlib.Omega.{arith}
use Rattle.meaning.specs.Basics.{◌=?◌, ◌≤?◌}
use Rattle.meaning.specs.declared.Fields.{Fields}
use Rattle.meaning.specs.Description.{refers}
use Rattle.meaning.specs.Layout.{Node, Body, Arms, leaf, array, choice, stray, done, more, last_arm, arm}
use Rattle.meaning.specs.Layout.{Slot, Slots, unread, holds, Placed, Fault, fault, short, Laid, laid, stopped, also, and_then, reading, valued, in_image, placed}
use Rattle.meaning.specs.Layout.{leaf_octets, under, as_element, repeated, lay_body, lay_node, lay_arms}
use Rattle.laying.specs.Every.{Every}
use Rattle.laying.specs.Names.{Differ, Apart}
use Rattle.laying.specs.Own.{OfItem}
use Rattle.meaning.proofs.Either.{tested}
use Rattle.laying.proofs.Every.{every_map, every_append}
use Rattle.laying.proofs.Apart.{apart_append}
use Rattle.laying.proofs.Cover.{Consecutive, no_more, next, consecutive_append}
use Rattle.laying.proofs.Rising.{Leaf, RisesBody, RisesNode, RisesArms}

-- THE RECORD
-- in an image of l octets, p may be past its end already
pub record Laying (in_array : Bool) (l p : ℕ) (P : Placed → Type 0) (ps : List Placed) (q : ℕ) : Type 0 where
  pub consecutive : Consecutive p ps q
  pub inside : in_array ≡ false → q ≤ l + (p - l)
  pub each : Every P ps
  pub apart : Apart ps

-- what is laid from p on; a short image shows only outside arrays, and what stands before the short item is laid; of a fault nothing is said
pub data Keeps (in_array : Bool) (l p : ℕ) (P : Placed → Type 0) : Laid → Type 0 where
  lays : {ps : List Placed} {s : Slots} {q : ℕ} → Laying in_array l p P ps q → Keeps in_array l p P (laid ps s q)
  falls_short : {ps : List Placed} {i q : ℕ} → in_array ≡ false → Laying in_array l p P ps q → Keeps in_array l p P (stopped ps (short i q))
  faults : {ps : List Placed} {x : Fault} {i : ℕ} → Keeps in_array l p P (stopped ps (fault x i))

-- what is laid
pub laying_laid : {a : Bool} {l p : ℕ} {P : Placed → Type 0} {ps : List Placed} {s : Slots} {q : ℕ} → Keeps a l p P (laid ps s q) → Laying a l p P ps q
laying_laid (lays h) = h

-- ONE LAW FOR EACH WAY OF LAYING
-- nothing laid
pub laying_none : {a : Bool} {l p : ℕ} {P : Placed → Type 0} → Laying a l p P [] p
unfolding Every Apart
laying_none = record { consecutive = no_more; inside = λ e. omega arith; each = tt; apart = tt }

-- what follows for each element
module _ {P Q : Placed → Type 0} (f : (e : Placed) → P e → Q e) {a : Bool} {l p : ℕ} where
  pub laying_map : {ps : List Placed} {q : ℕ} → Laying a l p P ps q → Laying a l p Q ps q
  laying_map {ps} h = record { consecutive = h.consecutive; inside = h.inside; each = every_map P Q f ps h.each; apart = h.apart }

  -- of what is laid
  keeps_map : {o : Laid} → Keeps a l p P o → Keeps a l p Q o
  keeps_map (lays h) = lays (laying_map h)
  keeps_map (falls_short e h) = falls_short e (laying_map h)
  keeps_map faults = faults

-- elements as P says, before elements as Q says with other names, are all as R says
pub record Joins (P Q R : Placed → Type 0) : Type 0 where
  pub first : (e : Placed) → P e → R e
  pub second : (e : Placed) → Q e → R e
  pub differ : (e f : Placed) → P e → Q f → Differ e f

-- so one after another
module _ {P Q R : Placed → Type 0} (j : Joins P Q R) {a : Bool} {l p : ℕ} where
  -- as lists
  pub laying_append : {q r : ℕ} {ps qs : List Placed} → Laying a l p P ps q → Laying a l q Q qs r → Laying a l p R (ps ++ qs) r
  laying_append {ps = ps} {qs} h k =
      record {
        consecutive = consecutive_append h.consecutive k.consecutive;
        inside = λ e. omega (arith, h.inside e, k.inside e);
        each = every_append R ps qs (every_map P R j.first ps h.each) (every_map Q R j.second qs k.each);
        apart = apart_append P Q j.differ ps qs h.each k.each h.apart k.apart;
      }

  -- elements before
  keeps_also : {q : ℕ} {ps : List Placed} {o : Laid} → Laying a l p P ps q → Keeps a l q Q o → Keeps a l p R (also ps o)
  keeps_also h (lays k) = lays (laying_append h k)
  keeps_also h (falls_short e k) = falls_short e (laying_append h k)
  keeps_also h faults = faults

  -- one way of laying, then another
  keeps_then : {o : Laid} {f : Slots → ℕ → Laid} → Keeps a l p P o → ((s : Slots) (q : ℕ) → Keeps a l q Q (f s q)) → Keeps a l p R (and_then o f)
  unfolding and_then
  keeps_then (lays {s = s} {q} h) k = keeps_also h (k s q)
  keeps_then (falls_short e h) k = falls_short e (laying_map j.first h)
  keeps_then faults k = faults

-- with a reference's value
keeps_valued : {a : Bool} {l p : ℕ} {P : Placed → Type 0} (s : Slots) (f : Fields) (i : ℕ) {g : ℕ → Laid} → ((x : ℕ) → Keeps a l p P (g x))
    → Keeps a l p P (valued s f i g)
unfolding valued reading
keeps_valued {a} {l} {p} {P} s f i {g} h = tested (Keeps a l p P) (refers f) _ _ (λ t. by (s f.slot)) (λ t. h 0)
  where
    by : (x : Slot) → Keeps a l p P (reading x f i g)
    by unread = faults
    by (holds o x) = tested (Keeps a l p P) (f.low + f.width ≤? 8 * o) _ _ (λ t. h _) (λ t. faults)

-- what is laid in an array, or whole before the image's end, is as good outside
keeps_image : (a : Bool) {l p : ℕ} (i : ℕ) {P : Placed → Type 0} {o : Laid} → Keeps true l p P o → Keeps a l p P (in_image a l i p o)
unfolding in_image
keeps_image true i h = h
keeps_image false {l} {p} i {P} (lays {ps} {s} {q} h) =
    tested (Keeps false l p P) (q ≤? l) (laid ps s q) (stopped [] (short i p))
    (λ t. lays (record { consecutive = h.consecutive; inside = λ e. omega (arith, leb-true q l t); each = h.each; apart = h.apart }))
    (λ t. falls_short refl laying_none)
keeps_image false i (falls_short e h) = absurd (true≢false e)
keeps_image false i faults = faults

-- THE ELEMENTS OF AN ARRAY
-- an element with a subscript in front
abbrev subscripted : (j : ℕ) → Placed → Placed
subscripted j e = record { item = e.item; slot = e.slot; subscripts = j ∷ e.subscripts; start = e.start; size = e.size }

-- what then holds of each
every_under : (j : ℕ) (P Q : Placed → Type 0) → ((e : Placed) → P e → Q (subscripted j e)) → (ps : List Placed) → Every P ps → Every Q (under j ps)
unfolding Every under
every_under j P Q f [] h = tt
every_under j P Q f (e ∷ ps) h = (f e h.0, every_under j P Q f ps h.1)

-- they stand where they stood
consecutive_under : {p q : ℕ} {ps : List Placed} (j : ℕ) → Consecutive p ps q → Consecutive p (under j ps) q
unfolding under
consecutive_under j no_more = no_more
consecutive_under j (next e h) = next e (consecutive_under j h)

-- and still no two have one name
apart_under : (j : ℕ) (ps : List Placed) → Apart ps → Apart (under j ps)
unfolding Apart under
apart_under j [] h = tt
apart_under j (e ∷ ps) h = (every_under j (Differ e) (Differ (subscripted j e)) (λ f k a b. k a (cc)) ps h.0, apart_under j ps h.1)

-- the first subscript
abbrev leading : Placed → ℕ
leading e = get_or e.subscripts 0 0

-- as Q says, and j is its first subscript
abbrev At : (j : ℕ) → (Q : Placed → Type 0) → Placed → Type 0
At j Q e = Q e × (leading e ≡ j)

module _ {P Q : Placed → Type 0} (subscript : (j : ℕ) (e : Placed) → P e → Q (subscripted j e)) {l : ℕ} where
  -- element j, of one size with the others
  keeps_element : (i w j p : ℕ) {o : Laid} → Keeps true l p P o → Keeps true l p (At j Q) (as_element i w j p o)
  unfolding as_element
  keeps_element i w j p (lays {ps} {s} {q} h) =
      tested (Keeps true l p (At j Q)) (q - p =? w) _ _ (λ t. lays (record {
        consecutive = consecutive_under j h.consecutive;
        inside = h.inside;
        each = every_under j P (At j Q) (λ e k. (subscript j e k, refl)) ps h.each;
        apart = apart_under j ps h.apart;
      })) (λ t. faults)
  keeps_element i w j p (falls_short e h) = absurd (true≢false e)
  keeps_element i w j p faults = faults

  -- elements from j on: each has the subscripts of its own
  keeps_repeated : (f : Slots → ℕ → Laid) → ((s : Slots) (p : ℕ) → Keeps true l p P (f s p)) → (i w c j : ℕ) (s : Slots) (p : ℕ)
      → Keeps true l p (λ e. Q e × (j ≤ leading e)) (repeated f i w c j s p)
  unfolding repeated
  keeps_repeated f h i w zero j s p = lays laying_none
  keeps_repeated f h i w (suc c) j s p =
      keeps_then (record {
        first = λ e k. (k.0, omega arith);
        second = λ e k. (k.0, omega (arith, k.1));
        differ = λ e x g k a b. let same : leading e ≡ leading x = ap (λ (xs : List ℕ). get_or xs 0 0) b in omega (arith, g.1, k.1);
      })
      (keeps_element i w j p (h s p)) (λ t q. keeps_repeated f h i w c (j + 1) t q)

-- BODIES THAT RISE
-- of an item from lo up to hi of the description; its subscripts, with n arrays round it, are few
pub record Own (d : List ℕ) (n lo hi : ℕ) (e : Placed) : Type 0 where
  pub low : lo ≤ e.item
  pub high : e.item < hi
  pub few : n + length e.subscripts ≤ 4
  pub of : OfItem d e.item e.slot e.size

module _ (d : List ℕ) where
  -- items of a narrower range
  pub wider : {n lo hi from to : ℕ} → lo ≤ from → to ≤ hi → (e : Placed) → Own d n from to e → Own d n lo hi e
  wider a b e h = record { low = omega (arith, h.low); high = omega (arith, h.high); few = h.few; of = h.of }

  -- items before and after one
  pub rising : {n lo from mid hi : ℕ} → lo ≤ from → lo ≤ mid → mid ≤ hi → Joins (Own d n from mid) (Own d n mid hi) (Own d n lo hi)
  rising a b c = record { first = wider a c; second = wider b (omega arith); differ = λ e f g k v w. omega (arith, g.high, k.low) }

  -- one element
  keeps_leaf : {n lo hi l : ℕ} (i : ℕ) (f : Fields) → Leaf d n lo hi i f → (img : List ℕ) (s : Slots) (p x : ℕ)
      → Keeps true l p (Own d n lo hi) (placed i f img s p (leaf_octets f x))
  unfolding placed Every Apart
  keeps_leaf i f h img s p x =
      lays (record {
        consecutive = next {e = record { item = i; slot = f.sets; subscripts = []; start = p; size = leaf_octets f x }} refl no_more;
        inside = λ t. absurd (true≢false t);
        each = (record { low = h.low; high = h.high; few = omega (arith, h.few); of = h.own x }, tt);
        apart = (tt, tt);
      })

  module _ (img : List ℕ) where
    mutual
      unfolding lay_body RisesBody

      -- a body: its items come one before another
      pub keeps_body : (b : Body) (n lo hi : ℕ) → RisesBody d n lo hi b → (a : Bool) (s : Slots) (p : ℕ)
          → Keeps a (length img) p (Own d n lo hi) (lay_body b img a s p)
      keeps_body done n lo hi h a s p = lays laying_none
      keeps_body (more x b) n lo hi h a s p =
          keeps_then (rising (omega arith) h.1 h.2) (keeps_node x n lo h.0 h.3 a s p) (λ t q. keeps_body b n h.0 hi h.4 a t q)

      -- an item
      pub keeps_node : (x : Node) (n lo hi : ℕ) → RisesNode d n lo hi x → (a : Bool) (s : Slots) (p : ℕ)
          → Keeps a (length img) p (Own d n lo hi) (lay_node x img a s p)
      keeps_node (leaf i f) n lo hi h a s p = keeps_valued s f i (λ x. keeps_image a i (keeps_leaf i f h img s p x))
      keeps_node (array i f b) n lo hi h a s p =
          keeps_valued s f i (λ c. keeps_image a i (keeps_map (λ e k. k.0)
          (keeps_repeated (λ j e k. record { low = k.low; high = k.high; few = omega (arith, k.few); of = k.of })
          _ (λ t q. keeps_body b (n + 1) lo hi h true t q) i _ c 0 s p)))
      keeps_node (choice i f arms) n lo hi h a s p = keeps_valued s f i (λ x. keeps_arms arms n lo hi h x a s p)
      keeps_node (stray i) n lo hi h a s p = faults

      -- the arm that is taken
      pub keeps_arms : (arms : Arms) (n lo hi : ℕ) → RisesArms d n lo hi arms → (x : ℕ) (a : Bool) (s : Slots) (p : ℕ)
          → Keeps a (length img) p (Own d n lo hi) (lay_arms arms x img a s p)
      keeps_arms (last_arm b) n lo hi h x a s p = keeps_body b n lo hi h a s p
      keeps_arms (arm t b arms) n lo hi h x a s p =
          tested (Keeps a (length img) p (Own d n lo hi)) (t x) _ _ (λ e. keeps_body b n lo hi h.0 a s p) (λ e. keeps_arms arms n lo hi h.1 x a s p)

    -- of a body that is laid
    pub laying_body : (b : Body) (n lo hi : ℕ) → RisesBody d n lo hi b → (a : Bool) (s : Slots) (p : ℕ) {ps : List Placed} {t : Slots} {q : ℕ}
        → lay_body b img a s p ≡ laid ps t q → Laying a (length img) p (Own d n lo hi) ps q
    laying_body b n lo hi h a s p e = laying_laid (subst (Keeps a (length img) p (Own d n lo hi)) e (keeps_body b n lo hi h a s p))
