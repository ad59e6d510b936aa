-- Laying out leans on the image only through its length and the numbers of the dimensions that it reaches: of a passed description, an image as long as
-- another in which these numbers are the same is laid out the same, or stops the same. Inside arrays, where no dimension stands, the image isn't read at all.
-- Assumes nothing.
use Rattle.std.specs.Prelude.{if◌then◌else◌}
use Prim.Native.Nat.{ℕ, zero, suc, ◌+◌, ◌*◌, ◌<◌}
use mathlib.Core.Path.{◌≡◌, refl, ◌∙◌, ap, sym, fun_ext}
use mathlib.Core.Bool.{Bool, true, false, true≢false}
use mathlib.Core.List.{List}
use lib.ListN.{length}
use native.Mathlib.Omega.{arith}
use Rattle.meaning.specs.Basics.{◌≤?◌}
use Rattle.meaning.specs.declared.Fields.{Fields}
use Rattle.meaning.specs.Description.{refers}
use Rattle.meaning.specs.Layout.{Node, Body, Arms, Tables, leaf, array, choice, stray, done, more, last_arm, arm, no_more, table, stray_table, tree_of, leaf_octets}
use Rattle.meaning.specs.Layout.{Slot, Slots, unread, holds, set_slot, number_at, Placed, Laid, laid, stopped, also, and_then, reading, valued, in_image, placed}
use Rattle.meaning.specs.Layout.{size_from, repeated, lay_body, lay_node, lay_arms, Seat, Layout, laid_out, stopped_at, before, seated, lay_tables, lay_out}
use Rattle.meaning.specs.Passed.{Passes}
use Rattle.laying.specs.Every.{Every}
use Rattle.laying.specs.Kept.{Undisturbed, elements_reached}
use Rattle.laying.specs.Sound.{Known, SoundBody, SoundNode, SoundArms, SoundTables, none_known, after_node, after_body}
use Rattle.laying.proofs.Every.{every_split}
use Rattle.laying.proofs.Tops.{passed_sound}

-- the elements of a body or an item, laid or placed before it stopped
abbrev pub placed_in : Laid → List Placed
placed_in (laid es s p) = es
placed_in (stopped es x) = es

-- a slot set to the same number is the same slot; slot 0 is none
slot_same : (k n x y : ℕ) (s : Slots) → (0 < k → x ≡ y) → set_slot k (holds n x) s ≡ set_slot k (holds n y) s
unfolding set_slot
slot_same zero n x y s h = refl
slot_same (suc k) n x y s h = rw (h (omega arith))

module _ (img later : List ℕ) (long : length later ≡ length img) where
  -- what o comes to with img, o' does with the later image, where no dimension reached has changed; in an array whatever has changed
  record Kept (in_array : Bool) (o o' : Laid) : Type 0 where
    same : (in_array ≡ false → Undisturbed img later (placed_in o)) → o' ≡ o

  -- ONE LAW FOR EACH WAY OF LAYING
  -- elements before
  also_split : (ps : List Placed) (o : Laid) → Undisturbed img later (placed_in (also ps o)) → Undisturbed img later ps × Undisturbed img later (placed_in o)
  also_split ps (laid qs s q) u = every_split _ ps qs u
  also_split ps (stopped qs x) u = every_split _ ps qs u

  -- one after another
  kept_then : (a : Bool) (o o' : Laid) (f f' : Slots → ℕ → Laid) → Kept a o o' → ((s : Slots) (q : ℕ) → Kept a (f s q) (f' s q))
      → Kept a (and_then o f) (and_then o' f')
  unfolding and_then
  kept_then a (laid ps s q) o' f f' h g =
      record {
        same = λ u.
            ap (λ x. and_then x f') (h.same (λ e. (also_split ps (f s q) (u e)).0)) ∙ ap (also ps) ((g s q).same (λ e. (also_split ps (f s q) (u e)).1));
      }
  kept_then a (stopped ps x) o' f f' h g = record { same = λ u. ap (λ y. and_then y f') (h.same u) }

  -- by a test
  kept_test : {a : Bool} (b : Bool) {o o' q q' : Laid} → Kept a o o' → Kept a q q' → Kept a (if b then o else q) (if b then o' else q')
  kept_test true h g = h
  kept_test false h g = g

  -- the same whatever the image
  kept_equal : {a : Bool} {o o' : Laid} → o' ≡ o → Kept a o o'
  kept_equal e = record { same = λ u. e }

  -- with a reference's value
  kept_valued : (a : Bool) (s : Slots) (f : Fields) (i : ℕ) {g g' : ℕ → Laid} → ((x : ℕ) → Kept a (g x) (g' x)) → Kept a (valued s f i g) (valued s f i g')
  unfolding valued reading
  kept_valued a s f i {g} {g'} h = kept_test (refers f) (by (s f.slot)) (h 0)
    where
      by : (x : Slot) → Kept a (reading x f i g) (reading x f i g')
      by unread = kept_equal refl
      by (holds o x) = kept_test (f.low + f.width ≤? 8 * o) (h _) (kept_equal refl)

  -- one element, if it sets a slot to the same number
  placed_same : (i : ℕ) (f : Fields) (s : Slots) (p n : ℕ) → (0 < f.sets → number_at later p n ≡ number_at img p n) → placed i f later s p n ≡ placed i f img s p n
  unfolding placed
  placed_same i f s p n h = rw (slot_same f.sets n (number_at later p n) (number_at img p n) s h)

  -- one that sets a slot stands outside arrays
  kept_leaf : (a : Bool) (i : ℕ) (f : Fields) (s : Slots) (p n : ℕ) → (a ≡ true → f.sets ≡ 0)
      → Kept a (in_image a (length img) i p (placed i f img s p n)) (in_image a (length img) i p (placed i f later s p n))
  unfolding in_image placed Every
  kept_leaf true i f s p n h = kept_equal (placed_same i f s p n (λ g. absurd (omega (arith, h refl))))
  kept_leaf false i f s p n h =
      kept_test (p + n ≤? length img) {o = placed i f img s p n} (record { same = λ u. placed_same i f s p n (u refl).0 }) (kept_equal refl)

  mutual
    unfolding lay_body SoundBody

    -- a body
    kept_body : (b : Body) (free : Bool) (κ : Known) → SoundBody free κ b → (a : Bool) → (a ≡ true → free ≡ false) → (s : Slots) (p : ℕ)
        → Kept a (lay_body b img a s p) (lay_body b later a s p)
    kept_body done free κ h a r s p = kept_equal refl
    kept_body (more n b) free κ h a r s p =
        kept_then a _ _ _ _ (kept_node n free κ h.0 a r s p) (λ t q. kept_body b free (after_node n κ) h.1 a r t q)

    -- an item
    kept_node : (n : Node) (free : Bool) (κ : Known) → SoundNode free κ n → (a : Bool) → (a ≡ true → free ≡ false) → (s : Slots) (p : ℕ)
        → Kept a (lay_node n img a s p) (lay_node n later a s p)
    kept_node (leaf i f) free κ h a r s p = rw long (kept_valued a s f i (λ x. kept_leaf a i f s p (leaf_octets f x) (λ e. h.unset (r e))))
    kept_node (array i f b) free κ h a r s p =
        let element : (image : List ℕ) → Slots → ℕ → Laid = λ image t q. lay_body b image true t q in
        let same : element later ≡ element img =
        fun_ext (λ t. fun_ext (λ q. (kept_body b false κ h.1 true (λ e. refl) t q).same (λ e. absurd (true≢false e)))) in
        rw long (kept_equal (ap (λ (g : Slots → ℕ → Laid). valued s f i (λ c. in_image a (length img) i p (repeated g i (size_from p (g s p)) c 0 s p))) same))
    kept_node (choice i f arms) free κ h a r s p = kept_valued a s f i (λ x. kept_arms arms κ h.1 x a s p)
    kept_node (stray i) free κ h a r s p = kept_equal refl

    -- the arm that is taken
    kept_arms : (arms : Arms) (κ : Known) → SoundArms κ arms → (x : ℕ) (a : Bool) (s : Slots) (p : ℕ)
        → Kept a (lay_arms arms x img a s p) (lay_arms arms x later a s p)
    kept_arms (last_arm b) κ h x a s p = kept_body b false κ h a (λ e. refl) s p
    kept_arms (arm t b arms) κ h x a s p = kept_test (t x) (kept_body b false κ h.0 a (λ e. refl) s p) (kept_arms arms κ h.1 x a s p)

  -- THE WHOLE IMAGE
  -- what o comes to, o' does, where no dimension reached has changed
  abbrev KeptAll : (o o' : Layout) → Type 0
  KeptAll o o' = Undisturbed img later (elements_reached o) → o' ≡ o

  -- a table before others
  before_split : (t : Seat) (ps : List Placed) (o : Layout) → Undisturbed img later (elements_reached (before t ps o))
      → Undisturbed img later ps × Undisturbed img later (elements_reached o)
  before_split t ps (laid_out ts qs s n) u = every_split _ ps qs u
  before_split t ps (stopped_at qs x) u = every_split _ ps qs u

  -- a table, then others
  kept_seated : (i : ℕ) (f : Fields) (p : ℕ) (o o' : Laid) (g g' : Slots → ℕ → Layout) → Kept false o o' → ((s : Slots) (q : ℕ) → KeptAll (g s q) (g' s q))
      → KeptAll (seated i f p o g) (seated i f p o' g')
  unfolding seated
  kept_seated i f p (laid ps s q) o' g g' h k u =
      let r = before_split _ ps (g s q) u in
      ap (λ x. seated i f p x g') (h.same (λ e. r.0)) ∙ ap (before _ ps) (k s q r.1)
  kept_seated i f p (stopped ps x) o' g g' h k u = ap (λ y. seated i f p y g') (h.same (λ e. u))

  -- all tables
  kept_tables : (t : Tables) (κ : Known) → SoundTables κ t → (s : Slots) (p : ℕ) → KeptAll (lay_tables t img s p) (lay_tables t later s p)
  unfolding lay_tables SoundTables
  kept_tables no_more κ h s p = λ u. refl
  kept_tables (table i f body rest) κ h s p =
      kept_seated i f p _ _ _ _ (kept_body body true κ h.0 false (λ e. absurd (true≢false (sym e))) s p) (λ t q. kept_tables rest (after_body body κ) h.1 t q)
  kept_tables (stray_table i) κ h s p = λ u. refl

-- a passed description laid over two images: its tree is sound
pub layout_kept : (d img later : List ℕ) → Passes d → length later ≡ length img → Undisturbed img later (elements_reached (lay_out d img))
    → lay_out d later ≡ lay_out d img
unfolding lay_out
layout_kept d img later h e = kept_tables img later e (tree_of d) none_known (passed_sound d h) (λ k. unread) 0
