-- The pieces of a passed description: what is no piece moves nothing; a slot's number, once read, stays; a piece that ends inside the image, or is the first that doesn't. Assumes
-- nothing.
use Rattle.std.specs.Prelude.{if◌then◌else◌}
use Prim.Native.Nat.{ℕ, zero, suc, ◌+◌, ◌<◌, ◌≤◌}
use mathlib.Core.Path.{◌≡◌, refl, ◌∙◌, ap, sym, subst}
use mathlib.Core.Bool.{Bool, true, false, cond, and-false, ◌&&◌}
use mathlib.Core.List.{List, [], ◌∷◌}
use lib.ListN.{length}
use borrow.Author.Tests.{ltb-true, lt-ltb, le-ltb, eq-eqb, ne_eqb}
use native.Mathlib.Decide.{dec_lt}
use native.Mathlib.Omega.{arith}
use Rattle.meaning.specs.Description.{item_count, fields_at, refers, slot_octets}
use Rattle.meaning.specs.Layout.{number_at, bit_range, Numbers, value}
use Rattle.meaning.specs.Passed.{PassedLaws}
use Rattle.meaning.proofs.Either.{tested}
use Rattle.meaning.proofs.Nesting.{upward}
use Rattle.meaning.proofs.Ranges.{fields_range}
use Rattle.meaning.proofs.Rules.{slot_step}
use Rattle.laying.specs.Every.{Every}
use Rattle.laying.specs.Outcomes.{set_number}
use Rattle.laying.proofs.Every.{every_map}
use Rattle.demands.specs.Walk.{nests_round, in_chosen, all_chosen, is_chosen, is_piece, octets_of, Reached, past_item, reached, octet_before, numbers_before, numbers_in, runs_past}
use Rattle.demands.proofs.Around.{from_range, round_from}

-- SETTING A SLOT
pub set_same : (k x : ℕ) (v : Numbers) → 0 < k → set_number k x v k ≡ x
unfolding set_number
set_same zero x v h = absurd (omega arith)
set_same (suc k) x v h = rw (eq-eqb (suc k) (suc k) refl)

set_other : (k x j : ℕ) (v : Numbers) → (k ≡ j → ⊥) → set_number k x v j ≡ v j
unfolding set_number
set_other zero x j v h = refl
set_other (suc k) x j v h = rw (ne_eqb j (suc k) (λ e. h (sym e)))

module _ (d img : List ℕ) where
  pub reached_next : (i : ℕ) → reached d img (i + 1) ≡ past_item d img i (reached d img i)
  unfolding reached
  reached_next i = let e : i + 1 ≡ suc i = omega arith in rw e

  -- WHAT IS NO PIECE moves nothing, and runs past no end
  pub no_piece : (i : ℕ) → is_piece d (numbers_before d img i) i ≡ false → reached d img (i + 1) ≡ reached d img i
  unfolding past_item
  no_piece i e = reached_next i ∙ rw e

  pub no_runs : (i : ℕ) → is_piece d (numbers_before d img i) i ≡ false → runs_past d img i ≡ false
  unfolding runs_past
  no_runs i e = rw e

  -- NO PIECE FROM ITEM a UP TO e RUNS PAST the image's end
  abbrev pub Inside : (a e : ℕ) → Type 0
  Inside a e = (i : ℕ) → a ≤ i → i < e → runs_past d img i ≡ false

  pub inside_one : (a : ℕ) → runs_past d img a ≡ false → Inside a (a + 1)
  inside_one a h i l m = let e : i ≡ a = omega arith in rw e h

  -- up to b, and from there on
  pub inside_both : (a b e : ℕ) → Inside a b → Inside b e → Inside a e
  inside_both a b e h k i l m = go (dec_lt i b)
    where
      go : Dec (i < b) → runs_past d img i ≡ false
      go (yes y) = h i l y
      go (no y) = k i (omega arith) m

  pub no_pieces : (a b : ℕ) → a ≤ b → ((i : ℕ) → a ≤ i → i < b → is_piece d (numbers_before d img i) i ≡ false) → reached d img b ≡ reached d img a
  no_pieces a b l h =
      upward (λ k. k ≤ b → reached d img k ≡ reached d img a) a (λ z. refl) (λ k m rec z. no_piece k (h k m (omega arith)) ∙ rec (omega arith)) b l (omega arith)

  -- A PIECE
  pub piece_reached : (i : ℕ) → is_piece d (numbers_before d img i) i ≡ true
      → reached d img (i + 1) ≡ record {
        octet = octet_before d img i + octets_of d (numbers_before d img i) i;
        numbers = set_number (fields_at d i).sets (number_at img (octet_before d img i) (octets_of d (numbers_before d img i) i)) (numbers_before d img i);
      }
  unfolding past_item
  piece_reached i e = reached_next i ∙ rw e

  pub piece_inside : (i : ℕ) → octet_before d img i + octets_of d (numbers_before d img i) i ≤ length img → runs_past d img i ≡ false
  unfolding runs_past
  piece_inside i l =
      let piece = is_piece d (numbers_before d img i) i in
      ap (λ (b : Bool). piece && b) (le-ltb _ _ l) ∙ and-false piece

  pub piece_past : (i : ℕ) → is_piece d (numbers_before d img i) i ≡ true → length img < octet_before d img i + octets_of d (numbers_before d img i) i → runs_past d img i ≡ true
  unfolding runs_past
  piece_past i e l = rw (e, lt-ltb (length img) _ l)

  -- NUMBERS STAY, of a passed description
  module _ (p : PassedLaws d) where
    -- an item that doesn't set slot k leaves its number
    number_next : (k i : ℕ) → ((fields_at d i).sets ≡ k → ⊥) → numbers_before d img (i + 1) k ≡ numbers_before d img i k
    unfolding past_item
    number_next k i other = ap (λ (r : Reached). r.numbers k) (reached_next i) ∙ go (is_piece d (numbers_before d img i) i)
      where
        go : (b : Bool) → (if b then record {
          octet = octet_before d img i + octets_of d (numbers_before d img i) i;
          numbers = set_number (fields_at d i).sets (number_at img (octet_before d img i) (octets_of d (numbers_before d img i) i)) (numbers_before d img i);
        } else reached d img i).numbers k ≡ numbers_before d img i k
        go true = set_other (fields_at d i).sets _ k (numbers_before d img i) other
        go false = refl

    -- a slot that is set is set once
    set_once : (k i : ℕ) → 0 < k → i < item_count d → 0 < slot_octets d i k → (fields_at d i).sets ≡ k → ⊥
    set_once k i some l h e = omega (arith, h, rw e at ((p.keeps i l).slot_once (omega arith)))

    still_set : (k a i : ℕ) → 0 < k → a ≤ i → i ≤ item_count d → 0 < slot_octets d a k → 0 < slot_octets d i k
    still_set k a i some l m h =
        upward (λ i. i ≤ item_count d → 0 < slot_octets d i k) a (λ z. h)
        (λ i n rec z. let b = rec (omega arith) in rw (slot_step d i k, ne_eqb (fields_at d i).sets k (set_once k i some (omega arith) b)) b) i l m

    -- and keeps its number
    pub number_stays : (k a b : ℕ) → 0 < k → a ≤ b → b ≤ item_count d → 0 < slot_octets d a k → numbers_before d img b k ≡ numbers_before d img a k
    number_stays k a b some l m h =
        upward (λ i. i ≤ item_count d → numbers_before d img i k ≡ numbers_before d img a k) a (λ z. refl)
        (λ i n rec z. number_next k i (set_once k i some (omega arith) (still_set k a i some n (omega arith) h)) ∙ rec (omega arith)) b l m

    -- so a reference has one value from its item on
    pub value_stays : (j i : ℕ) → j < item_count d → j ≤ i → i ≤ item_count d → value (numbers_before d img i) (fields_at d j) ≡ value (numbers_in d img) (fields_at d j)
    unfolding value
    value_stays j i l a b = go (refers (fields_at d j)) refl
      where
        go : (t : Bool) → refers (fields_at d j) ≡ t
            → cond t (bit_range (numbers_before d img i (fields_at d j).slot) (fields_at d j)) 0 ≡ cond t (bit_range (numbers_in d img (fields_at d j).slot) (fields_at d j)) 0
        go true e =
            let some = ltb-true 0 (fields_at d j).slot e in
            let set : 0 < slot_octets d j (fields_at d j).slot = omega (arith, (p.keeps j l).refers some, (fields_range d j).some_bits some) in
            ap (λ (x : ℕ). bit_range x (fields_at d j))
            (number_stays (fields_at d j).slot j i some a b set ∙ sym (number_stays (fields_at d j).slot j (item_count d) some (omega arith) (omega arith) set))
        go false e = refl

    -- and what is chosen by it is chosen by the numbers of all dimensions
    chosen_stays : (i k : ℕ) (js : List ℕ) → i ≤ item_count d → Every (λ j. j < i) js → all_chosen d (numbers_before d img i) k js ≡ all_chosen d (numbers_in d img) k js
    unfolding all_chosen in_chosen Every
    chosen_stays i k [] l h = refl
    chosen_stays i k (j ∷ js) l h = rw (value_stays j i (omega (arith, h.0)) (omega (arith, h.0)) l, chosen_stays i k js l h.1)

    pub is_chosen_lem : (i : ℕ) → i ≤ item_count d → is_chosen d (numbers_before d img i) i ≡ is_chosen d (numbers_in d img) i
    is_chosen_lem i l = chosen_stays i i (nests_round d i) l (rw (round_from d i) at (every_map _ _ (λ j h. h.1) _ (from_range d i 0 i (omega arith))))

  -- octets only grow
  octet_next : (i : ℕ) → octet_before d img i ≤ octet_before d img (i + 1)
  unfolding past_item
  octet_next i =
      subst (λ (r : Reached). octet_before d img i ≤ r.octet) (sym (reached_next i))
      (tested (λ (r : Reached). octet_before d img i ≤ r.octet) (is_piece d (numbers_before d img i) i) _ _ (λ t. omega arith) (λ t. omega arith))

  pub octets_grow : (a b : ℕ) → a ≤ b → octet_before d img a ≤ octet_before d img b
  octets_grow a b l = upward (λ k. octet_before d img a ≤ octet_before d img k) a (omega arith) (λ k m h. omega (arith, octet_next k)) b l
