-- What it is for a body to be walked piece by piece, outside arrays: from the item that is reached to the one that is reached after it; items that are no pieces before and after; one
-- walk after another. Assumes nothing.
use Prim.Native.Nat.{ℕ, ◌<◌, ◌≤◌}
use mathlib.Core.Path.{◌≡◌, refl, ◌∙◌, ap, ap₂}
use mathlib.Core.Bool.{true, false, ◌||◌, and-false}
use mathlib.Core.List.{List, [], ◌∷◌, ◌++◌}
use native.Mathlib.Omega.{arith}
use Rattle.meaning.specs.Description.{fields_at, is_element, is_array}
use Rattle.meaning.specs.Layout.{number_at}
use Rattle.meaning.specs.Layout.{Slots, Placed, fault, short, Laid, laid, stopped, also, and_then, Numbers, slot_numbers}
use Rattle.meaning.specs.Passed.{end_of}
use Rattle.meaning.proofs.Either.{tested}
use Rattle.laying.specs.Every.{Every}
use Rattle.laying.specs.Slots.{Matches}
use Rattle.laying.specs.Sound.{Known}
use Rattle.laying.proofs.Every.{every_append}
use Rattle.demands.specs.Walk.{nests_round, arrays_of, all_chosen, is_none, is_piece, reached, octet_before, numbers_before, numbers_in, runs_past}
use Rattle.demands.proofs.Around.{nests_to, to_from, from_nest}
use Rattle.demands.proofs.Naming.{Name}
use Rattle.demands.proofs.Pieces.{no_pieces, no_runs, Inside, inside_both}
use Rattle.demands.proofs.Stripped.{strip, strip_append}

-- WHAT IS NO PIECE
module _ (d : List ℕ) where
  some_array : (a : ℕ) (xs ys : List ℕ) → is_array (fields_at d a) ≡ true → is_none (arrays_of d (xs ++ a ∷ ys)) ≡ false
  unfolding arrays_of is_none
  some_array a [] ys is = rw is
  some_array a (x ∷ xs) ys is = tested (λ l. is_none l ≡ false) (is_array (fields_at d x)) _ _ (λ t. refl) (λ t. some_array a xs ys is)

  -- what is no UINT, BLOCK, SET or ARRAY
  pub other_piece : (w : Numbers) (i : ℕ) → is_element (fields_at d i) ≡ false → is_array (fields_at d i) ≡ false → is_piece d w i ≡ false
  unfolding is_piece
  other_piece w i a b = rw (a, b)

  -- nor is what stands in an ARRAY
  pub array_piece : (w : Numbers) (a i : ℕ) → is_array (fields_at d a) ≡ true → a < i → i < end_of d a → is_piece d w i ≡ false
  unfolding is_piece
  array_piece w a i is l m =
      let e : nests_round d i ≡ nests_to d a i ++ a ∷ _ = to_from d a i (omega arith) ∙ ap (λ (js : List ℕ). nests_to d a i ++ js) (from_nest d a i (rw is) l m) in
      rw (e, some_array a (nests_to d a i) _ is, and-false (is_element (fields_at d i) || is_array (fields_at d i)))

module _ (d img : List ℕ) where
  abbrev v : Numbers
  v = numbers_in d img

  -- ITEM `at` IS REACHED at octet q, with slots s
  abbrev pub At : (at : ℕ) → Slots → (q : ℕ) → Type 0
  At at s q = reached d img at ≡ record { octet = q; numbers = slot_numbers s }

  -- round the items from a up to e stand, before a, no ARRAY and no IF that chooses another branch
  abbrev pub Open : (a e : ℕ) → Type 0
  Open a e = (i : ℕ) → a ≤ i → i < e → (arrays_of d (nests_to d a i) ≡ []) × (all_chosen d v i (nests_to d a i) ≡ true)

  -- WHAT IS WALKED from item a up to e
  -- a dimension's number is its slot's
  abbrev pub DimensionIs : Placed → Type 0
  DimensionIs x = 0 < x.slot → number_at img x.start x.size ≡ v x.slot

  pub record Walked (a e : ℕ) (κ : Known) (ns : List Name) (ps : List Placed) (t : Slots) (q : ℕ) : Type 0 where
    pub here : At e t q
    pub inside : Inside d img a e
    pub matches : Matches t κ
    pub names : strip ps ≡ ns
    pub dimensions : Every DimensionIs ps

  pub record FirstIn (a e i x : ℕ) : Type 0 where
    pub low : a ≤ i
    pub high : i < e
    pub at : octet_before d img i ≡ x
    pub past : runs_past d img i ≡ true
    pub before : Inside d img a i

  abbrev pub Walks : (a e : ℕ) → Known → List Name → Laid → Type 0
  Walks a e κ ns (laid ps t q) = Walked a e κ ns ps t q
  Walks a e κ ns (stopped ps (short i x)) = FirstIn a e i x
  Walks a e κ ns (stopped ps (fault x i)) = ⊥

  -- with items before of which none runs past, and with items after
  pub first_before : (a b e i x : ℕ) → a ≤ b → Inside d img a b → FirstIn b e i x → FirstIn a e i x
  first_before a b e i x l none h = record { low = omega (arith, h.low); high = h.high; at = h.at; past = h.past; before = inside_both d img a b i none h.before }

  pub first_after : (a b e i x : ℕ) → b ≤ e → FirstIn a b i x → FirstIn a e i x
  first_after a b e i x l h = record { low = h.low; high = omega (arith, h.high); at = h.at; past = h.past; before = h.before }

  pub walks_before : (a b e : ℕ) (κ : Known) (ns : List Name) (o : Laid) → Inside d img a b → a ≤ b → Walks b e κ ns o → Walks a e κ ns o
  walks_before a b e κ ns (laid ps t q) none l h =
      record { here = h.here; inside = inside_both d img a b e none h.inside; matches = h.matches; names = h.names; dimensions = h.dimensions }
  walks_before a b e κ ns (stopped ps (short i x)) none l h = first_before a b e i x l none h
  walks_before a b e κ ns (stopped ps (fault x i)) none l h = h

  pub walks_after : (a b e : ℕ) (κ : Known) (ns : List Name) (o : Laid) → ((i : ℕ) → b ≤ i → i < e → is_piece d (numbers_before d img i) i ≡ false) → b ≤ e
      → Walks a b κ ns o → Walks a e κ ns o
  walks_after a b e κ ns (laid ps t q) none l h =
      record {
        here = no_pieces d img b e l none ∙ h.here;
        inside = inside_both d img a b e h.inside (λ i m n. no_runs d img i (none i m n));
        matches = h.matches;
        names = h.names;
        dimensions = h.dimensions;
      }
  walks_after a b e κ ns (stopped ps (short i x)) none l h = first_after a b e i x l h
  walks_after a b e κ ns (stopped ps (fault x i)) none l h = h

  -- one after another
  pub walks_then : (a b e : ℕ) (κ κ' : Known) (ns ms : List Name) (o : Laid) (next : Slots → ℕ → Laid) → a ≤ b → b ≤ e → Walks a b κ ns o
      → ((t : Slots) (q : ℕ) → At b t q → Matches t κ → Walks b e κ' ms (next t q)) → Walks a e κ' (ns ++ ms) (and_then o next)
  unfolding and_then
  walks_then a b e κ κ' ns ms (laid ps t q) next l m h k = go (next t q) (k t q h.here h.matches)
    where
      go : (u : Laid) → Walks b e κ' ms u → Walks a e κ' (ns ++ ms) (also ps u)
      go (laid qs u r) w =
          record {
            here = w.here;
            inside = inside_both d img a b e h.inside w.inside;
            matches = w.matches;
            names = strip_append ps qs ∙ ap₂ ◌++◌ h.names w.names;
            dimensions = every_append DimensionIs ps qs h.dimensions w.dimensions;
          }
      go (stopped qs (short i x)) w = first_before a b e i x l h.inside w
      go (stopped qs (fault x i)) w = w
  walks_then a b e κ κ' ns ms (stopped ps (short i x)) next l m h k = first_after a b e i x m h
  walks_then a b e κ κ' ns ms (stopped ps (fault x i)) next l m h k = h
