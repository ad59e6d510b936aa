-- Why there is no such element, of any description and any numbers of its slots: the tests in their order come to what our search comes to; none of them is given exactly where there is such an
-- element; and the first is told cause by cause as the statement says. Assumes nothing.
use Rattle.std.specs.Prelude.{if◌then◌else◌}
use Prim.Native.Nat.{ℕ, zero, suc, ◌+◌, ◌<◌, ◌≤◌}
use mathlib.Core.Path.{◌≡◌, refl, sym, ◌∙◌, ap}
use mathlib.Core.Bool.{Bool, true, false, not, ◌&&◌, ◌||◌, and-false, and-eq-true_iff, true≢false}
use mathlib.Core.List.{List, [], ◌∷◌, ◌++◌, map}
use mathlib.Core.Option.{Option, some, none}
use lib.ListN.{length, get_or, drop}
use lib.Seq.{drop-cons}
use borrow.Author.Tests.{lt-ltb, ltb-true, le-leb, eqb-true, not-true}
use native.Mathlib.Decide.{ℕ_discrete}
use native.Mathlib.Omega.{arith}
use Rattle.meaning.specs.Basics.{◌=?◌, ◌<?◌, ◌≤?◌}
use Rattle.meaning.specs.declared.ElementName.{ElementName}
use Rattle.meaning.specs.declared.Fields.{Fields}
use Rattle.meaning.specs.declared.Refusal.{Refusal}
use Rattle.meaning.specs.Causes as why
use Rattle.meaning.specs.Causes.{subscripts_of, in_branch, in_the_way, suits, why_none}
use Rattle.meaning.specs.Description.{item_count, fields_at, is_uint, is_element, is_array, is_choice, nests, count}
use Rattle.meaning.specs.Layout.{Numbers, value, branches_in, if_branches, taken}
use Rattle.meaning.specs.Numbers.{nothing_refused, not_an_element, branch_not_chosen, subscript_count, subscript_too_large, not_a_number}
use Rattle.meaning.specs.Passed.{Exactly, end_of}
use Rattle.meaning.proofs.Causes.{way_none, way_step}
use Rattle.meaning.proofs.Either.{clash}
use Rattle.demands.specs.Causes.{is_one, is_other, is_counted, depth_of, is_open, told_at, at_nest, causes_of, Addressed, InTheWay, Clear, Unchosen, TooLarge, CausesSay}
use Rattle.demands.specs.Given.{given, first_of}
use Rattle.demands.specs.Rules.{NestRound}
use Rattle.demands.specs.Walk.{encloses, nests_in, arrays_of, arrays_round, in_chosen, all_chosen, is_chosen, all_below, has_element, exists}
use Rattle.demands.proofs.Around.{nests_to, to_next}

-- LISTS OF TESTS
-- the first of two lists, one after the other
unfoldable pub or_else : {A : Type 0} → Option A → Option A → Option A
or_else none y = y
or_else (some r) y = some r

pub first_append : {A : Type 0} (xs ys : List (Option A)) → first_of (xs ++ ys) ≡ or_else (first_of xs) (first_of ys)
unfolding first_of or_else
first_append [] ys = refl
first_append (none ∷ xs) ys = first_append xs ys
first_append (some r ∷ xs) ys = refl

-- nothing is given
unfoldable pub is_nothing : {A : Type 0} → Option A → Bool
is_nothing none = true
is_nothing (some r) = false

-- the refusal given, all 0 where none is
unfoldable or_nothing : Option Refusal → Refusal
or_nothing none = nothing_refused
or_nothing (some r) = r

-- WHAT STANDS ROUND THE ITEM
module _ (d : List ℕ) (i : ℕ) where
  -- an item before it encloses it, in either's words
  encloses_is : (j : ℕ) → j < i → encloses d j i ≡ why.encloses (fields_at d j) j i
  unfolding encloses
  encloses_is j l = rw (lt-ltb j i l)

  -- how many ARRAYs come before an item
  arrays_more : (xs ys : List ℕ) → length (arrays_of d (xs ++ ys)) ≡ length (arrays_of d xs) + length (arrays_of d ys)
  unfolding arrays_of
  arrays_more [] ys = omega arith
  arrays_more (x ∷ xs) ys = go (is_array (fields_at d x)) (arrays_more xs ys)
    where
      go : (b : Bool) → length (arrays_of d (xs ++ ys)) ≡ length (arrays_of d xs) + length (arrays_of d ys)
          → length (if b then x ∷ arrays_of d (xs ++ ys) else arrays_of d (xs ++ ys)) ≡ length (if b then x ∷ arrays_of d xs else arrays_of d xs) + length (arrays_of d ys)
      go true h = omega arith
      go false h = h

  depth_next : (j : ℕ) → j < i → depth_of d (j + 1) i ≡ count (is_array (fields_at d j) && why.encloses (fields_at d j) j i) + depth_of d j i
  unfolding arrays_of
  depth_next j l =
      ap (λ (js : List ℕ). length (arrays_of d js)) (to_next d j i) ∙ arrays_more (nests_to d j i) _
      ∙ rw (encloses_is j l) (go (is_array (fields_at d j)) refl (why.encloses (fields_at d j) j i) (is_choice (fields_at d j)))
    where
      go : (a : Bool) → is_array (fields_at d j) ≡ a → (e c : Bool)
          → depth_of d j i + length (arrays_of d (if (a || c) && e then j ∷ [] else [])) ≡ count (a && e) + depth_of d j i
      go true is true c = rw is (omega arith)
      go true is false c = omega arith
      go false is true true = rw is (omega arith)
      go false is true false = omega arith
      go false is false true = omega arith
      go false is false false = omega arith

  pub depth_is : (k : ℕ) → k ≤ i → why.arrays_round d k i ≡ depth_of d k i
  unfolding why.arrays_round nests_in arrays_of
  depth_is zero l = refl
  depth_is (suc j) l =
      let e : j + 1 ≡ suc j = omega arith in
      ap (λ (n : ℕ). count (is_array (fields_at d j) && why.encloses (fields_at d j) j i) + n) (depth_is j (omega arith)) ∙ sym (depth_next j (omega arith)) ∙ rw e

module _ (d : List ℕ) (v : Numbers) (q : ElementName) where
  abbrev i : ℕ
  i = q.item

  -- a branch taken, in either's words
  taken_is : (j : ℕ) → j < i → why.encloses (fields_at d j) j i ≡ true → why.is_taken d v q.item j ≡ in_chosen d v j i
  unfolding in_branch branches_in if_branches taken in_chosen
  taken_is j l inside = go (0 <? value v (fields_at d j))
    where
      f : Fields
      f = fields_at d j

      within : i < j + 1 + f.first + f.second
      within = ltb-true i (j + 1 + f.first + f.second) inside

      go : (b : Bool)
          → in_branch j (if b then record { skip = 0; items = f.first } else record { skip = f.first; items = f.second }) i
          ≡ (if b then i <? j + 1 + f.first else j + 1 + f.first ≤? i)
      go true = let z : j + 1 + 0 ≡ j + 1 = omega arith in rw (z, le-leb (j + 1) i (omega arith))
      go false = rw (lt-ltb i (j + 1 + f.first + f.second) within) (and_true (j + 1 + f.first ≤? i))
        where
          and_true : (b : Bool) → (b && true) ≡ b
          and_true true = refl
          and_true false = refl

  -- THE TESTS COME TO WHAT OUR SEARCH COMES TO, among the n items from `at` on
  abbrev nest_tests : (n at : ℕ) → List (Option Refusal)
  nest_tests n at = map (at_nest d v q) (nests_in d n at i)

  way_is : (n at k : ℕ) → at + n ≤ i → k ≡ depth_of d at i → or_nothing (first_of (nest_tests n at)) ≡ in_the_way d v q.item (subscripts_of q) n at k
  unfolding nests_in first_of or_nothing at_nest given is_open told_at
  way_is zero at k l e = sym (way_none d v i (subscripts_of q) at k)
  way_is (suc n) at k l e =
      rw (encloses_is d i at (omega arith), way_step d v i (subscripts_of q) n at k)
      (go (is_array f) refl (why.encloses f at i) refl (is_choice f) refl (λ x h. way_is n (at + 1) x (omega arith) (h ∙ sym (depth_next d i at (omega arith)))))
    where
      f : Fields
      f = fields_at d at

      go : (a : Bool) → is_array f ≡ a → (b : Bool) → why.encloses f at i ≡ b → (c : Bool) → is_choice f ≡ c
          → ((x : ℕ) → x ≡ count (is_array f && why.encloses f at i) + depth_of d at i → or_nothing (first_of (nest_tests n (at + 1))) ≡ in_the_way d v q.item (subscripts_of q) n (at + 1) x)
          → or_nothing (first_of (map (at_nest d v q) (if (a || c) && b then at ∷ nests_in d n (at + 1) i else nests_in d n (at + 1) i)))
          ≡ (if a && b then (if why.is_below d v (subscripts_of q) at k then in_the_way d v q.item (subscripts_of q) n (at + 1) (k + 1) else subscript_too_large k)
          else if c && b then (if why.is_taken d v q.item at then in_the_way d v q.item (subscripts_of q) n (at + 1) k else branch_not_chosen) else in_the_way d v q.item (subscripts_of q) n (at + 1) k)
      go true is true en c ch rest = rw (is, ← e) (below (why.is_below d v (subscripts_of q) at k))
        where
          below : (b : Bool) → or_nothing (first_of (given (not b) (subscript_too_large k) ∷ nest_tests n (at + 1))) ≡ (if b then in_the_way d v q.item (subscripts_of q) n (at + 1) (k + 1) else subscript_too_large k)
          below true = rest (k + 1) (rw (is, en) (omega arith))
          below false = refl
      go true is false en true ch rest = rest k (rw (is, en) (omega (arith, e)))
      go true is false en false ch rest = rest k (rw (is, en) (omega (arith, e)))
      go false is true en true ch rest = rw is (chosen (why.is_taken d v q.item at) (in_chosen d v at i) (taken_is at (omega arith) en))
        where
          chosen : (b c : Bool) → b ≡ c → or_nothing (first_of (given (not c) branch_not_chosen ∷ nest_tests n (at + 1))) ≡ (if b then in_the_way d v q.item (subscripts_of q) n (at + 1) k else branch_not_chosen)
          chosen true true h = rest k (rw is (omega (arith, e)))
          chosen true false h = absurd (true≢false h)
          chosen false true h = absurd (true≢false (sym h))
          chosen false false h = refl
      go false is false en true ch rest = rest k (rw is (omega (arith, e)))
      go false is true en false ch rest = rest k (rw is (omega (arith, e)))
      go false is false en false ch rest = rest k (rw is (omega (arith, e)))

  -- all of it: the refusal given is why there is none
  why_is : (number : Bool) → or_nothing (first_of (causes_of number d v q)) ≡ why_none number d v q
  unfolding causes_of why_none first_of or_nothing given nests_in arrays_of
  why_is number =
      let z : 0 + i ≤ i = omega arith in
      rw (depth_is d i i (omega arith)) (go (q.item <? item_count d) (is_element (fields_at d i)) number (is_uint (fields_at d i)) (is_counted d q) (way_is i 0 0 z refl))
    where
      go : (t e n u c : Bool) → or_nothing (first_of (nest_tests i 0)) ≡ in_the_way d v q.item (subscripts_of q) i 0 0
          → or_nothing (first_of (given (not (t && e)) not_an_element ∷ given (n && not u) not_a_number ∷ given (not c) subscript_count ∷ nest_tests i 0))
          ≡ (if not (t && e) then not_an_element else if not (not n || t && u) then not_a_number else if not c then subscript_count else in_the_way d v q.item (subscripts_of q) i 0 0)
      go false e n u c h = refl
      go true false n u c h = refl
      go true true true false c h = refl
      go true true true true false h = refl
      go true true true true true h = h
      go true true false u false h = refl
      go true true false u true h = h

  pub why_given : (number : Bool) (r : Refusal) → first_of (causes_of number d v q) ≡ some r → why_none number d v q ≡ r
  unfolding or_nothing
  why_given number r e = sym (why_is number) ∙ ap or_nothing e

  -- NONE IS GIVEN exactly where there is such an element
  nothing_more : (b : Bool) (r : Refusal) (rest : List (Option Refusal)) → is_nothing (first_of (given (not b) r ∷ rest)) ≡ (b && is_nothing (first_of rest))
  unfolding first_of given is_nothing
  nothing_more true r rest = refl
  nothing_more false r rest = refl

  -- among the n items from `at` on, with k ARRAYs before them
  open_is : (n at k : ℕ) → at + n ≤ i → k ≡ depth_of d at i → k + length (arrays_of d (nests_in d n at i)) ≤ length (subscripts_of q)
      → (all_below d v (arrays_of d (nests_in d n at i)) (drop k (subscripts_of q)) && all_chosen d v i (nests_in d n at i)) ≡ is_nothing (first_of (nest_tests n at))
  unfolding nests_in arrays_of all_below all_chosen first_of is_nothing at_nest is_open
  open_is zero at k l e few = refl
  open_is (suc n) at k l e few =
      go (is_array f) refl (encloses d at i) refl (is_choice f) few
      (λ x h. open_is n (at + 1) x (omega arith) (h ∙ sym (depth_next d i at (omega arith) ∙ rw (← encloses_is d i at (omega arith)))))
    where
      f : Fields
      f = fields_at d at

      rest : List ℕ
      rest = nests_in d n (at + 1) i

      -- what is said of the rest, x ARRAYs further on
      Rest : (x : ℕ) → Type 0
      Rest x = x + length (arrays_of d rest) ≤ length (subscripts_of q)
          → (all_below d v (arrays_of d rest) (drop x (subscripts_of q)) && all_chosen d v i rest) ≡ is_nothing (first_of (nest_tests n (at + 1)))

      Here : List ℕ → Type 0
      Here js = (all_below d v (arrays_of d js) (drop k (subscripts_of q)) && all_chosen d v i js) ≡ is_nothing (first_of (map (at_nest d v q) js))

      -- an ARRAY that encloses it
      below : is_array f ≡ true → k + length (arrays_of d (at ∷ rest)) ≤ length (subscripts_of q) → Rest (suc k) → Here (at ∷ rest)
      below is few later =
          let more = rw is at few in
          let inside : k < length (subscripts_of q) = omega arith in
          rw (is, drop-cons (subscripts_of q) k 0 inside, ← e)
          (go (get_or (subscripts_of q) k 0 <? value v f) (all_below d v (arrays_of d rest) (drop (suc k) (subscripts_of q))) (all_chosen d v i rest) (is_nothing (first_of (nest_tests n (at + 1)))) (later (omega arith)) ∙ sym (nothing_more (get_or (subscripts_of q) k 0 <? value v f) (told_at d q at) (nest_tests n (at + 1))))
        where
          go : (b x y z : Bool) → (x && y) ≡ z → (b && x && y) ≡ (b && z)
          go true x y z h = h
          go false x y z h = refl

      -- a choice that does
      chosen : is_array f ≡ false → Rest k → k + length (arrays_of d rest) ≤ length (subscripts_of q) → Here (at ∷ rest)
      chosen is later few = rw is (go (in_chosen d v at i) (all_below d v (arrays_of d rest) (drop k (subscripts_of q))) (all_chosen d v i rest) (is_nothing (first_of (nest_tests n (at + 1)))) (later few) ∙ sym (nothing_more (in_chosen d v at i) (told_at d q at) (nest_tests n (at + 1))))
        where
          go : (b x y z : Bool) → (x && y) ≡ z → (x && (b && y)) ≡ (b && z)
          go true x y z h = h
          go false x y z h = and-false x

      go : (a : Bool) → is_array f ≡ a → (b : Bool) → encloses d at i ≡ b → (c : Bool)
          → k + length (arrays_of d (if (a || c) && b then at ∷ rest else rest)) ≤ length (subscripts_of q)
          → ((x : ℕ) → x ≡ count (is_array f && encloses d at i) + depth_of d at i → Rest x) → Here (if (a || c) && b then at ∷ rest else rest)
      go true is true en c few later = below is few (later (suc k) (rw (is, en) (omega (arith, e))))
      go true is false en c few later = later k (rw (is, en) (omega (arith, e))) few
      go false is true en true few later = let less = rw is at few in chosen is (later k (rw is (omega (arith, e)))) less
      go false is false en true few later = later k (rw is (omega (arith, e))) few
      go false is true en false few later = later k (rw is (omega (arith, e))) few
      go false is false en false few later = later k (rw is (omega (arith, e))) few

  and_true : (b : Bool) → (b && true) ≡ b
  and_true true = refl
  and_true false = refl

  pub given_none : (number : Bool) → is_nothing (first_of (causes_of number d v q)) ≡ (exists d v q && not (is_other number d q))
  unfolding causes_of exists has_element first_of given is_nothing nests_in arrays_of
  given_none number =
      go (q.count ≤? 4) (i <? item_count d) (is_element (fields_at d i)) (length (subscripts_of q) =? length (arrays_round d i)) refl (is_other number d q)
    where
      all_open : (length (subscripts_of q) =? length (arrays_round d i)) ≡ true
          → (all_below d v (arrays_round d i) (subscripts_of q) && is_chosen d v i) ≡ is_nothing (first_of (nest_tests i 0))
      all_open m =
          let same = eqb-true (length (subscripts_of q)) (length (arrays_round d i)) m in
          open_is i 0 0 (omega arith) refl (omega arith)

      go : (f t e m : Bool) → (length (subscripts_of q) =? length (arrays_round d i)) ≡ m → (o : Bool)
          → is_nothing (first_of (given (not (t && e)) not_an_element ∷ given o not_a_number ∷ given (not (f && m)) subscript_count ∷ nest_tests i 0))
          ≡ ((f && (t && e && m && all_below d v (arrays_round d i) (subscripts_of q) && is_chosen d v i)) && not o)
      go false false e m h o = refl
      go false true false m h o = refl
      go false true true m h true = refl
      go false true true m h false = refl
      go true false e m h o = refl
      go true true false m h o = refl
      go true true true m h true = sym (and-false (m && all_below d v (arrays_round d i) (subscripts_of q) && is_chosen d v i))
      go true true true false h false = refl
      go true true true true h false = sym (and_true (all_below d v (arrays_round d i) (subscripts_of q) && is_chosen d v i) ∙ all_open h)

  -- THE FIRST IN THE WAY
  -- an item is round it, by the test
  round_is : (j : ℕ) → Exactly ((nests (fields_at d j) && encloses d j i) ≡ true) (NestRound d j i)
  unfolding encloses
  round_is j = (
    λ h.
        let b = (and-eq-true_iff (nests (fields_at d j)) (j <? i && i <? end_of d j)).0 h in
        let c = (and-eq-true_iff (j <? i) (i <? end_of d j)).0 b.1 in
        ((ltb-true j i c.0, ltb-true i (end_of d j) c.1), b.0),
    λ h. rw (h.1, lt-ltb j i h.0.0, lt-ltb i (end_of d j) h.0.1),
  )

  -- item j, of the n from `at` on
  record FirstShut (n at : ℕ) (j : ℕ) : Type 0 where
    from : at ≤ j
    to : j < at + n
    round : NestRound d j i
    shut : is_open d v q j ≡ false
    outside : (a : ℕ) → at ≤ a → a < j → NestRound d a i → is_open d v q a ≡ true

  -- one item more before them, which isn't in the way
  one_before : (n at j : ℕ) → (NestRound d at i → is_open d v q at ≡ true) → FirstShut n (at + 1) j → FirstShut (suc n) at j
  one_before n at j here h = record { from = omega (arith, h.from); to = omega (arith, h.to); round = h.round; shut = h.shut; outside = λ a l m r. go a (ℕ_discrete a at) l m r }
    where
      go : (a : ℕ) → Dec (a ≡ at) → at ≤ a → a < j → NestRound d a i → is_open d v q a ≡ true
      go a (yes e) l m r = rw e (here (rw e at r))
      go a (no e) l m r = h.outside a (omega arith) m r

  first_shut : (n at : ℕ) (r : Refusal) → first_of (nest_tests n at) ≡ some r → (j : ℕ) × FirstShut n at j × (r ≡ told_at d q j)
  unfolding nests_in first_of at_nest given
  first_shut zero at r e = clash (cc)
  first_shut (suc n) at r e = go (nests (fields_at d at) && encloses d at i) refl e (first_shut n (at + 1) r)
    where
      Later : Type 0
      Later = first_of (nest_tests n (at + 1)) ≡ some r → (j : ℕ) × FirstShut n (at + 1) j × (r ≡ told_at d q j)

      on : (NestRound d at i → is_open d v q at ≡ true) → (j : ℕ) × FirstShut n (at + 1) j × (r ≡ told_at d q j) → (j : ℕ) × FirstShut (suc n) at j × (r ≡ told_at d q j)
      on here x = (x.0, one_before n at x.0 here x.1, x.2)

      here : (b : Bool) → is_open d v q at ≡ b → NestRound d at i → first_of (given (not b) (told_at d q at) ∷ nest_tests n (at + 1)) ≡ some r → Later → (j : ℕ) × FirstShut (suc n) at j × (r ≡ told_at d q j)
      here true o round e later = on (λ x. o) (later e)
      here false o round e later = (at, record { from = omega arith; to = omega arith; round = round; shut = o; outside = λ a l m x. absurd (omega arith) }, cc)

      go : (b : Bool) → (nests (fields_at d at) && encloses d at i) ≡ b
          → first_of (map (at_nest d v q) (if b then at ∷ nests_in d n (at + 1) i else nests_in d n (at + 1) i)) ≡ some r → Later → (j : ℕ) × FirstShut (suc n) at j × (r ≡ told_at d q j)
      go false not e later = on (λ x. absurd (true≢false (sym ((round_is at).1 x) ∙ not))) (later e)
      go true is e later = here (is_open d v q at) refl ((round_is at).0 is) e later

  shut_first : (n at j : ℕ) → FirstShut n at j → first_of (nest_tests n at) ≡ some (told_at d q j)
  unfolding nests_in first_of at_nest given
  shut_first zero at j h = absurd (omega (arith, h.from, h.to))
  shut_first (suc n) at j h = go (ℕ_discrete at j) (nests (fields_at d at) && encloses d at i) refl (λ e. shut_first n (at + 1) j (less e))
    where
      less : (at ≡ j → ⊥) → FirstShut n (at + 1) j
      less e = record { from = omega (arith, h.from); to = omega (arith, h.to); round = h.round; shut = h.shut; outside = λ a l m r. h.outside a (omega arith) m r }

      go : Dec (at ≡ j) → (b : Bool) → (nests (fields_at d at) && encloses d at i) ≡ b
          → ((at ≡ j → ⊥) → first_of (nest_tests n (at + 1)) ≡ some (told_at d q j))
          → first_of (map (at_nest d v q) (if b then at ∷ nests_in d n (at + 1) i else nests_in d n (at + 1) i)) ≡ some (told_at d q j)
      go (yes e) true is later = rw (e, h.shut)
      go (yes e) false not later = absurd (true≢false (sym ((round_is at).1 (rw (← e) at h.round)) ∙ not))
      go (no e) false not later = later e
      go (no e) true is later = rw (h.outside at (omega arith) (omega (arith, h.from)) ((round_is at).0 is)) (later e)

  -- none of them is
  none_shut : (n at : ℕ) → Exactly (first_of (nest_tests n at) ≡ none) ((a : ℕ) → at ≤ a → a < at + n → NestRound d a i → is_open d v q a ≡ true)
  unfolding nests_in first_of at_nest given
  none_shut zero at = (λ e a l m r. absurd (omega arith), λ h. refl)
  none_shut (suc n) at = go (nests (fields_at d at) && encloses d at i) refl (is_open d v q at) refl (none_shut n (at + 1))
    where
      Later : Type 0
      Later = (a : ℕ) → at + 1 ≤ a → a < at + 1 + n → NestRound d a i → is_open d v q a ≡ true

      All : Type 0
      All = (a : ℕ) → at ≤ a → a < at + suc n → NestRound d a i → is_open d v q a ≡ true

      on : (NestRound d at i → is_open d v q at ≡ true) → Later → All
      on here later a l m r = by (ℕ_discrete a at)
        where
          by : Dec (a ≡ at) → is_open d v q a ≡ true
          by (yes e) = rw e (here (rw e at r))
          by (no e) = later a (omega arith) (omega arith) r

      less : All → Later
      less h a l m r = h a (omega arith) (omega arith) r

      go : (b : Bool) → (nests (fields_at d at) && encloses d at i) ≡ b → (o : Bool) → is_open d v q at ≡ o → Exactly (first_of (nest_tests n (at + 1)) ≡ none) Later
          → Exactly (first_of (map (at_nest d v q) (if b then at ∷ nests_in d n (at + 1) i else nests_in d n (at + 1) i)) ≡ none) All
      go false not o e rest = (λ h. on (λ r. absurd (true≢false (sym ((round_is at).1 r) ∙ not))) (rest.0 h), λ h. rest.1 (less h))
      go true is true e rest = rw e (λ h. on (λ r. e) (rest.0 h), λ h. rest.1 (less h))
      go true is false e rest = rw e (λ h. clash (cc), λ h. absurd (true≢false (sym (h at (omega arith) (omega arith) ((round_is at).0 is)) ∙ e)))

  -- CAUSE BY CAUSE
  module _ (number : Bool) where
    abbrev X : Option Refusal
    X = first_of (causes_of number d v q)

    -- the one that is told
    data Told : Type 0 where
      item : is_one d q ≡ false → X ≡ some not_an_element → Told
      kind : is_one d q ≡ true → is_other number d q ≡ true → X ≡ some not_a_number → Told
      many : is_one d q ≡ true → is_other number d q ≡ false → is_counted d q ≡ false → X ≡ some subscript_count → Told
      round : Addressed number d q → X ≡ first_of (nest_tests i 0) → Told

    told : Told
    unfolding causes_of first_of given
    told = go (is_one d q) refl (is_other number d q) refl (is_counted d q) refl
      where
        go : (a : Bool) → is_one d q ≡ a → (b : Bool) → is_other number d q ≡ b → (c : Bool) → is_counted d q ≡ c → Told
        go false e b f c g = item e (rw e)
        go true e true f c g = kind e f (rw (e, f))
        go true e false f false g = many e f g (rw (e, f, g))
        go true e false f true g = round (record { one = e; asked = f; counted = g }) (rw (e, f, g))

    -- refusals are told apart by their numbers
    abbrev number_in : Option Refusal → ℕ
    number_in none = 0
    number_in (some r) = r.number

    -- of what stands round it, 23 or 25
    data AtRound (j : ℕ) : Type 0 where
      branch : (told_at d q j).number ≡ 23 → is_array (fields_at d j) ≡ false → AtRound j
      array : (told_at d q j).number ≡ 25 → is_array (fields_at d j) ≡ true → AtRound j

    at_round : (j : ℕ) → AtRound j
    unfolding told_at
    at_round j = go (is_array (fields_at d j)) refl
      where
        go : (b : Bool) → is_array (fields_at d j) ≡ b → AtRound j
        go true e = array (rw e) e
        go false e = branch (rw e) e

    -- a refusal of another number is none of theirs
    not_round : (r : Refusal) → X ≡ first_of (nest_tests i 0) → X ≡ some r → (r.number ≡ 23 → ⊥) → (r.number ≡ 25 → ⊥) → ⊥
    not_round r e g h k = go (first_shut i 0 r (sym e ∙ g))
      where
        go : (j : ℕ) × FirstShut i 0 j × (r ≡ told_at d q j) → ⊥
        go (j, s, t) = by (at_round j)
          where
            n : r.number ≡ (told_at d q j).number
            n = ap (λ (x : Refusal). x.number) t

            by : AtRound j → ⊥
            by (branch x a) = h (n ∙ x)
            by (array x a) = k (n ∙ x)

    -- in the way, of all items before it
    in_the_way_lem : (j : ℕ) → Exactly (FirstShut i 0 j) (InTheWay d v q j)
    in_the_way_lem j = (
      λ h. record { round = h.round; shut = h.shut; outside = λ a l r. h.outside a (omega arith) l r },
      λ h. record { from = omega arith; to = omega (arith, h.round.0.0); round = h.round; shut = h.shut; outside = λ a z l r. h.outside a l r },
    )

    -- two refusals of X are one
    same : (r s : Refusal) → X ≡ some r → X ≡ some s → r.number ≡ s.number
    same r s e f = ap number_in (sym e ∙ f)

    nothing_none : (x : Option Refusal) → is_nothing x ≡ true → x ≡ none
    unfolding is_nothing
    nothing_none none e = refl
    nothing_none (some r) e = absurd (true≢false (sym e))

    none_nothing : (x : Option Refusal) → x ≡ none → is_nothing x ≡ true
    unfolding is_nothing
    none_nothing x e = rw e

    granted : Exactly (X ≡ none) ((exists d v q ≡ true) × (is_other number d q ≡ false))
    granted = (
      λ e.
          let b = (and-eq-true_iff (exists d v q) (not (is_other number d q))).0 (sym (given_none number) ∙ none_nothing X e) in
          (b.0, not-true (is_other number d q) b.1),
      λ h. nothing_none X (given_none number ∙ rw (h.0, h.1)),
    )

    -- where all is well up to what stands round it
    by_round : Addressed number d q → X ≡ first_of (nest_tests i 0)
    by_round a = go told
      where
        go : Told → X ≡ first_of (nest_tests i 0)
        go (item h x) = absurd (true≢false (sym a.one ∙ h))
        go (kind h k x) = absurd (true≢false (sym k ∙ a.asked))
        go (many h k m x) = absurd (true≢false (sym a.counted ∙ m))
        go (round b x) = x

    clear : Exactly (X ≡ none) (Clear number d v q)
    clear = (λ e. go told e, λ h. by_round h.addressed ∙ (none_shut i 0).1 (λ a l m r. h.way a r))
      where
        go : Told → X ≡ none → Clear number d v q
        go (item h x) e = clash (cc)
        go (kind h k x) e = clash (cc)
        go (many h k m x) e = clash (cc)
        go (round a x) e = record { addressed = a; way = λ j r. (none_shut i 0).0 (sym x ∙ e) j (omega arith) (omega (arith, r.0.0)) r }

    twenty_two_lem : Exactly (X ≡ some not_an_element) (is_one d q ≡ false)
    twenty_two_lem = (λ e. go told e, back told)
      where
        go : Told → X ≡ some not_an_element → is_one d q ≡ false
        go (item h x) e = h
        go (kind h k x) e = absurd (omega (arith, same not_an_element not_a_number e x))
        go (many h k m x) e = absurd (omega (arith, same not_an_element subscript_count e x))
        go (round a x) e = absurd (not_round not_an_element x e (λ z. omega arith) (λ z. omega arith))

        back : Told → is_one d q ≡ false → X ≡ some not_an_element
        back (item h x) e = x
        back (kind h k x) e = absurd (true≢false (sym h ∙ e))
        back (many h k m x) e = absurd (true≢false (sym h ∙ e))
        back (round a x) e = absurd (true≢false (sym a.one ∙ e))

    twenty_six_lem : Exactly (X ≡ some not_a_number) ((is_one d q ≡ true) × (is_other number d q ≡ true))
    twenty_six_lem = (λ e. go told e, back told)
      where
        go : Told → X ≡ some not_a_number → (is_one d q ≡ true) × (is_other number d q ≡ true)
        go (item h x) e = absurd (omega (arith, same not_a_number not_an_element e x))
        go (kind h k x) e = (h, k)
        go (many h k m x) e = absurd (omega (arith, same not_a_number subscript_count e x))
        go (round a x) e = absurd (not_round not_a_number x e (λ z. omega arith) (λ z. omega arith))

        back : Told → (is_one d q ≡ true) × (is_other number d q ≡ true) → X ≡ some not_a_number
        back (item h x) e = absurd (true≢false (sym e.0 ∙ h))
        back (kind h k x) e = x
        back (many h k m x) e = absurd (true≢false (sym e.1 ∙ k))
        back (round a x) e = absurd (true≢false (sym e.1 ∙ a.asked))

    twenty_four_lem : Exactly (X ≡ some subscript_count) ((is_one d q ≡ true) × (is_other number d q ≡ false) × (is_counted d q ≡ false))
    twenty_four_lem = (λ e. go told e, back told)
      where
        go : Told → X ≡ some subscript_count → (is_one d q ≡ true) × (is_other number d q ≡ false) × (is_counted d q ≡ false)
        go (item h x) e = absurd (omega (arith, same subscript_count not_an_element e x))
        go (kind h k x) e = absurd (omega (arith, same subscript_count not_a_number e x))
        go (many h k m x) e = (h, k, m)
        go (round a x) e = absurd (not_round subscript_count x e (λ z. omega arith) (λ z. omega arith))

        back : Told → (is_one d q ≡ true) × (is_other number d q ≡ false) × (is_counted d q ≡ false) → X ≡ some subscript_count
        back (item h x) e = absurd (true≢false (sym e.0 ∙ h))
        back (kind h k x) e = absurd (true≢false (sym k ∙ e.1))
        back (many h k m x) e = x
        back (round a x) e = absurd (true≢false (sym a.counted ∙ e.2))

    -- and 23 or 25 is told
    record Round (r : Refusal) : Type 0 where
      addressed : Addressed number d q
      nest : ℕ
      first : InTheWay d v q nest
      is : r ≡ told_at d q nest

    round_told : (r : Refusal) → (22 < r.number) → (r.number ≡ 24 → ⊥) → (r.number ≡ 26 → ⊥) → X ≡ some r → Round r
    round_told r l m n e = go told
      where
        go : Told → Round r
        go (item h x) = absurd (omega (arith, same r not_an_element e x))
        go (kind h k x) = absurd (n (same r not_a_number e x))
        go (many h k o x) = absurd (m (same r subscript_count e x))
        go (round a x) = let s = first_shut i 0 r (sym x ∙ e) in record { addressed = a; nest = s.0; first = (in_the_way_lem s.0).0 s.1; is = s.2 }

    twenty_three_lem : Exactly (X ≡ some branch_not_chosen) (Unchosen number d v q)
    unfolding told_at
    twenty_three_lem = (λ e. go (round_told branch_not_chosen (omega arith) (λ z. omega arith) (λ z. omega arith) e), back)
      where
        go : Round branch_not_chosen → Unchosen number d v q
        go r = by (at_round r.nest)
          where
            by : AtRound r.nest → Unchosen number d v q
            by (branch x a) = record { addressed = r.addressed; item = r.nest; branch = a; first = r.first }
            by (array x a) = absurd (omega (arith, ap (λ (y : Refusal). y.number) r.is, x))

        back : Unchosen number d v q → X ≡ some branch_not_chosen
        back u = by_round u.addressed ∙ shut_first i 0 u.item ((in_the_way_lem u.item).1 u.first) ∙ rw u.branch

    twenty_five_lem : (k : ℕ) → Exactly (X ≡ some (subscript_too_large k)) (TooLarge number d v q k)
    unfolding told_at
    twenty_five_lem k = (λ e. go (round_told (subscript_too_large k) (omega arith) (λ z. omega arith) (λ z. omega arith) e), back)
      where
        go : Round (subscript_too_large k) → TooLarge number d v q k
        go r = by (at_round r.nest)
          where
            by : AtRound r.nest → TooLarge number d v q k
            by (branch x a) = absurd (omega (arith, ap (λ (y : Refusal). y.number) r.is, x))
            by (array x a) =
                record {
                  addressed = r.addressed;
                  item = r.nest;
                  array = a;
                  depth = sym (ap (λ (y : Refusal). y.depth) (rw a at r.is));
                  first = r.first;
                }

        back : TooLarge number d v q k → X ≡ some (subscript_too_large k)
        back u = by_round u.addressed ∙ shut_first i 0 u.item ((in_the_way_lem u.item).1 u.first) ∙ rw (u.array, u.depth)

    -- the first cause is told as the statement says
    pub causes_say : CausesSay number d v q (first_of (causes_of number d v q))
    causes_say =
        record { clear = clear; granted = granted; twenty_two = twenty_two_lem; twenty_six = twenty_six_lem; twenty_four = twenty_four_lem; twenty_three = twenty_three_lem; twenty_five = twenty_five_lem }
