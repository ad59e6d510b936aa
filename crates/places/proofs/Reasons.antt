-- Why there is no such element, item by item: how many ARRAYs are counted, and that what is left of the items leads to the same refusal as all of them. Assumes nothing.
use Rattle.std.specs.Prelude.{Result, Ok, Err, if◌then◌else◌}
use Prim.Native.Nat.{ℕ, suc, ◌+◌, ◌-◌, ◌<◌, ◌≤◌}
use mathlib.Core.Path.{◌≡◌, refl, sym, ◌∙◌, ap}
use mathlib.Core.Bool.{Bool, true, false, ◌&&◌}
use mathlib.Core.List.{List}
use lib.ListN.{get_or}
use borrow.Author.Tests.{lt-ltb, le-ltb, lt-leb, le-leb}
use native.Mathlib.Decide.{dec_lt}
use native.Mathlib.Omega.{arith}
use Rattle.meaning.specs.Basics.{◌<?◌}
use Rattle.meaning.specs.declared.ElementName.{ElementName}
use Rattle.meaning.specs.declared.Fields.{Fields}
use Rattle.meaning.specs.declared.Inner.{Inner}
use Rattle.meaning.specs.declared.Refusal.{Refusal}
use Rattle.meaning.specs.Causes.{encloses, arrays_round, in_branch, is_one, subscripts_of, right_count, is_below, is_taken, in_the_way, suits, why_none}
use Rattle.meaning.specs.Description.{item_count, fields_at, is_array, is_choice, count, malformed}
use Rattle.meaning.specs.Layout.{Numbers, value, branches_in, taken}
use Rattle.meaning.specs.Numbers.{nothing_refused, not_an_element, branch_not_chosen, subscript_count, subscript_too_large, not_a_number}
use Rattle.meaning.proofs.Causes.{way_none, way_step}
use Rattle.meaning.proofs.Either.{tested}
use Rattle.items.specs.declared.Read.{Read}
use Rattle.items.specs.Read.{read_at}
use Rattle.items.proofs.ReadLaws.{fields_read, next_read}
use Rattle.places.specs.Reasons.{step_in}

-- what is said of an item that is read, where nothing is said of one past the last
pub read_test : (test : Fields → Bool) → test malformed ≡ false → (d : List ℕ) (at : ℕ) {f : Fields} → f ≡ (read_at d at).fields → test f ≡ (at <? item_count d && test (fields_at d at))
unfolding read_at
read_test test none d at {f} e = go (at <? item_count d) refl
  where
    go : (b : Bool) → (at <? item_count d) ≡ b → test f ≡ (b && test (fields_at d at))
    go true g = rw (e, g)
    go false g = rw (e, g) none

-- HOW MANY ARRAYS STAND ROUND AN ITEM: n among the items before `at`
pub record Counted (d : List ℕ) (i at n : ℕ) : Type 0 where
  pub upto : at ≤ i
  pub few : n ≤ at
  pub is : n ≡ arrays_round d at i

module _ (d : List ℕ) (i : ℕ) where
  pub counted_none : Counted d i 0 0
  unfolding arrays_round
  counted_none = record { upto = omega arith; few = omega arith; is = refl }

  arrays_step : (at : ℕ) → arrays_round d (at + 1) i ≡ count (is_array (fields_at d at) && encloses (fields_at d at) at i) + arrays_round d at i
  unfolding arrays_round
  arrays_step at = let e : at + 1 ≡ suc at = omega arith in ap (λ (k : ℕ). arrays_round d k i) e

  pub counted_next : i < item_count d → {at n x : ℕ} {r : Read} → Counted d i at n → at < i → r ≡ read_at d at → x ≤ 1
      → x ≡ count (is_array r.fields && encloses r.fields at i) → Counted d i (at + 1) (n + x)
  counted_next whole {at} {n} {x} {r} h l e one g =
      let f = fields_read d at (omega arith) e in
      let swap : n + x ≡ x + n = omega arith in
      record {
        upto = omega arith;
        few = omega (arith, h.few);
        is = rw (swap, g, f, h.is) (sym (arrays_step at));
      }

  pub counted_all : {at n : ℕ} → Counted d i at n → i ≤ at → n ≡ arrays_round d i i
  counted_all {at} h l = let e : at ≡ i = omega (arith, h.upto) in h.is ∙ rw e

-- A STEP: what the item read at a place is to the element asked for, where k ARRAYs stand outside
module _ (d : List ℕ) (v : Numbers) (q : ElementName) (at k : ℕ) (l : at < item_count d) {r : Read} (e : r ≡ read_at d at)
    {round : Bool} (is : round ≡ encloses r.fields at q.item) {x : ℕ} (valued : x ≡ value v r.fields) where
  abbrev f : Fields
  f = fields_at d at

  value_is : x ≡ value v f
  value_is = valued ∙ ap (value v) (fields_read d at l e)

  -- one that encloses it
  round_is : (test : Fields → Bool) {b : Bool} → b ≡ (test r.fields && round) → b ≡ (test f && encloses f at q.item)
  round_is test h = h ∙ rw (is, fields_read d at l e)

  -- an ARRAY
  module _ {b : Bool} (array : b ≡ (is_array r.fields && round)) where
    pub step_below : b ≡ true → {s : ℕ} → s ≡ get_or (subscripts_of q) k 0 → s < x → Ok (k + 1) ≡ step_in d v q at k
    unfolding step_in
    step_below t {s} g h = rw (sym (round_is is_array array) ∙ t, lt-ltb (get_or (subscripts_of q) k 0) (value v f) (omega (arith, g, value_is)))

    pub step_large : b ≡ true → {s : ℕ} → s ≡ get_or (subscripts_of q) k 0 → x ≤ s → {w : Refusal} → w ≡ subscript_too_large k → Err w ≡ step_in d v q at k
    unfolding step_in
    step_large t {s} g h w = rw (w, sym (round_is is_array array) ∙ t, le-ltb (get_or (subscripts_of q) k 0) (value v f) (omega (arith, g, value_is)))

    -- or a choice
    module _ (no : b ≡ false) {o c : Bool} (chooses : o ≡ is_choice r.fields) (choice : c ≡ (o && round)) where
      choice_is : c ≡ (is_choice f && encloses f at q.item)
      choice_is = round_is is_choice (choice ∙ rw chooses)

      branch_is : {n : Inner} {t : Bool} → n ≡ taken (branches_in d r.fields r.next.at) x → t ≡ in_branch at n q.item → t ≡ is_taken d v q.item at
      branch_is g h = h ∙ rw (g, fields_read d at l e, next_read d at l e, value_is)

      pub step_taken : c ≡ true → {n : Inner} {t : Bool} → n ≡ taken (branches_in d r.fields r.next.at) x → t ≡ in_branch at n q.item → t ≡ true → Ok k ≡ step_in d v q at k
      unfolding step_in
      step_taken y g h t = rw (sym (round_is is_array array) ∙ no, sym choice_is ∙ y, sym (branch_is g h) ∙ t)

      pub step_unchosen : c ≡ true → {n : Inner} {t : Bool} → n ≡ taken (branches_in d r.fields r.next.at) x → t ≡ in_branch at n q.item → t ≡ false
          → Err branch_not_chosen ≡ step_in d v q at k
      unfolding step_in
      step_unchosen y g h t = rw (sym (round_is is_array array) ∙ no, sym choice_is ∙ y, sym (branch_is g h) ∙ t)

      pub step_other : c ≡ false → Ok k ≡ step_in d v q at k
      unfolding step_in
      step_other y = rw (sym (round_is is_array array) ∙ no, sym choice_is ∙ y)

-- FROM THE OUTSIDE IN
module _ (d : List ℕ) (v : Numbers) (q : ElementName) where
  -- what is left of the items before the element's, from `at` on
  abbrev left : (at k : ℕ) → Refusal
  left at k = in_the_way d v q.item (subscripts_of q) (q.item - at) at k

  -- k ARRAYs stand outside item `at`
  pub record OnTheWay (at k : ℕ) : Type 0 where
    pub upto : at ≤ q.item
    pub few : k ≤ at
    pub leads : left at k ≡ in_the_way d v q.item (subscripts_of q) q.item 0 0

  pub way_ends : {at k : ℕ} → OnTheWay at k → q.item ≤ at → nothing_refused ≡ in_the_way d v q.item (subscripts_of q) q.item 0 0
  way_ends {at} {k} h l = let e : q.item - at ≡ 0 = omega (arith, h.upto) in sym (way_none d v q.item (subscripts_of q) at k) ∙ rw e at h.leads

  -- a step, and then what follows it
  abbrev follow : Result ℕ Refusal → (ℕ → Refusal) → Refusal
  follow (Ok k) next = next k
  follow (Err r) next = r

  left_step : (at k : ℕ) → at < q.item → left at k ≡ follow (step_in d v q at k) (left (at + 1))
  unfolding step_in
  left_step at k l =
      let e : q.item - at ≡ suc (q.item - (at + 1)) = omega arith in
      rw (e, way_step d v q.item (subscripts_of q) (q.item - (at + 1)) at k)
      (go (is_array (fields_at d at) && encloses (fields_at d at) at q.item) (is_below d v (subscripts_of q) at k) (is_choice (fields_at d at) && encloses (fields_at d at) at q.item) (is_taken d v q.item at)
      (left (at + 1)))
    where
      go : (a b c t : Bool) (next : ℕ → Refusal)
          → (if a then (if b then next (k + 1) else subscript_too_large k) else if c then (if t then next k else branch_not_chosen) else next k)
          ≡ follow (if a then (if b then Ok (k + 1) else Err (subscript_too_large k)) else if c then (if t then Ok k else Err branch_not_chosen) else Ok k) next
      go true true c t next = refl
      go true false c t next = refl
      go false b true true next = refl
      go false b true false next = refl
      go false b false t next = refl

  -- at most one ARRAY more
  abbrev OneMore : (k : ℕ) → Result ℕ Refusal → Type 0
  OneMore k (Ok j) = j ≤ k + 1
  OneMore k (Err r) = Unit {0}

  one_more : (at k : ℕ) → OneMore k (step_in d v q at k)
  unfolding step_in
  one_more at k =
      tested (OneMore k) (is_array (fields_at d at) && encloses (fields_at d at) at q.item) _ _
      (λ a. tested (OneMore k) (is_below d v (subscripts_of q) at k) _ _ (λ b. omega arith) (λ b. tt))
      (λ a.
      tested (OneMore k) (is_choice (fields_at d at) && encloses (fields_at d at) at q.item) _ _
      (λ c. tested (OneMore k) (is_taken d v q.item at) _ _ (λ t. omega arith) (λ t. tt)) (λ c. omega arith))

  pub way_past : {at k j : ℕ} {s : Result ℕ Refusal} → OnTheWay at k → at < q.item → s ≡ step_in d v q at k → s ≡ Ok j → {next : ℕ} → next ≡ at + 1 → OnTheWay next j
  way_past {at} {k} {j} h l e g n =
      let is : step_in d v q at k ≡ Ok j = sym e ∙ g in
      let more : j ≤ k + 1 = rw is at (one_more at k) in
      record { upto = omega arith; few = omega (arith, h.few); leads = rw n (sym (rw is at (left_step at k l)) ∙ h.leads) }

  pub way_stops : {at k : ℕ} {r : Refusal} {s : Result ℕ Refusal} → OnTheWay at k → at < q.item → s ≡ step_in d v q at k → s ≡ Err r → r ≡ in_the_way d v q.item (subscripts_of q) q.item 0 0
  way_stops {at} {k} {r} h l e g =
      let is : step_in d v q at k ≡ Err r = sym e ∙ g in
      sym (rw is at (left_step at k l)) ∙ h.leads

-- IN A BRANCH, counted from the choice on
module _ (at i : ℕ) (l : at < i) (c : Inner) where
  pub before_branch : i - at - 1 < c.skip → false ≡ in_branch at c i
  unfolding in_branch
  before_branch h = rw (lt-leb (at + 1 + c.skip) i (omega arith))

  pub from_branch : {b : Bool} → c.skip ≤ i - at - 1 → b ≡ (i - at - 1 - c.skip <? c.items) → b ≡ in_branch at c i
  unfolding in_branch
  from_branch {b} h e = e ∙ rw (le-leb (at + 1 + c.skip) i (omega arith)) (go (dec_lt (i - at - 1 - c.skip) c.items))
    where
      go : Dec (i - at - 1 - c.skip < c.items) → (i - at - 1 - c.skip <? c.items) ≡ (i <? at + 1 + c.skip + c.items)
      go (yes p) = lt-ltb _ _ p ∙ sym (lt-ltb i (at + 1 + c.skip + c.items) (omega arith))
      go (no p) = le-ltb (i - at - 1 - c.skip) c.items (omega arith) ∙ sym (le-ltb i (at + 1 + c.skip + c.items) (omega arith))

-- WHY THERE IS NONE: the tests one after another
module _ (number : Bool) (d : List ℕ) (v : Numbers) (q : ElementName) {one : Bool} (is_one_lem : one ≡ is_one d q) where
  pub not_one : one ≡ false → not_an_element ≡ why_none number d v q
  unfolding why_none
  not_one h = rw (sym is_one_lem ∙ h)

  module _ (h : one ≡ true) {suit : Bool} (is-suit : suit ≡ suits number d q) where
    pub not_number : suit ≡ false → not_a_number ≡ why_none number d v q
    unfolding why_none
    not_number g = rw (sym is_one_lem ∙ h, sym is-suit ∙ g)

    module _ (g : suit ≡ true) {right : Bool} (is_right : right ≡ right_count d q) where
      pub not_right : right ≡ false → subscript_count ≡ why_none number d v q
      unfolding why_none
      not_right k = rw (sym is_one_lem ∙ h, sym is-suit ∙ g, sym is_right ∙ k)

      pub by_round : right ≡ true → {w : Refusal} → w ≡ in_the_way d v q.item (subscripts_of q) q.item 0 0 → w ≡ why_none number d v q
      unfolding why_none
      by_round k e = e ∙ rw (sym is_one_lem ∙ h, sym is-suit ∙ g, sym is_right ∙ k)
