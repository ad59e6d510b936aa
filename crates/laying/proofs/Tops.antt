-- The tree of a passed description is sound, and nothing stray stands in it. Assumes nothing.
use Prim.Native.Nat.{ℕ, ◌+◌, ◌-◌, ◌<◌, ◌≤◌}
use mathlib.Core.Path.{◌≡◌, refl, sym}
use mathlib.Core.List.{List}
use mathlib.Core.Bool.{Bool, true, false, true≢false}
use borrow.Author.Tests.{le-leb, eqb-true}
use native.Mathlib.Omega.{arith}
use Rattle.meaning.specs.declared.Round.{Round}
use Rattle.meaning.specs.Description.{item_count, fields_at, is_table, is_element, is_array, nests, nested, count, inside, kind_of}
use Rattle.meaning.specs.Passed.{Passes, PassedLaws, end_of}
use Rattle.meaning.specs.Layout.{Node, Body, Arms, Tables, leaf, array, choice, stray, done, more, last_arm, arm, table, table_at, body_at}
use Rattle.meaning.specs.Layout.{tables_of, tree_of}
use Rattle.meaning.proofs.Passed.{passed_laws}
use Rattle.meaning.proofs.Ranges.{fields_range, sets_none}
use Rattle.meaning.proofs.Rules.{round_none, slot_none, slot_step}
use Rattle.laying.specs.Sound.{Known, set_known, none_known, FitBody, FitNode, FitArms, SoundBody, SoundNode, SoundArms, SoundTables, after_node, after_body}
use Rattle.laying.proofs.Bodies.{Same, same_next, runs}
use Rattle.laying.proofs.Nested.{Run, first_keeps, first_ends, first_body, rest_body}
use Rattle.laying.proofs.Steps.{tables_none, tables_step, by_items}

-- a TABLE at item `at`, with n items after it, is that table of the tree: it has one body
pub table_is : (d : List ℕ) (at n : ℕ) (rest : Tables) → is_table (fields_at d at) ≡ true → (fields_at d at).first ≤ n
    → table_at d (fields_at d at) at n rest ≡ table at (fields_at d at) (body_at 4 d (at + 1) (fields_at d at).first) rest
unfolding table_at
table_is d at n rest e h = rw (e, le-leb (fields_at d at).first n h)

pub table_one : (d : List ℕ) (at : ℕ) → is_table (fields_at d at) ≡ true → (fields_at d at).second ≡ 0
table_one d at e = (fields_range d at).one (omega (arith, eqb-true (kind_of (fields_at d at)) 1 e))

-- at the top level nothing stands round an item
abbrev pub top : (description : List ℕ) → Round
top d = record { limit = item_count d; tables = 0; nests = 0 }

-- a TABLE at item `at` of the top level, where κ is known
pub record TableAt (d : List ℕ) (at : ℕ) (κ : Known) : Type 0 where
  pub is : is_table (fields_at d at) ≡ true
  pub flat : nests (fields_at d at) ≡ false
  pub element : is_element (fields_at d at) ≡ false
  pub array : is_array (fields_at d at) ≡ false
  pub end : at + 1 + (fields_at d at).first ≡ end_of d at
  pub ends : end_of d at ≤ item_count d
  pub body : Run d (at + 1) (at + 1 + (fields_at d at).first) (inside (fields_at d at) (at + 1 + (fields_at d at).first) (top d))
  pub sound : SoundBody true κ (body_at 4 d (at + 1) (fields_at d at).first)
  pub next : Same d κ (at + 1)
  pub after : Same d (after_body (body_at 4 d (at + 1) (fields_at d at).first) κ) (end_of d at)

-- each item of the top level is one
pub table_at_lem : {d : List ℕ} → PassedLaws d → (at : ℕ) (κ : Known) → at < item_count d → Run d at (item_count d) (top d) → Same d κ at → TableAt d at κ
unfolding inside set_known
table_at_lem {d} p at κ l run same =
    let f = fields_at d at in
    let is : is_table f ≡ true = (first_keeps p run l).top refl in
    let kind = eqb-true (kind_of f) 1 is in
    let one : count (is_table f) ≡ 1 = rw is in
    let quiet = sets_none f (fields_range d at) (λ two. omega arith) in
    let next : Same d κ (at + 1) = rw quiet at (same_next d at f.sets f.octets κ same (slot_step d at)) in
    let body = first_body p run l in
    let second = table_one d at is in
    let end : at + 1 + f.first ≡ end_of d at = omega arith in
    let x = runs p (f.first + 1) 4 (at + 1) f.first _ _ true κ (omega arith) refl body (omega arith) (λ z. absurd (true≢false z)) (omega arith) next in
    record {
      is = is;
      flat = rw kind;
      element = rw kind;
      array = rw kind;
      end = end;
      ends = first_ends p run l;
      body = body;
      sound = x.sound;
      next = next;
      after = rw end at x.after;
    }

-- the tables among the last n items
tops : {d : List ℕ} → PassedLaws d → (at n : ℕ) (κ : Known) → at + n ≡ item_count d → Run d at (item_count d) (top d) → Same d κ at → SoundTables κ (tables_of d n 0 at)
unfolding SoundTables
tops {d} p =
    by_items d (λ at n. (κ : Known) → at + n ≡ item_count d → Run d at (item_count d) (top d) → Same d κ at → SoundTables κ (tables_of d n 0 at))
    (λ at κ long run same. rw (tables_none d at) tt)
    (λ at n rest κ long run same.
    let f = fields_at d at in
    let t = table_at_lem p at κ (omega arith) run same in
    let ends = t.ends in
    let end = t.end in
    let there : at + 1 + nested f ≡ end_of d at = omega arith in
    rw (tables_step d at n, there, table_is d at n (tables_of d (n - nested f) 0 (end_of d at)) t.is (omega arith))
    (t.sound, rw there at rest _ (omega arith) (rest_body p run (omega arith)) t.after))

-- the whole description is a run at the top level
pub whole_run : (d : List ℕ) → Run d 0 (item_count d) (top d)
whole_run d = record { whole = omega arith; ends = refl; held = λ i p q. round_none d i }

-- the tree of a passed description is sound
pub passed_sound : (d : List ℕ) → Passes d → SoundTables none_known (tree_of d)
unfolding tree_of
passed_sound d h =
    tops (passed_laws d h) 0 (item_count d) none_known (omega arith) (whole_run d) (λ j p. sym (slot_none d j))

-- NOTHING STRAY stands in a sound tree
mutual
  unfolding FitBody SoundBody

  pub fit_body : (free : Bool) (κ : Known) (b : Body) → SoundBody free κ b → FitBody b
  fit_body free κ done h = tt
  fit_body free κ (more n b) h = (fit_node free κ n h.0, fit_body free (after_node n κ) b h.1)

  pub fit_node : (free : Bool) (κ : Known) (n : Node) → SoundNode free κ n → FitNode n
  fit_node free κ (leaf i f) h = tt
  fit_node free κ (array i f b) h = fit_body false κ b h.1
  fit_node free κ (choice i f arms) h = fit_arms κ arms h.1
  fit_node free κ (stray i) h = h

  fit_arms : (κ : Known) (arms : Arms) → SoundArms κ arms → FitArms arms
  fit_arms κ (last_arm b) h = fit_body false κ b h
  fit_arms κ (arm t b arms) h = (fit_body false κ b h.0, fit_arms κ arms h.1)
