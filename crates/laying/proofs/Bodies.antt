-- The bodies of a passed description are sound: each reference's bits lie inside a dimension read before, and no dimension stands in an ARRAY or IF.
-- Assumes nothing.
use Prim.Native.Nat.{ℕ, zero, suc, ◌+◌, ◌-◌, ◌<◌, ◌≤◌}
use mathlib.Core.Path.{◌≡◌, refl, ◌∙◌, sym}
use mathlib.Core.List.{List}
use mathlib.Core.Bool.{Bool, true, false, cond, or-true, false≢true}
use lib.Dec.{eqb}
use borrow.Author.Tests.{eqb-true, eqb-false, eq-eqb, ne_eqb}
use native.Mathlib.Omega.{arith}
use Rattle.meaning.specs.declared.Fields.{Fields}
use Rattle.meaning.specs.declared.Inner.{Inner}
use Rattle.meaning.specs.declared.Round.{Round}
use Rattle.meaning.specs.Ranges.{FieldsRange}
use Rattle.meaning.specs.Passed.{Keeps, PassedLaws, end_of}
use Rattle.meaning.specs.Description.{fields_at, nests, nested, count, inside, slot_octets, kind_of}
use Rattle.meaning.specs.Layout.{Node, Body, leaf, array, choice, stray, done, more, Branches, otherwise, branch, branches_of, body_in, arms_of, only_body, body_at}
use Rattle.meaning.proofs.Ranges.{fields_range, sets_none}
use Rattle.meaning.proofs.Rules.{slot_step}
use Rattle.laying.specs.Sound.{Known, set_known, GoodReference, SoundBody, SoundNode, SoundArms, after_node, after_body}
use Rattle.laying.specs.Tree.{inner_at, node_at}
use Rattle.laying.proofs.Branches.{Within, BodyRun, BranchRuns, branches_within, only_run, branch_runs}
use Rattle.laying.proofs.Nested.{Run, first_keeps, first_ends, rest_body, still}
use Rattle.laying.proofs.Nodes.{node_cases}
use Rattle.laying.proofs.Steps.{body_none, body_step}

-- κ has the octets of the slots that the items before `at` set; slot 0 is none
abbrev pub Same : (description : List ℕ) → Known → (at : ℕ) → Type 0
Same d κ at = (j : ℕ) → 0 < j → κ j ≡ slot_octets d at j

-- and still has them after an item that sets slot s to o octets
pub same_next : (d : List ℕ) (at s o : ℕ) (κ : Known) → Same d κ at → ((j : ℕ) → slot_octets d (at + 1) j ≡ cond (eqb s j) o (slot_octets d at j))
    → Same d (set_known s o κ) (at + 1)
unfolding set_known
same_next d at zero o κ h e j p = h j p ∙ sym (e j ∙ rw (ne_eqb 0 j (omega arith)))
same_next d at (suc s) o κ h e j p = go (eqb j (suc s)) refl ∙ sym (e j)
  where
    go : (b : Bool) → eqb j (suc s) ≡ b → cond b o (κ j) ≡ cond (eqb (suc s) j) o (slot_octets d at j)
    go true x = rw (eq-eqb (suc s) j (sym (eqb-true _ _ x)))
    go false x = rw (ne_eqb (suc s) j (λ y. eqb-false _ _ x (sym y))) (h j p)

-- where no slot may be set, those known stay as they are
pub quiet_node : (κ : Known) (n : Node) → SoundNode false κ n → after_node n κ ≡ κ
unfolding SoundNode after_node set_known
quiet_node κ (leaf i f) h = rw (h.unset refl)
quiet_node κ (array i f b) h = refl
quiet_node κ (choice i f arms) h = refl
quiet_node κ (stray i) h = refl

pub quiet_body : (κ : Known) (b : Body) → SoundBody false κ b → after_body b κ ≡ κ
unfolding SoundBody after_body
quiet_body κ done h = refl
quiet_body κ (more n b) h = let e = quiet_node κ n h.0 in rw e (quiet_body κ b (rw e at h.1))

-- ITEMS. What an item comes to, up to item e
record SoundItem (d : List ℕ) (free : Bool) (κ : Known) (t : Node) (e : ℕ) : Type 0 where
  sound : SoundNode free κ t
  after : Same d (after_node t κ) e

-- what the bodies of an ARRAY or a choice at item `at` come to, k levels left
record SoundBodies (d : List ℕ) (κ : Known) (k at : ℕ) : Type 0 where
  one : SoundBody false κ (body_in (inner_at k d) at (only_body (fields_at d at)))
  arms : SoundArms κ (arms_of (inner_at k d) at (branches_of d at))
  after : Same d κ (at + 1 + nested (fields_at d at))

-- a dimension stands in no ARRAY or choice
unset : (s m : ℕ) → 0 < m → (0 < s → m ≡ 0) → s ≡ 0
unset zero m p h = refl
unset (suc s) m p h = absurd (omega (arith, h (omega arith)))

counted : (b : Bool) → count b ≡ 1 → b ≡ true
counted true e = refl
counted false e = absurd (omega arith)

-- an item that keeps the rules, with r round it and n items after it in its body
module _ (d : List ℕ) (k at n : ℕ) (r : Round) (free : Bool) (κ : Known)
    (loose : free ≡ false → 0 < r.nests) (here : Same d κ at) (keep : Keeps d (fields_at d at) at r) (table : 0 < r.tables) (fits : nested (fields_at d at) ≤ n)
    (next : Same d (set_known (fields_at d at).sets (fields_at d at).octets κ) (at + 1))
    (bodies : nests (fields_at d at) ≡ true → Same d κ (at + 1) → SoundBodies d κ k at) where
  abbrev f : Fields
  f = fields_at d at

  abbrev range : FieldsRange f
  range = fields_range d at

  -- its reference, if it has one, is good
  good : GoodReference κ f
  good = record { some = range.some_bits; inside = λ h. rw (here f.slot h) (keep.refers h) }

  -- an item that sets no slot leaves those known as they are
  unmoved : (kind_of f ≡ 2 → ⊥) → Same d κ (at + 1)
  unfolding set_known
  unmoved other = rw (sets_none f range other) at next

  item : SoundItem d free κ (node_at k d at n) (at + 1 + nested f)
  unfolding SoundNode after_node
  item =
      node_cases (λ t. SoundItem d free κ t (at + 1 + nested f)) (inner_at k d) d at n
      (λ lost. absurd (lost fits (counted _ (range.known (omega (arith, keep.well_formed, eqb-false (kind_of f) 1 (keep.within table)))))))
      (λ l two four.
      let ends : at + 1 + nested f ≡ at + 1 = omega (arith, range.whole two four) in
      rw ends
      (record {
        sound = record { refers = good; unset = λ h. unset f.sets r.nests (loose h) keep.direct; owns = λ h. range.owns (omega (arith, range.dimension h)) };
        after = next;
      }))
      (λ l five. let b = bodies (rw five) (unmoved (λ two. omega arith)) in record { sound = (good, b.one); after = b.after })
      (λ l choice. let b = bodies (rw (choice, or-true)) (unmoved (λ two. false≢true (rw two at choice))) in record { sound = (good, b.arms); after = b.after })

-- BODIES. What a body comes to, up to item e
pub record SoundRun (d : List ℕ) (free : Bool) (κ : Known) (b : Body) (e : ℕ) : Type 0 where
  pub sound : SoundBody free κ b
  pub after : Same d (after_body b κ) e

-- every body of fewer than m items in a TABLE, with levels enough left, comes to that
abbrev pub Runs : (description : List ℕ) → (m : ℕ) → Type 0
Runs d m =
    (k at n e : ℕ) (r : Round) (free : Bool) (κ : Known) → n < m → at + n ≡ e → Run d at e r → 0 < r.tables → (free ≡ false → 0 < r.nests)
    → 4 ≤ k + r.nests → Same d κ at → SoundRun d free κ (body_at k d at n) e

-- a body of no items
no_items : (d : List ℕ) (k at e : ℕ) (free : Bool) (κ : Known) → at + 0 ≡ e → Same d κ at → SoundRun d free κ (body_at k d at 0) e
unfolding SoundBody after_body
no_items d k at e free κ h same =
    let x : at ≡ e = omega arith in
    rw (body_none k d at) (record { sound = tt; after = rw (← x) same })

-- a body with an item, where shorter ones are sound
module _ {d : List ℕ} (p : PassedLaws d) (m : ℕ) (rec : Runs d m) (at e : ℕ) (r : Round) (κ : Known) (run : Run d at e r) (l : at < e) (t : 0 < r.tables) where
  -- the bodies of an ARRAY or a choice, one level down
  module _ (k : ℕ) (few : e ≤ at + m) (deep : 4 ≤ suc k + r.nests) (nest : nests (fields_at d at) ≡ true) (same : Same d κ (at + 1)) where
    quiet : (i : ℕ) → at + 1 ≤ i → i ≤ end_of d at → Same d κ i
    quiet i a b j s = same j s ∙ sym (still p run l nest j s i a b)

    sound_body : (c : Inner) → BodyRun d at r c → c.skip + c.items ≤ nested (fields_at d at) → SoundBody false κ (body_in (body_at k d) at c)
    unfolding inside
    sound_body c b w =
        let one : count (nests (fields_at d at)) ≡ 1 = rw nest in
        let ends = first_ends p run l in
        (rec k (at + 1 + c.skip) c.items _ _ false κ (omega arith) refl b (omega arith) (λ z. omega arith) (omega arith) (quiet _ (omega arith) (omega arith))).sound

    sound_arms : (b : Branches) → BranchRuns d at r b → Within (nested (fields_at d at)) b → SoundArms κ (arms_of (body_at k d) at b)
    unfolding BranchRuns Within arms_of SoundArms
    sound_arms (otherwise c) b w = sound_body c b w
    sound_arms (branch t c rest) b w = (sound_body c b.0 w.0, sound_arms rest b.1 w.1)

  -- it has at most three levels round it, so a level is left for them
  both : (k : ℕ) → e ≤ at + m → 4 ≤ k + r.nests → nests (fields_at d at) ≡ true → Same d κ (at + 1) → SoundBodies d κ k at
  unfolding inner_at
  both zero few deep h same = absurd (omega (arith, (first_keeps p run l).shallow h))
  both (suc k) few deep h same =
      record {
        one = sound_body k few deep h same (only_body (fields_at d at)) (only_run p run l) (omega arith);
        arms = sound_arms k few deep h same (branches_of d at) (branch_runs p run l) (branches_within d at);
        after = quiet k few deep h same _ (omega arith) (omega arith);
      }

  -- a body is its first item and the rest
  one_more : (k n : ℕ) (free : Bool) → n < m → at + suc n ≡ e → (free ≡ false → 0 < r.nests) → 4 ≤ k + r.nests → Same d κ at
      → SoundRun d free κ (body_at k d at (suc n)) e
  unfolding SoundBody after_body
  one_more k n free few long loose deep same =
      let f = fields_at d at in
      let ends = first_ends p run l in
      let next = same_next d at f.sets f.octets κ same (slot_step d at) in
      let x = item d k at n r free κ loose same (first_keeps p run l) t (omega arith) next (both k (omega arith) deep) in
      let there : at + 1 + nested f ≡ end_of d at = omega arith in
      let y = rec k (end_of d at) (n - nested f) e r free _ (omega arith) (omega arith) (rest_body p run l) t loose deep (rw there at x.after) in
      rw (body_step k d at n, there) (record { sound = (x.sound, y.sound); after = y.after })

-- so every body of a passed description that stands in a TABLE is sound
pub runs : {d : List ℕ} → PassedLaws d → (m : ℕ) → Runs d m
runs p zero k at n e r free κ few long run t loose deep same = absurd (omega arith)
runs p (suc m) k at zero e r free κ few long run t loose deep same = no_items _ k at e free κ long same
runs p (suc m) k at (suc n) e r free κ few long run t loose deep same =
    one_more p m (runs p m) at e r κ run (omega arith) t k n free (omega arith) long loose deep same
