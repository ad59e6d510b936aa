-- The names of what is laid: inside an ARRAY a sound body lays the elements that its names say, and sets no slot; and slots that agree on what is known give the same names.
-- Assumes nothing.
use Rattle.std.specs.Prelude.{if◌then◌else◌}
use Prim.Native.Nat.{ℕ, zero, suc, ◌+◌, ◌-◌, ◌<◌}
use mathlib.Core.Path.{◌≡◌, refl, ◌∙◌, ap, ap₂}
use mathlib.Core.Bool.{Bool, true, false, cond}
use mathlib.Core.List.{List, [], ◌∷◌, ◌++◌}
use borrow.Author.Tests.{ltb-true}
use native.Mathlib.Omega.{arith}
use Rattle.meaning.specs.Basics.{◌=?◌}
use Rattle.meaning.specs.declared.Fields.{Fields}
use Rattle.meaning.specs.Description.{refers}
use Rattle.meaning.specs.Layout.{Node, Body, Arms, leaf, array, choice, stray, done, more, last_arm, arm, leaf_octets, bit_range}
use Rattle.meaning.specs.Layout.{Slots, set_slot, Placed, Laid, laid, stopped, also, and_then, in_image, placed, under, as_element, repeated, lay_body, lay_node, lay_arms}
use Rattle.meaning.specs.Layout.{Numbers, value, slot_numbers}
use Rattle.meaning.proofs.Either.{tested}
use Rattle.laying.specs.Slots.{Matches}
use Rattle.laying.specs.Sound.{Known, GoodReference, SoundBody, SoundNode, SoundArms}
use Rattle.laying.proofs.Bodies.{quiet_node}
use Rattle.laying.proofs.Whole.{value_is}
use Rattle.demands.proofs.Naming.{Name, under_names, repeat_names, names_body, names_node, names_arms}

-- AN ELEMENT'S NAME
abbrev pub name_in : Placed → Name
name_in e = record { item = e.item; subscripts = e.subscripts; octets = e.size }

unfoldable pub strip : List Placed → List Name
strip [] = []
strip (e ∷ es) = name_in e ∷ strip es

pub strip_append : (ps qs : List Placed) → strip (ps ++ qs) ≡ strip ps ++ strip qs
unfolding strip
strip_append [] qs = refl
strip_append (e ∷ ps) qs = ap (λ (ns : List Name). name_in e ∷ ns) (strip_append ps qs)

strip_under : (j : ℕ) (ps : List Placed) → strip (under j ps) ≡ under_names j (strip ps)
unfolding strip under under_names
strip_under j [] = refl
strip_under j (e ∷ ps) = ap (λ (ns : List Name). record { item = e.item; subscripts = j ∷ e.subscripts; octets = e.size } ∷ ns) (strip_under j ps)

-- LAID with these names, and no slot set; of what stops nothing is said
abbrev pub Strips : Slots → List Name → Laid → Type 0
Strips s ns (laid ps t q) = (t ≡ s) × (strip ps ≡ ns)
Strips s ns (stopped ps x) = Unit {0}

module _ (s : Slots) where
  s_also : (ns ms : List Name) (ps : List Placed) (o : Laid) → strip ps ≡ ns → Strips s ms o → Strips s (ns ++ ms) (also ps o)
  s_also ns ms ps (laid qs t q) e h = (h.0, strip_append ps qs ∙ ap₂ ◌++◌ e h.1)
  s_also ns ms ps (stopped qs x) e h = tt

  s_then : (ns ms : List Name) (o : Laid) (next : Slots → ℕ → Laid) → Strips s ns o → ((q : ℕ) → Strips s ms (next s q)) → Strips s (ns ++ ms) (and_then o next)
  unfolding and_then
  s_then ns ms (laid ps t q) next h k = rw h.0 (s_also ns ms ps (next s q) h.1 (k q))
  s_then ns ms (stopped ps x) next h k = tt

  s_element : (i w j p : ℕ) (ns : List Name) (o : Laid) → Strips s ns o → Strips s (under_names j ns) (as_element i w j p o)
  unfolding as_element
  s_element i w j p ns (laid ps t q) h =
      tested (Strips s (under_names j ns)) (q - p =? w) _ _ (λ e. (h.0, strip_under j ps ∙ ap (under_names j) h.1)) (λ e. tt)
  s_element i w j p ns (stopped ps x) h = tt

  -- c elements from subscript j on
  pub s_repeated : (element : Slots → ℕ → Laid) (ns : List Name) → ((p : ℕ) → Strips s ns (element s p)) → (i w c j p : ℕ) → Strips s (repeat_names c j ns) (repeated element i w c j s p)
  unfolding repeated repeat_names strip
  s_repeated element ns h i w zero j p = (refl, refl)
  s_repeated element ns h i w (suc c) j p =
      s_then (under_names j ns) (repeat_names c (j + 1) ns) (as_element i w j p (element s p)) (repeated element i w c (j + 1)) (s_element i w j p ns (element s p) (h p))
      (λ q. s_repeated element ns h i w c (j + 1) q)

-- a sound body inside an ARRAY
module _ (img : List ℕ) (s : Slots) (κ : Known) (m : Matches s κ) where
  abbrev v : Numbers
  v = slot_numbers s

  s_leaf : (i : ℕ) (f : Fields) (p n : ℕ) → f.sets ≡ 0 → Strips s (record { item = i; subscripts = []; octets = n } ∷ []) (placed i f img s p n)
  unfolding placed set_slot strip
  s_leaf i f p n e = (rw e, refl)

  -- by one arm, or by those after it
  s_pick : (b : Bool) (ns ms : List Name) (o u : Laid) → Strips s ns o → Strips s ms u → Strips s (if b then ns else ms) (if b then o else u)
  s_pick true ns ms o u h k = h
  s_pick false ns ms o u h k = k

  mutual
    unfolding lay_body SoundBody names_body in_image strip

    pub s_body : (b : Body) (p : ℕ) → SoundBody false κ b → Strips s (names_body b v) (lay_body b img true s p)
    s_body done p h = (refl, refl)
    s_body (more x b) p h =
        s_then s (names_node x v) (names_body b v) (lay_node x img true s p) (λ t q. lay_body b img true t q) (s_node x p h.0)
        (λ q. s_body b q (rw (quiet_node κ x h.0) at h.1))

    s_node : (x : Node) (p : ℕ) → SoundNode false κ x → Strips s (names_node x v) (lay_node x img true s p)
    s_node (leaf j f) p h = rw (value_is s κ f j _ m h.refers) (s_leaf j f p (leaf_octets f (value v f)) (h.unset refl))
    s_node (array j f b) p h =
        rw (value_is s κ f j _ m h.0)
        (s_repeated s (λ t q. lay_body b img true t q) (names_body b v) (λ q. s_body b q h.1) j _ (value v f) 0 p)
    s_node (choice j f arms) p h = rw (value_is s κ f j _ m h.0) (s_arms arms (value v f) p h.1)
    s_node (stray j) p h = absurd h

    s_arms : (arms : Arms) (x p : ℕ) → SoundArms κ arms → Strips s (names_arms arms x v) (lay_arms arms x img true s p)
    s_arms (last_arm b) x p h = s_body b p h
    s_arms (arm t b arms) x p h = s_pick (t x) (names_body b v) (names_arms arms x v) (lay_body b img true s p) (lay_arms arms x img true s p) (s_body b p h.0) (s_arms arms x p h.1)

-- SLOTS THAT AGREE on what is known
abbrev pub Agree : Known → (v w : Numbers) → Type 0
Agree κ v w = (k : ℕ) → 0 < k → 0 < κ k → v k ≡ w k

pub value_agrees : (κ : Known) (v w : Numbers) (f : Fields) → Agree κ v w → GoodReference κ f → value v f ≡ value w f
unfolding value
value_agrees κ v w f a h = go (refers f) refl
  where
    go : (b : Bool) → refers f ≡ b → cond b (bit_range (v f.slot) f) 0 ≡ cond b (bit_range (w f.slot) f) 0
    go true e = let l = ltb-true 0 f.slot e in ap (λ (x : ℕ). bit_range x f) (a f.slot l (omega (arith, h.some l, h.inside l)))
    go false e = refl

mutual
  unfolding SoundBody names_body

  pub names_agree : (κ : Known) (v w : Numbers) (b : Body) → Agree κ v w → SoundBody false κ b → names_body b v ≡ names_body b w
  names_agree κ v w done a h = refl
  names_agree κ v w (more x b) a h = ap₂ ◌++◌ (node_agrees κ v w x a h.0) (names_agree κ v w b a (rw (quiet_node κ x h.0) at h.1))

  node_agrees : (κ : Known) (v w : Numbers) (x : Node) → Agree κ v w → SoundNode false κ x → names_node x v ≡ names_node x w
  node_agrees κ v w (leaf i f) a h = ap (λ (x : ℕ). record { item = i; subscripts = []; octets = leaf_octets f x } ∷ []) (value_agrees κ v w f a h.refers)
  node_agrees κ v w (array i f b) a h = ap₂ (λ (c : ℕ) (ns : List Name). repeat_names c 0 ns) (value_agrees κ v w f a h.0) (names_agree κ v w b a h.1)
  node_agrees κ v w (choice i f arms) a h = rw (value_agrees κ v w f a h.0) (arms_agree κ v w arms (value w f) a h.1)
  node_agrees κ v w (stray i) a h = refl

  arms_agree : (κ : Known) (v w : Numbers) (arms : Arms) (x : ℕ) → Agree κ v w → SoundArms κ arms → names_arms arms x v ≡ names_arms arms x w
  arms_agree κ v w (last_arm b) x a h = names_agree κ v w b a h
  arms_agree κ v w (arm t b arms) x a h = ap₂ (λ (ns ms : List Name). if t x then ns else ms) (names_agree κ v w b a h.0) (arms_agree κ v w arms x a h.1)
