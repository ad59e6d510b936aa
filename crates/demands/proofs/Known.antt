-- Of demand 1: every refusal that a question may get has one of document 01's numbers that is still given, with the item and the octet that it reports. Assumes nothing.
use Prim.Native.Nat.{ℕ, zero, suc, ◌+◌}
use mathlib.Core.Path.{◌≡◌, refl, sym, ap, subst}
use mathlib.Core.Logic.{inl, inr}
use mathlib.Core.Bool.{Bool, true, false, not, true≢false}
use mathlib.Core.List.{List, [], ◌∷◌, map}
use mathlib.Core.Option.{Option, some, none}
use borrow.Author.Tests.{le-leb, ne_eqb}
use native.Mathlib.Omega.{arith}
use Rattle.meaning.specs.declared.ElementName.{ElementName}
use Rattle.meaning.specs.declared.Refusal.{Refusal}
use Rattle.meaning.specs.Description.{item_count, fields_at, is_array, check_reply}
use Rattle.meaning.specs.Passed.{OfRules}
use Rattle.meaning.proofs.Passed.{check_says}
use Rattle.meaning.specs.Refusals.{verdict_reply, layout_reply}
use Rattle.meaning.specs.Questions as ask
use Rattle.meaning.specs.Questions.{refusal_in}
use Rattle.meaning.specs.Numbers.{reports_item, is_given, numbered, image_short, subscript_too_large}
use Rattle.meaning.proofs.Either.{tested}
use Rattle.laying.specs.Every.{Every}
use Rattle.demands.specs.Causes.{is_open, told_at, at_nest, causes_of}
use Rattle.demands.specs.Given.{given, first_of}
use Rattle.demands.specs.Demand1.{eight, nine_from, refusals_of, OnPaper}
use Rattle.demands.specs.Replies.{ours, outcome_by}
use Rattle.demands.specs.Walk.{octet_before, runs_past, nests_round}
use Rattle.demands.proofs.FirstGiven.{first_given}
use Rattle.std.specs.Prelude.{Err}
use Rattle.meaning.specs.Values.{Verdict, passed}

-- BY ITS NUMBER ON THE PAPER
-- a number that reports nothing
on_paper_lem : (n : ℕ) → is_given n ≡ true → OnPaper (numbered n)
on_paper_lem n h = record { listed = h; at_item = λ e. refl; at_octet = λ e. refl; at_depth = λ e. refl }

-- of a list
unfoldable pub KnownIn : Option Refusal → Type 0
KnownIn none = Unit {0}
KnownIn (some r) = OnPaper r

pub known_last : Every KnownIn []
unfolding Every
known_last = tt

pub known_more : (x : Option Refusal) (xs : List (Option Refusal)) → KnownIn x → Every KnownIn xs → Every KnownIn (x ∷ xs)
unfolding Every
known_more x xs h k = (h, k)

pub first_known : (rs : List (Option Refusal)) → Every KnownIn rs → KnownIn (first_of rs)
unfolding first_of Every KnownIn
first_known [] h = tt
first_known (none ∷ rs) h = first_known rs h.1
first_known (some r ∷ rs) h = h.0

given_known : (b : Bool) (n : ℕ) → is_given n ≡ true → KnownIn (given b (numbered n))
unfolding given KnownIn
given_known true n h = on_paper_lem n h
given_known false n h = tt

rules_known : (r : Refusal) → OfRules r → OnPaper r
rules_known r (inl e) = subst OnPaper (sym e) (on_paper_lem 1 refl)
rules_known r (inr (least, most, e)) =
    record {
      listed = rw (le-leb 1 r.number (omega arith), le-leb r.number 20 (omega arith), ne_eqb r.number 11 (λ e. omega arith), ne_eqb r.number 17 (λ e. omega arith));
      at_item = λ f. absurd (clash f);
      at_octet = λ f. ap (λ (x : Refusal). x.octet) e;
      at_depth = λ f. ap (λ (x : Refusal). x.depth) e;
    }
  where
    clash : reports_item r.number ≡ false → ⊥
    clash f = true≢false (rw (le-leb 2 _ least, le-leb _ 7 most) at f)

pub sound_known : (d : List ℕ) → KnownIn (refusal_in (verdict_reply (check_reply d)))
unfolding refusal_in verdict_reply KnownIn
sound_known d = go (check_reply d) refl
  where
    go : (v : Verdict) → check_reply d ≡ v → KnownIn (refusal_in (verdict_reply v))
    go passed e = tt
    go (Err r) e = rules_known r ((check_says d).nothing_else r e)

short_known : (i p : ℕ) → OnPaper (image_short i p)
short_known i p = record { listed = refl; at_item = λ e. absurd (true≢false e); at_octet = λ e. absurd (true≢false e); at_depth = λ e. refl }

nine_known : (d img : List ℕ) (n i : ℕ) → KnownIn (nine_from d img n i)
unfolding nine_from KnownIn
nine_known d img zero i = tt
nine_known d img (suc n) i = tested KnownIn (runs_past d img i) _ _ (λ t. short_known i (octet_before d img i)) (λ t. nine_known d img n (i + 1))

-- laying out: 1 to 9
pub layout_knows : (d img : List ℕ) → Every KnownIn (refusals_of ours ask.layout d img)
unfolding refusals_of eight
layout_knows d img = known_more _ _ (sound_known d) (known_more _ _ (given_known _ _ refl) (known_more _ _ (nine_known d img (item_count d) 0) known_last))

-- its refusal, which is the first of these
layout_known : (d img : List ℕ) → KnownIn (refusal_in (layout_reply d img))
unfolding outcome_by
layout_known d img = subst KnownIn (sym (first_given d img ask.layout)) (first_known _ (layout_knows d img))

-- and what comes behind it: one test, or
pub after : (d img : List ℕ) (rest : List (Option Refusal)) → Every KnownIn rest → Every KnownIn (refusal_in (layout_reply d img) ∷ rest)
after d img rest h = known_more _ _ (layout_known d img) h

pub one_known : (b : Bool) (n : ℕ) → is_given n ≡ true → Every KnownIn (given b (numbered n) ∷ [])
one_known b n h = known_more _ _ (given_known b n h) known_last

-- two tests, three, and four
pub two_known : (a b : Bool) (p q : ℕ) → is_given p ≡ true → is_given q ≡ true → Every KnownIn (given a (numbered p) ∷ given b (numbered q) ∷ [])
two_known a b p q h i = known_more _ _ (given_known a p h) (one_known b q i)

pub three_known : (a b c : Bool) (p q r : ℕ) → is_given p ≡ true → is_given q ≡ true → is_given r ≡ true
    → Every KnownIn (given a (numbered p) ∷ given b (numbered q) ∷ given c (numbered r) ∷ [])
three_known a b c p q r h i j = known_more _ _ (given_known a p h) (two_known b c q r i j)

pub four_known : (a b c d : Bool) (p q r s : ℕ) → is_given p ≡ true → is_given q ≡ true → is_given r ≡ true → is_given s ≡ true
    → Every KnownIn (given a (numbered p) ∷ given b (numbered q) ∷ given c (numbered r) ∷ given d (numbered s) ∷ [])
four_known a b c d p q r s h i j k = known_more _ _ (given_known a p h) (three_known b c d q r s i j k)

-- WHY THERE IS NO SUCH ELEMENT: 22, 26, 24, then 23 or 25 of each ARRAY and IF round it
nest_known : (d : List ℕ) (v : ℕ → ℕ) (q : ElementName) (j : ℕ) → KnownIn (at_nest d v q j)
unfolding at_nest told_at given KnownIn
nest_known d v q j = tested KnownIn (not (is_open d v q j)) _ _ (λ h. tested OnPaper (is_array (fields_at d j)) _ _ (λ a. deep) (λ a. on_paper_lem 23 refl)) (λ h. tt)
  where
    deep : {k : ℕ} → OnPaper (subscript_too_large k)
    deep = record { listed = refl; at_item = λ e. refl; at_octet = λ e. refl; at_depth = λ e. absurd (true≢false e) }

nests_known : (d : List ℕ) (v : ℕ → ℕ) (q : ElementName) (js : List ℕ) → Every KnownIn (map (at_nest d v q) js)
unfolding Every
nests_known d v q [] = tt
nests_known d v q (j ∷ js) = (nest_known d v q j, nests_known d v q js)

pub causes_known : (number : Bool) (d : List ℕ) (v : ℕ → ℕ) (q : ElementName) → Every KnownIn (causes_of number d v q)
unfolding causes_of
causes_known number d v q =
    known_more _ _ (given_known _ 22 refl) (known_more _ _ (given_known _ 26 refl) (known_more _ _ (given_known _ 24 refl) (nests_known d v q (nests_round d q.item))))
