-- REFUSALS DECIDE: two replies with the same refusal are the same, unless neither is refused; and what a question that isn't refused has met. Of the check, which rule is broken is decided
-- by the rules alone. Assumes nothing.
use mathlib.Core.Path.{◌≡◌, refl, sym, ◌∙◌, ap}
use mathlib.Core.Logic.{inl, inr}
use mathlib.Core.Bool.{Bool, true, false}
use mathlib.Core.List.{List, ◌∷◌}
use mathlib.Core.Option.{Option, some, none}
use Prim.Native.Nat.{ℕ}
use Rattle.meaning.specs.declared.Refusal.{Refusal}
use Rattle.meaning.specs.Description.{check_reply}
use Rattle.meaning.specs.Passed.{OfRules}
use Rattle.meaning.specs.Questions.{Question, refusal_in}
use Rattle.meaning.specs.Refusals.{verdict_reply, place_reply}
use Rattle.meaning.proofs.Passed.{check_says}
use Rattle.demands.specs.Given.{given, first_of}
use Rattle.demands.specs.Demand1.{refusals_of}
use Rattle.demands.specs.Demands.{Demands}
use Rattle.demands.specs.Replies.{Replies, outcome_by}
use Rattle.demands.specs.Rules.{CheckSays}
use Rattle.demands.proofs.Rules.{check_in_words}
use Rattle.meaning.proofs.Either.{clash}
use Rattle.std.specs.Prelude.{Err, Ok}
use Rattle.meaning.specs.Values.{Verdict, Place, Reply, passed}
use Rattle.meaning.specs.Values.{passed}

-- THE REFUSAL IN A REPLY, whichever kind of reply it is
pub reply_refused : (x : Reply) (r : Refusal) → refusal_in x ≡ some r → x ≡ Err r
unfolding refusal_in
reply_refused (Err s) r e = cc
reply_refused (Ok a) r e = clash (cc)

place_refused : (x : Place) (r : Refusal) → refusal_in (place_reply x) ≡ some r → x ≡ Err r
unfolding refusal_in place_reply
place_refused (Err s) r e = cc
place_refused (Ok w) r e = clash (cc)

pub verdict_refused : (x : Verdict) (r : Refusal) → refusal_in (verdict_reply x) ≡ some r → x ≡ Err r
unfolding refusal_in verdict_reply
verdict_refused (Err s) r e = cc
verdict_refused passed r e = clash (cc)

pub verdict_passed : (x : Verdict) → refusal_in (verdict_reply x) ≡ none → x ≡ passed
unfolding refusal_in verdict_reply
verdict_passed (Err s) e = clash (cc)
verdict_passed passed e = refl

-- two with the same refusal
by_refusal : {A : Type 0} (refusal : A → Option Refusal) (refused : Refusal → A) → ((x : A) (r : Refusal) → refusal x ≡ some r → x ≡ refused r)
    → (x y : A) → refusal x ≡ refusal y → (refusal x ≡ none → x ≡ y) → x ≡ y
by_refusal refusal refused are x y e h = go (refusal x) refl
  where
    go : (o : Option Refusal) → refusal x ≡ o → x ≡ y
    go none f = h f
    go (some r) f = are x r f ∙ sym (are y r (sym e ∙ f))

pub reply_same : (x y : Reply) → refusal_in x ≡ refusal_in y → (refusal_in x ≡ none → x ≡ y) → x ≡ y
reply_same = by_refusal refusal_in (λ r. Err r) reply_refused

pub place_same : (x y : Place) → refusal_in (place_reply x) ≡ refusal_in (place_reply y) → (refusal_in (place_reply x) ≡ none → x ≡ y) → x ≡ y
place_same = by_refusal (λ x. refusal_in (place_reply x)) (λ r. Err r) place_refused

pub verdict_same : (x y : Verdict) → refusal_in (verdict_reply x) ≡ refusal_in (verdict_reply y) → x ≡ y
verdict_same x y e =
    by_refusal (λ x. refusal_in (verdict_reply x)) (λ r. Err r) verdict_refused x y e (λ f. verdict_passed x f ∙ sym (verdict_passed y (sym e ∙ f)))

-- LISTS OF REFUSALS
-- none is given where none of them is
pub first_none : (a : Option Refusal) (rest : List (Option Refusal)) → first_of (a ∷ rest) ≡ none → (a ≡ none) × (first_of rest ≡ none)
unfolding first_of
first_none none rest e = (refl, e)
first_none (some r) rest e = clash (cc)

-- by a test that fails
pub given_none : (t : Bool) (r : Refusal) → given t r ≡ none → t ≡ false
unfolding given
given_none true r e = clash (cc)
given_none false r e = refl

-- the same list, the same refusal
pub refusal_same : (R S : Replies) → Demands R → Demands S → (d img : List ℕ) (q : Question) → refusals_of R q d img ≡ refusals_of S q d img
    → refusal_in (outcome_by R q d img).reply ≡ refusal_in (outcome_by S q d img).reply
refusal_same R S r s d img q e = ((r.first d img).asked q).first ∙ ap first_of e ∙ sym ((s.first d img).asked q).first

-- THE CHECK: what the rules say is said of one reply only
pub check_decided : (d : List ℕ) (v : Verdict) → CheckSays d v → v ≡ check_reply d
check_decided d v says = go (check_reply d) refl
  where
    rules : (r : Refusal) → check_reply d ≡ Err r → OfRules r → v ≡ check_reply d
    rules r e (inl f) = says.length.1 ((check_in_words d).length.0 (cc)) ∙ (cc)
    rules r e (inr f) = (says.broken r.number r.item f.0).1 (((check_in_words d).broken r.number r.item f.0).0 (cc)) ∙ (cc)

    go : (u : Verdict) → check_reply d ≡ u → v ≡ check_reply d
    go passed e = says.passed.1 ((check_in_words d).passed.0 e) ∙ sym e
    go (Err r) e = rules r e ((check_says d).nothing_else r e)
