-- The wrong programs of specs/Wrong.antt that tell another cause break what is said of causes: what it says of our replies on the same description and image, it says of theirs. Assumes nothing.
use Prim.Native.Nat.{ℕ}
use mathlib.Core.Path.{◌≡◌, refl, sym, ◌∙◌, ap}
use mathlib.Core.Option.{Option, some, none}
use native.Mathlib.Omega.{arith}
use Rattle.meaning.specs.declared.Refusal.{Refusal}
use Rattle.meaning.specs.Careful.{with_subscripts, maze, two_by_two, none_outside}
use Rattle.meaning.specs.Examples.{plain}
use Rattle.meaning.specs.Numbers.{branch_not_chosen, subscript_too_large, not_a_number}
use Rattle.meaning.specs.Questions.{refusal_in}
use Rattle.meaning.specs.Refusals.{place_reply, layout_reply, element_place_reply, element_number_reply}
use Rattle.meaning.proofs.Computing.{computing}
use Rattle.demands.specs.Demand3.{ElementsStand}
use Rattle.demands.specs.Replies.{Replies, ours}
use Rattle.demands.specs.Wrong.{WrongCauses}
use Rattle.demands.proofs.Demand3.{demand_3}
use Rattle.std.specs.Prelude.{Ok}
use Rattle.meaning.specs.Values.{Place}
use Rattle.meaning.specs.declared.Answer.{Answer}

-- OUR REPLIES, COMPUTED
two_total : layout_reply maze two_by_two ≡ Ok (Answer.Total 10)
unfolding computing
two_total = refl

none_total : layout_reply maze none_outside ≡ Ok (Answer.Total 2)
unfolding computing
none_total = refl

block_number : refusal_in (element_number_reply maze two_by_two (plain 8)) ≡ some not_a_number
unfolding computing
block_number = refl

unchosen : refusal_in (place_reply (element_place_reply maze two_by_two (with_subscripts 10 2 1 9))) ≡ some branch_not_chosen
unfolding computing
unchosen = refl

outer : refusal_in (place_reply (element_place_reply maze two_by_two (with_subscripts 7 2 2 0))) ≡ some (subscript_too_large 0)
unfolding computing
outer = refl

inner : refusal_in (place_reply (element_place_reply maze two_by_two (with_subscripts 7 2 0 2))) ≡ some (subscript_too_large 1)
unfolding computing
inner = refl

empty : refusal_in (place_reply (element_place_reply maze none_outside (with_subscripts 7 2 0 0))) ≡ some (subscript_too_large 0)
unfolding computing
empty = refl

-- two refusals of one reply: their numbers, and their depths, are the same
abbrev number_in : Option Refusal → ℕ
number_in none = 0
number_in (some r) = r.number

abbrev depth_in : Option Refusal → ℕ
depth_in none = 0
depth_in (some r) = r.depth

module _ (R : Replies) where
  abbrev stands : ElementsStand ours maze two_by_two 10
  stands = (demand_3 maze two_by_two).elements_stand 10 two_total

  abbrev empties : ElementsStand ours maze none_outside 2
  empties = (demand_3 maze none_outside).elements_stand 2 none_total

  pub wrong_causes : WrongCauses R
  unfolding refusal_in place_reply
  wrong_causes =
      record {
        count_first = λ w s.
            let right = (s.no_number (plain 8)).twenty_six.1 ((stands.no_number (plain 8)).twenty_six.0 block_number) in
            let told : ◌≡◌ {A = ℕ} 24 26 = ap number_in (sym (ap refusal_in w.told) ∙ right) in
            omega arith;
        inner_first = λ w s.
            let q = with_subscripts 10 2 1 9 in
            let right = (s.no_element q).twenty_three.1 ((stands.no_element q).twenty_three.0 unchosen) in
            let told : ◌≡◌ {A = ℕ} 25 23 = ap number_in (sym (ap (λ (x : Place). refusal_in (place_reply x)) w.told) ∙ right) in
            omega arith;
        from_inside = λ w s.
            let q = with_subscripts 7 2 2 0 in
            let right = ((s.no_element q).twenty_five 0).1 (((stands.no_element q).twenty_five 0).0 outer) in
            let told : ◌≡◌ {A = ℕ} 1 0 = ap depth_in (sym (ap (λ (x : Place). refusal_in (place_reply x)) w.told) ∙ right) in
            omega arith;
        counts_choices = λ w s.
            let q = with_subscripts 7 2 0 2 in
            let right = ((s.no_element q).twenty_five 1).1 (((stands.no_element q).twenty_five 1).0 inner) in
            let told : ◌≡◌ {A = ℕ} 2 1 = ap depth_in (sym (ap (λ (x : Place). refusal_in (place_reply x)) w.told) ∙ right) in
            omega arith;
        empty_unchosen = λ w s.
            let q = with_subscripts 7 2 0 0 in
            let right = ((s.no_element q).twenty_five 0).1 (((empties.no_element q).twenty_five 0).0 empty) in
            let told : ◌≡◌ {A = ℕ} 23 25 = ap number_in (sym (ap (λ (x : Place). refusal_in (place_reply x)) w.told) ∙ right) in
            omega arith;
      }
