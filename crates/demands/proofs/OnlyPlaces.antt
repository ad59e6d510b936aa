-- WHAT ONE FAMILY THAT MEETS THE DEMANDS TELLS OF PLACES: a place that is told is one of an image that lays out, and of a name that there is; and the elements that there are stand set out
-- by their ways, without gaps. Assumes nothing.
use Prim.Native.Nat.{ℕ, ◌≤◌}
use mathlib.Core.Path.{◌≡◌, refl, sym, ◌∙◌, ap}
use mathlib.Core.Logic.{inl, inr}
use mathlib.Core.Bool.{true}
use mathlib.Core.List.{List, [], ◌∷◌}
use mathlib.Core.Option.{Option, none}
use lib.ListN.{length}
use borrow.Author.Tests.{ltb-false, not-false}
use native.Mathlib.Omega.{arith}
use Rattle.meaning.specs.Basics.{◌<?◌}
use Rattle.meaning.specs.declared.ElementName.{ElementName}
use Rattle.meaning.specs.declared.Refusal.{Refusal}
use Rattle.meaning.specs.Description.{item_count, fields_at, is_uint}
use Rattle.meaning.specs.Numbers.{image_too_long}
use Rattle.meaning.specs.Questions as ask
use Rattle.meaning.specs.Questions.{Question, refusal_in}
use Rattle.meaning.specs.Refusals.{verdict_reply, place_reply, place_start, place_length}
use Rattle.demands.specs.Given.{first_of}
use Rattle.demands.specs.Demand1.{eight, nine_from, ten, refusals_of}
use Rattle.demands.specs.Demand3.{Passed, LaysOrShort, SameName, length_in}
use Rattle.demands.specs.Demands.{Demands}
use Rattle.demands.specs.Replies.{Replies, outcome_by, octets_at}
use Rattle.demands.specs.Walk.{octets_in, numbers_in, exists, way_to, Earlier}
use Rattle.demands.proofs.OnlyFirst.{verdict_passed, first_none, given_none}
use Rattle.demands.proofs.OnlyNames.{existing}
use Rattle.demands.proofs.OnlyTiles.{SetOut, Tiled}
use Rattle.meaning.proofs.Either.{clash}
use Rattle.std.specs.Prelude.{Ok, Err}
use Rattle.meaning.specs.Values.{Place}
use Rattle.meaning.specs.declared.Answer.{Answer}
use Rattle.meaning.specs.Values.{at}

-- a place that isn't refused
pub told : (x : Place) → refusal_in (place_reply x) ≡ none → x ≡ octets_at (place_start x) (place_length x)
unfolding refusal_in place_reply
told (Ok w) e = refl
told (Err r) e = clash (cc)

pub told_none : (x : Place) (p n : ℕ) → x ≡ octets_at p n → refusal_in (place_reply x) ≡ none
unfolding refusal_in place_reply
told_none x p n e = rw e

-- the names that there are, how long their elements are, and which stand earlier
module _ (d img : List ℕ) where
  abbrev pub Is : ElementName → Type 0
  Is q = exists d (numbers_in d img) q ≡ true

  abbrev pub size : ElementName → ℕ
  size q = length_in d (numbers_in d img) q.item

  abbrev pub Before : ElementName → ElementName → Type 0
  Before q t = Earlier (way_to d q) (way_to d t)

-- ONE FAMILY
module _ (R : Replies) (r : Demands R) (d img : List ℕ) where
  -- not refused, the description is passed and the image not too long
  pub passed_is : refusal_in (R.layout d img) ≡ none → Passed R d img
  unfolding outcome_by refusals_of eight
  passed_is e =
      let rest = nine_from d img (item_count d) 0 ∷ [] in
      let f = first_none (refusal_in (verdict_reply (R.check d))) (eight img ∷ rest) (sym ((r.first d img).asked ask.layout).first ∙ e) in
      let g = first_none (eight img) rest f.1 in
      record { passes = verdict_passed (R.check d) f.0; allowed = ltb-false 65535 (length img) (given_none (65535 <? length img) image_too_long g.0) }

  -- and it lays out, up to the end of the last piece
  pub total_is : refusal_in (R.layout d img) ≡ none → R.layout d img ≡ Ok (Answer.Total (octets_in d img))
  unfolding refusal_in
  total_is e = go ((r.third d img).lays_or_short (passed_is e))
    where
      go : LaysOrShort R d img → R.layout d img ≡ Ok (Answer.Total (octets_in d img))
      go (inl h) = h.reply ∙ ap (λ n. Ok (Answer.Total n)) (sym (((r.third d img).total_exactly (passed_is e) h.total).0 h.reply).ends)
      go (inr h) = clash (cc)

  -- of what may be refused where the image doesn't lay out: where it isn't, the image lays out
  not_refused : (q : Question) (rest : List (Option Refusal)) → refusals_of R q d img ≡ refusal_in (R.layout d img) ∷ rest → refusal_in (outcome_by R q d img).reply ≡ none
      → R.layout d img ≡ Ok (Answer.Total (octets_in d img))
  not_refused q rest are e = total_is (first_none _ rest (ap first_of (sym are) ∙ sym ((r.first d img).asked q).first ∙ e)).0

  -- so what is told is of an image that lays out, and of a name that there is
  pub table_told : (m k : ℕ) → refusal_in (place_reply (R.table_place d img m k)) ≡ none → R.layout d img ≡ Ok (Answer.Total (octets_in d img))
  unfolding outcome_by refusals_of ten
  table_told m k e = not_refused (ask.table_place m k) _ refl e

  pub record Told (Named : Type 0) : Type 0 where
    pub layout : R.layout d img ≡ Ok (Answer.Total (octets_in d img))
    pub named : Named

  pub element_told : (q : ElementName) → refusal_in (place_reply (R.element_place d img q)) ≡ none → Told (Is d img q)
  unfolding outcome_by refusals_of
  element_told q e =
      let laid = not_refused (ask.element_place q) _ refl e in
      record { layout = laid; named = ((((r.third d img).elements_stand _ laid).no_element q).granted.0 e).0 }

  pub number_told : (q : ElementName) → refusal_in (R.element_number d img q) ≡ none → Told (Is d img q × (is_uint (fields_at d q.item) ≡ true))
  unfolding outcome_by refusals_of
  number_told q e =
      let laid = not_refused (ask.element_number q) _ refl e in
      let h = (((r.third d img).elements_stand _ laid).no_number q).granted.0 e in
      record { layout = laid; named = (h.0, not-false _ h.1) }

  -- THE ELEMENTS SET OUT, by their starts
  abbrev pub start : ElementName → ℕ
  start q = place_start (R.element_place d img q)

  module _ (laid : R.layout d img ≡ Ok (Answer.Total (octets_in d img))) where
    pub stands_at : (q : ElementName) → Is d img q → R.element_place d img q ≡ octets_at (start q) (size d img q)
    stands_at q h = let p = ((r.third d img).elements_stand _ laid).there q h in rw p.1

    pub set_out : SetOut (Is d img) (Before d img) (size d img) start (octets_in d img)
    set_out =
        let e = (r.third d img).elements_stand _ laid in
        record { order = λ q s h k. e.order q s _ _ _ _ (stands_at q h) (stands_at s k); ends = λ q h. e.ends q _ _ (stands_at q h) }

    -- without gaps, and each in one place where names are read up to their counts
    pub tiled : ((q s : ElementName) → SameName q s → q.count ≤ 4 → s.count ≤ 4 → R.element_place d img q ≡ R.element_place d img s)
        → Tiled (Is d img) SameName (size d img) start (octets_in d img)
    tiled counted =
        record {
          over = λ x l.
              let h = (((r.third d img).elements_stand _ laid).one x l).holds in
              let q = (((r.third d img).elements_stand _ laid).one x l).name in
              let is = (element_told q (told_none _ _ _ h.reply)).named in
              let at = stands_at q is in
              let first : h.start ≡ start q = cc (ap place_start h.reply) in
              let long : h.size ≡ size d img q = ap place_length (sym h.reply ∙ at) in
              record { name = q; is = is; from = omega (arith, h.from); to = omega (arith, h.to) };
          once = λ q s h k e. ap place_start (counted q s e (existing d _ q h).few (existing d _ s k).few);
          long = λ q s h k e. ap (length_in d (numbers_in d img)) e.item;
        }
