-- Of demand 3: a description is passed exactly when it meets the rules; a passed one lays out exactly where every piece ends inside the image, and else is short exactly where the walk
-- first runs past the end. Assumes nothing.
use Prim.Native.Nat.{ℕ, ◌<◌}
use mathlib.Core.Path.{◌≡◌, ◌∙◌, ap, sym, subst}
use mathlib.Core.Logic.{inl, inr}
use mathlib.Core.Bool.{true≢false}
use mathlib.Core.List.{List}
use lib.ListN.{length}
use borrow.Author.Tests.{ltb-true}
use native.Mathlib.Decide.{dec_lt}
use native.Mathlib.Omega.{arith}
use Rattle.meaning.specs.Layout.{Placed, short, stopped_at, lay_out}
use Rattle.meaning.specs.Refusals.{told_by, stop_refusal, open_laid, layout_in, layout_reply}
use Rattle.meaning.specs.Numbers.{image_short}
use Rattle.laying.specs.Outcomes.{Lays}
use Rattle.laying.proofs.Opened.{opening, open_laid_lem, total_laid, total_opens}
use Rattle.laying.proofs.Reaches.{passed_lays}
use Rattle.demands.specs.Demand3.{PassedExactly, Passed, NoneMet, LaysOrShort, ShortExactly, AllInside, TotalExactly}
use Rattle.demands.specs.Replies.{ours}
use Rattle.demands.specs.Walk.{FirstPast}
use Rattle.demands.proofs.Laid.{laid_facts, short_first}
use Rattle.demands.proofs.Rules.{check_in_words}
use Rattle.meaning.proofs.Either.{clash}
use Rattle.std.specs.Prelude.{Ok, Err}
use Rattle.meaning.specs.Values.{Reply}
use Rattle.meaning.specs.declared.Answer.{Answer}
use Rattle.meaning.specs.declared.Refusal.{Refusal}

-- a description is passed exactly when it meets the rules
pub passed_exactly_lem : (d : List ℕ) → PassedExactly ours d
passed_exactly_lem d = (check_in_words d).passed

-- a passed description never meets what it must not meet
pub none_met_lem : (d img : List ℕ) → Passed ours d img → NoneMet d img
unfolding Lays
none_met_lem d img p =
    record {
      unread = λ es i e. subst Lays e (passed_lays d img p.passes);
      outside = λ es i e. subst Lays e (passed_lays d img p.passes);
      unequal = λ es i e. subst Lays e (passed_lays d img p.passes);
      stray = λ es i e. subst Lays e (passed_lays d img p.passes);
    }

-- THE FIRST PIECE PAST THE END
abbrev refusing : Refusal → Reply
refusing r = Err r

module _ {d img : List ℕ} where
  -- none stands before it, so there is one
  not_later : {i j p q : ℕ} → FirstPast d img i p → FirstPast d img j q → i < j → ⊥
  not_later f g l = true≢false (sym f.past ∙ g.before _ l)

  one_item : {i j p q : ℕ} → FirstPast d img i p → FirstPast d img j q → i ≡ j
  one_item {i} {j} f g = go (dec_lt i j) (dec_lt j i)
    where
      go : Dec (i < j) → Dec (j < i) → i ≡ j
      go (yes l) b = absurd (not_later f g l)
      go (no a) (yes l) = absurd (not_later g f l)
      go (no a) (no b) = omega arith

  one_octet : {i j p q : ℕ} → FirstPast d img i p → FirstPast d img j q → p ≡ q
  one_octet f g = let e = one_item f g in sym f.at ∙ rw e g.at

  -- and none where all end inside
  none_past : {i p n : ℕ} → FirstPast d img i p → AllInside d img n → ⊥
  none_past f a = true≢false (sym f.past ∙ a.pieces _ f.there)

module _ {d img : List ℕ} (p : Passed ours d img) where
  -- a short image's reply
  short_told : (es : List Placed) (i q : ℕ) → lay_out d img ≡ stopped_at es (short i q) → layout_reply d img ≡ Err (image_short i q)
  unfolding layout_reply layout_in open_laid stop_refusal
  short_told es i q e = rw (open_laid_lem d img p.passes p.allowed, e)

  -- it is short, where the first piece is past the end; or opens, where all end inside
  ends : {A : Type 0} → ((i q : ℕ) → layout_reply d img ≡ Err (image_short i q) → FirstPast d img i q → A)
      → ((n : ℕ) → layout_reply d img ≡ Ok (Answer.Total n) → AllInside d img n → A) → A
  ends cut whole =
      opening d img (λ r e h. clash (cc p.passes))
      (λ q l h. absurd (omega (arith, ltb-true 65535 (length img) l, p.allowed)))
      (λ q l es i x e h. cut i x (short_told es i x e) (short_first d img q es i x e)) (λ ts es s n o. whole n (total_laid o) (laid_facts o).inside)

  -- it lays out, or is refused as short
  pub lays_or_short_lem : LaysOrShort ours d img
  lays_or_short_lem = ends (λ i q e f. inr (record { item = i; octet = q; reply = e })) (λ n e a. inl (record { total = n; reply = e }))

  -- short exactly where the walk first runs past the end
  pub short_exactly_lem : ShortExactly ours d img
  unfolding told_by
  short_exactly_lem i q = (
    (λ e. ends (λ j r h f. moved j r f (sym h ∙ e)) (λ n h a. clash (cc))),
    λ f. ends (λ j r h g. let a = one_item f g in let b = one_octet f g in rw (a, b) h) (λ n h a. absurd (none_past f a)),
  )
    where
      moved : (j r : ℕ) → FirstPast d img j r → refusing (image_short j r) ≡ refusing (image_short i q) → FirstPast d img i q
      moved j r f h = subst (λ k. FirstPast d img k q) (ap (λ x. (told_by x).refusal.item) h) (subst (FirstPast d img j) (ap (λ x. (told_by x).refusal.octet) h) f)

  -- laid out exactly where every piece ends inside the image
  pub total_exactly_lem : TotalExactly ours d img
  total_exactly_lem n = (
    (λ e. (laid_facts (total_opens d img n e).opens).inside),
    λ a. ends (λ i q h f. absurd (none_past f a)) (λ m h b. h ∙ ap (λ n. Ok (Answer.Total n)) (sym b.ends ∙ a.ends)),
  )
