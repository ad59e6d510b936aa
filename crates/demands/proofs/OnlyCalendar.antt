-- THE DEMANDS DECIDE THE CALENDAR: two families R and S that meet them and read alike tell the same tier, the same matrix, and alike whether a season record stands. Assumes of S besides
-- that it answers with a tier or "none yet today", with yes or no, if it isn't refused.
use Prim.Native.Nat.{ℕ, ◌<◌, ◌≤◌}
use mathlib.Core.Path.{◌≡◌, refl, sym, ◌∙◌, ap}
use mathlib.Core.Logic.{◌⊎◌, inl, inr}
use mathlib.Core.List.{List, []}
use lib.ListN.{get_or}
use lib.Seq.{ext_get_or}
use native.Mathlib.Omega.{arith}
use Rattle.meaning.specs.declared.Controls.{Controls}
use Rattle.meaning.specs.declared.Date.{Date}
use Rattle.meaning.specs.declared.Moment.{Moment}
use Rattle.meaning.specs.declared.Quantity.{Quantity}
use Rattle.meaning.specs.declared.Refusal.{Refusal}
use Rattle.meaning.specs.Calendar.{row_width}
use Rattle.meaning.specs.Layout.{data_order}
use Rattle.meaning.specs.Questions as ask
use Rattle.meaning.specs.Questions.{refusal_in}
use Rattle.almanac.specs.Matrix.{cell, Fifteen, Shown}
use Rattle.almanac.proofs.Tests.{lt_or_ge}
use Rattle.demands.specs.Calendar.{TierSays, SeasonedSays, MatrixSays}
use Rattle.demands.specs.Demand1.{of_calendar, of_moment, refusals_of}
use Rattle.demands.specs.Demands.{Demands}
use Rattle.demands.specs.Replies.{Replies, outcome_by}
use Rattle.demands.proofs.OnlyFirst.{reply_refused, verdict_same, refusal_same}
use Rattle.std.specs.Prelude.{Ok, Err}
use Rattle.meaning.specs.Values.{Verdict, Reply}
use Rattle.meaning.specs.declared.Answer.{Answer}
use Rattle.meaning.specs.Values.{passed}

-- THE MATRIX
-- fifteen rows of twenty-two with the same cells
fifteen_same : (a b : List (List ℕ)) → Fifteen a → Fifteen b → ((row column : ℕ) → cell a row column ≡ cell b row column) → a ≡ b
fifteen_same a b h k e =
    ext_get_or [] a b (h.rows ∙ sym k.rows) (λ i l.
    let m : i < 15 = omega (arith, h.rows) in
    ext_get_or 0 (get_or a i []) (get_or b i []) (h.columns i m ∙ sym (k.columns i m)) (λ j n. e i j))

-- cells that show the same octets
shown_same : (c : Controls) (t : List ℕ) (a b : List (List ℕ)) → Shown c t a → Shown c t b → (row column : ℕ) → cell a row column ≡ cell b row column
shown_same c t a b h k row column = go (lt_or_ge row c.seasons) (lt_or_ge column (row_width c))
  where
    go : (row < c.seasons) ⊎ (c.seasons ≤ row) → (column < row_width c) ⊎ (row_width c ≤ column) → cell a row column ≡ cell b row column
    go (inl x) (inl y) = h.used row column x y ∙ sym (k.used row column x y)
    go (inl x) (inr y) = h.unused row column (inr y) ∙ sym (k.unused row column (inr y))
    go (inr x) y = h.unused row column (inl x) ∙ sym (k.unused row column (inl x))

-- THE TIER: one of these
pub data TierKind (x : Reply) : Type 0 where
  refused : (r : Refusal) → x ≡ Err r → TierKind x
  told : (t : ℕ) → x ≡ Ok (Answer.Tier t) → TierKind x
  none : x ≡ Ok Answer.NoneYet → TierKind x

tier_same : (o : ℕ) (t u : List ℕ) (had : Verdict) (w : Moment) (q : Quantity) (x y : Reply) → TierSays o t u had w q x → TierSays o t u had w q y
    → refusal_in x ≡ refusal_in y → TierKind y → x ≡ y
unfolding refusal_in
tier_same o t u had w q x y h k e (refused r f) = reply_refused x r (e ∙ ap refusal_in f) ∙ sym f
tier_same o t u had w q x y h k e (told z f) = (h.tier z).1 ((k.tier z).0 f) ∙ sym f
tier_same o t u had w q x y h k e (none f) = h.none.1 (k.none.0 f) ∙ sym f

-- WHETHER A SEASON RECORD STANDS: one of these
pub data SeasonedKind (x : Reply) : Type 0 where
  barred : (r : Refusal) → x ≡ Err r → SeasonedKind x
  stands : x ≡ Ok Answer.Yes → SeasonedKind x
  before : x ≡ Ok Answer.No → SeasonedKind x

seasoned_same : (o : ℕ) (t u : List ℕ) (had : Verdict) (w : Date) (x y : Reply) → SeasonedSays o t u had w x → SeasonedSays o t u had w y
    → refusal_in x ≡ refusal_in y → SeasonedKind y → x ≡ y
unfolding refusal_in
seasoned_same o t u had w x y h k e (barred r f) = reply_refused x r (e ∙ ap refusal_in f) ∙ sym f
seasoned_same o t u had w x y h k e (stands f) = h.yes.1 (k.yes.0 f) ∙ sym f
seasoned_same o t u had w x y h k e (before f) = h.no.1 (k.no.0 f) ∙ sym f

module _ (R S : Replies) (r : Demands R) (s : Demands S) (d img : List ℕ) (layout : R.layout d img ≡ S.layout d img)
    (part : (m k : ℕ) → R.table_part d img m k ≡ S.table_part d img m k) where
  pub had_only : R.matrix_verdict d img ≡ S.matrix_verdict d img
  unfolding outcome_by refusals_of of_calendar
  had_only = verdict_same _ _ (refusal_same R S r s d img ask.matrix (rw (layout, part 0 51, part 0 54)))

  matrix_says : MatrixSays (data_order img) (S.table_part d img 0 51) (S.table_part d img 0 54) (S.matrix_verdict d img) (R.matrix d img) (R.matrix_cells d img)
  matrix_says = rw (← part 0 51, ← part 0 54, ← had_only) (r.second d img).calendar.matrix

  -- shown by the same octets, or refused and all 0
  pub matrix_only : R.matrix d img ≡ S.matrix d img
  matrix_only = go (S.matrix_verdict d img) refl
    where
      go : (v : Verdict) → S.matrix_verdict d img ≡ v → R.matrix d img ≡ S.matrix d img
      go passed e =
          let k = (s.second d img).calendar.matrix in
          fifteen_same _ _ matrix_says.fifteen k.fifteen (shown_same _ _ _ _ (matrix_says.shown e) (k.shown e))
      go (Err x) e = (r.first d img).octets.matrix x (had_only ∙ e) ∙ sym ((s.first d img).octets.matrix x e)

  -- and cells lent hold it, or stay
  pub cells_only : (lent : List (List ℕ)) → R.matrix_cells d img lent ≡ S.matrix_cells d img lent
  cells_only lent = go (S.matrix_verdict d img) refl
    where
      go : (v : Verdict) → S.matrix_verdict d img ≡ v → R.matrix_cells d img lent ≡ S.matrix_cells d img lent
      go passed e = matrix_says.written e lent ∙ matrix_only ∙ sym ((s.second d img).calendar.matrix.written e lent)
      go (Err x) e = (r.first d img).octets.matrix_cells x (had_only ∙ e) lent ∙ sym ((s.first d img).octets.matrix_cells x e lent)

  pub tier_only : (w : Moment) (q : Quantity) → TierKind (S.tier d img w q) → R.tier d img w q ≡ S.tier d img w q
  unfolding outcome_by refusals_of of_calendar of_moment
  tier_only w q =
      tier_same (data_order img) (S.table_part d img 0 51) (S.table_part d img 0 54) (S.matrix_verdict d img) w q _ _
      (rw (← part 0 51, ← part 0 54, ← had_only) ((r.second d img).calendar.tier w q)) ((s.second d img).calendar.tier w q)
      (refusal_same R S r s d img (ask.tier w q) (rw (layout, part 0 51, part 0 54)))

  pub seasoned_only : (t : Date) → SeasonedKind (S.seasoned d img t) → R.seasoned d img t ≡ S.seasoned d img t
  unfolding outcome_by refusals_of of_calendar
  seasoned_only t =
      seasoned_same (data_order img) (S.table_part d img 0 51) (S.table_part d img 0 54) (S.matrix_verdict d img) t _ _
      (rw (← part 0 51, ← part 0 54, ← had_only) ((r.second d img).calendar.seasoned t)) ((s.second d img).calendar.seasoned t)
      (refusal_same R S r s d img (ask.seasoned t) (rw (layout, part 0 51, part 0 54)))
