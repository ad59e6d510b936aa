-- THE CALENDAR of our replies is what specs/Calendar.antt says, for every description and image. Assumes nothing.
use Prim.Native.Nat.{ℕ, ◌+◌, ◌*◌}
use mathlib.Core.Path.{◌≡◌, refl, sym, ◌∙◌}
use mathlib.Core.Bool.{false, not, ◌&&◌, ◌||◌, true≢false}
use mathlib.Core.List.{List}
use borrow.Author.Tests.{leb-false, lt-leb, not-false, not-true}
use Rattle.meaning.specs.Basics.{◌≤?◌}
use Rattle.meaning.specs.declared.Controls.{Controls}
use Rattle.meaning.specs.declared.Date.{Date}
use Rattle.meaning.specs.declared.Moment.{Moment}
use Rattle.meaning.specs.declared.Quantity.{Quantity}
use Rattle.meaning.specs.declared.Refusal.{Refusal}
use Rattle.meaning.specs.declared.Triple.{Triple}
use Rattle.meaning.specs.Layout.{data_order}
use Rattle.meaning.specs.Refusals.{table_part_reply}
use Rattle.meaning.specs.Calendar.{real_date, real_time, day_number, dates_of, season_on, in_season, season_stands, special_on, column_on, missing_special, cell_at, latest, switch_entry, switches_of, tier_from, tier_by_schedule, Found, found, tier_on, tier_day, tier_in, tier_reply, seasoned_in, seasoned_reply, matrix_in, matrix_reply, matrix_verdict_in, matrix_verdict, cells_after}
use Rattle.meaning.proofs.Either.{tested, clash}
use Rattle.meaning.proofs.Rules.{either_false}
use Rattle.almanac.specs.Choices.{SeasonStands, SwitchSays}
use Rattle.almanac.specs.Days.{number_of}
use Rattle.almanac.proofs.Tests.{both_true}
use Rattle.almanac.proofs.Choices.{season_says, special_says, stands_chosen, switch_says}
use Rattle.almanac.proofs.Matrix.{FoundIn, there, absent, calendar_found, matrix_found, matrix_fifteen}
use Rattle.demands.specs.Calendar.{ColumnOn, SeasonOn, Answerable, Scheduled, TierIs, NoneYetToday, TierAnswers, TierSays, Dated, SeasonedAnswers, SeasonedSays, MatrixSays}
use Rattle.std.specs.Prelude.{Ok, Err, Some, None}
use Rattle.meaning.specs.Values.{Reply, Chosen, passed, entry}
use Rattle.meaning.specs.declared.Answer.{Answer}

-- THE COLUMN of the special schedule on a day, where it isn't missing
module _ (c : Controls) (day : ℕ) (dates : List Triple) where
  column_only : (column : ℕ) → ColumnOn c day dates column → (missing_special c (special_on day dates) ≡ false) × (column_on c day (special_on day dates) ≡ column)
  unfolding missing_special column_on
  column_only column h = go (special_on day dates) refl
    where
      go : (x : Chosen) → special_on day dates ≡ x → (missing_special c x ≡ false) × (column_on c day x ≡ column)
      go None e = (refl, sym (h.weekday ((special_says day dates).none.0 e)))
      go (Some y) e = let s = h.special y.when y.brings (((special_says day dates).chosen y.when y.brings).0 e) in (lt-leb _ _ s.0, sym s.1)

  column_is : missing_special c (special_on day dates) ≡ false → ColumnOn c day dates (column_on c day (special_on day dates))
  unfolding missing_special column_on
  column_is h =
      record {
        special = λ w k s. let e = ((special_says day dates).chosen w k).1 s in rw e (leb-false c.specials k (rw e at h), refl);
        weekday = λ n. rw ((special_says day dates).none.1 n);
      }

-- THE SEASON on a day
module _ (day : ℕ) (dates : List Triple) where
  -- none stands where the test says so
  none_stands : season_stands day dates ≡ false → SeasonStands day dates → ⊥
  none_stands e s = true≢false (sym ((season_says day dates).stands.1 s) ∙ e)

  season_only : (season : ℕ) → SeasonOn day dates season → in_season (season_on day dates) ≡ season
  unfolding in_season
  season_only season h = go (season_on day dates) refl
    where
      go : (x : Chosen) → season_on day dates ≡ x → in_season x ≡ season
      go None e = sym (h.before (none_stands (sym (stands_chosen day dates) ∙ rw e)))
      go (Some y) e = sym (h.chosen y.when y.brings (((season_says day dates).chosen y.when y.brings).0 e))

  season_is : SeasonOn day dates (in_season (season_on day dates))
  unfolding in_season
  season_is =
      record {
        chosen = λ w s h. rw (((season_says day dates).chosen w s).1 h);
        before = λ n. go (season_on day dates) refl n;
      }
    where
      go : (x : Chosen) → season_on day dates ≡ x → (SeasonStands day dates → ⊥) → in_season x ≡ 0
      go None e n = refl
      go (Some y) e n = absurd (n ((season_says day dates).stands.0 (sym (stands_chosen day dates) ∙ rw e)))

-- THE TIER of a calendar that is found
module _ (o : ℕ) (c : Controls) (t : List ℕ) (w : Moment) (q : Quantity) where
  abbrev day : ℕ
  day = day_number w.year w.month w.day

  abbrev minute : ℕ
  minute = 60 * w.hour + w.minute

  abbrev dates : List Triple
  dates = dates_of o c t

  abbrev reply : Reply
  reply = tier_in w q (found o c t)

  abbrev Holds : Type 0
  Holds = Scheduled o c t passed w q

  abbrev switch_of : Holds → Chosen
  switch_of s = latest (switch_entry c.separate q s.schedule minute) (switches_of o c t)

  abbrev says : (s : Holds) → SwitchSays c.separate q s.schedule minute (switches_of o c t)
  says s = switch_says c.separate q s.schedule minute (switches_of o c t)

  -- a schedule holds, or the reply is a refusal
  data Decided (x : Reply) : Type 0 where
    holds : Holds → Decided x
    refuses : (r : Refusal) → x ≡ Err r → Decided x

  abbrev season : ℕ
  season = in_season (season_on day dates)

  -- by the test of 19
  by_season : Answerable c passed w → Decided (tier_on o c t day minute q (special_on day dates) season)
  unfolding tier_on cell_at
  by_season a =
      tested Decided (c.seasons ≤? season || missing_special c (special_on day dates)) _ _ (λ f. refuses _ refl)
      (λ f.
      let (row, column) = either_false _ _ f in
      holds
      (record {
        answerable = a;
        schedule = cell_at c t season (column_on c day (special_on day dates));
        on =
            record {
              season = season;
              in_season = season_is day dates;
              row = leb-false _ _ row;
              column = column_on c day (special_on day dates);
              is = column_is c day dates column;
              entry = refl;
            };
      }))

  -- and before them of 16 and 18
  decided : Decided reply
  unfolding tier_in tier_day
  decided =
      tested Decided (not (real_date w.year w.month w.day && real_time w.hour w.minute)) _ _
      (λ e. refuses _ refl)
      (λ e.
      let (date, time) = both_true _ _ (not-false _ e) in
      tested Decided c.armed _ _ (λ f. refuses _ refl)
      (λ f. by_season (record { calendar = refl; date = date; time = time; unarmed = f })))

  -- where one holds, its switch decides
  by_switch : (s : Holds) → reply ≡ tier_from (switch_of s)
  unfolding tier_in tier_day tier_on tier_by_schedule cell_at
  by_switch s =
      let a = s.answerable in
      let h = s.on in
      let p = column_only c day dates h.column h.is in
      rw (a.date, a.time, season_only day dates h.season h.in_season, lt-leb _ _ h.row, p.0, p.1, h.entry, a.unarmed)

  -- so the reply is one of these
  pub data OneOf : Type 0 where
    refusal : (r : Refusal) → reply ≡ Err r → OneOf
    none : (s : Holds) → switch_of s ≡ None → reply ≡ Ok Answer.NoneYet → OneOf
    tier : (s : Holds) (v x : ℕ) → switch_of s ≡ entry v x → reply ≡ Ok (Answer.Tier x) → OneOf

  one_of : Decided reply → OneOf
  unfolding tier_from
  one_of (refuses r e) = refusal r e
  one_of (holds s) = go (switch_of s) refl
    where
      go : (y : Chosen) → switch_of s ≡ y → OneOf
      go None e = none s e (by_switch s ∙ rw e)
      go (Some w) e = tier s w.when w.brings e (by_switch s ∙ rw e)

  -- whichever
  pub answer : OneOf
  answer = one_of decided

  tier_only : (x : ℕ) → reply ≡ Ok (Answer.Tier x) → OneOf → TierIs o c t passed w q x
  tier_only x e (refusal r f) = clash (cc)
  tier_only x e (none s g f) = clash (cc)
  tier_only x e (tier s v y g f) = record { scheduled = s; time = v; switch = ((says s).chosen v x).0 (cc) }

  none_only : reply ≡ Ok Answer.NoneYet → OneOf → NoneYetToday o c t passed w q
  none_only e (refusal r f) = clash (cc)
  none_only e (none s g f) = record { scheduled = s; none = (says s).none.0 g }
  none_only e (tier s v y g f) = clash (cc)

  tier_told : TierAnswers o c t passed w q reply
  unfolding tier_from
  tier_told =
      record {
        tier = λ x. (λ e. tier_only x e answer, λ h. by_switch h.scheduled ∙ rw (((says h.scheduled).chosen h.time x).1 h.switch));
        none = (λ e. none_only e answer, λ h. by_switch h.scheduled ∙ rw ((says h.scheduled).none.1 h.none));
      }

-- WHETHER A SEASON RECORD STANDS in a calendar that is found
module _ (o : ℕ) (c : Controls) (b : List ℕ) (t : Date) where
  abbrev Stands : Type 0
  Stands = SeasonStands (number_of t) (dates_of o c b)

  -- the reply is one of these
  pub data Stood (x : Reply) : Type 0 where
    unreal : (r : Refusal) → x ≡ Err r → (Dated passed t → ⊥) → Stood x
    stands : x ≡ Ok Answer.Yes → Dated passed t → Stands → Stood x
    stands_none : x ≡ Ok Answer.No → Dated passed t → (Stands → ⊥) → Stood x

  -- whichever
  pub stood : Stood (seasoned_in t (found o c b))
  unfolding seasoned_in
  stood =
      tested Stood (not (real_date t.year t.month t.day)) _ _
      (λ e. unreal _ refl (λ d. true≢false (sym d.date ∙ not-true _ e)))
      (λ e.
      let dated : Dated passed t = record { calendar = refl; date = not-false _ e } in
      tested Stood (season_stands (number_of t) (dates_of o c b)) _ _
      (λ f. stands refl dated ((season_says (number_of t) (dates_of o c b)).stands.0 f))
      (λ f. stands_none refl dated (none_stands (number_of t) (dates_of o c b) f)))

  stood_told : (x : Reply) → Stood x → SeasonedAnswers o c b passed t x
  stood_told x (unreal r e n) = record { yes = (λ f. clash (cc), λ h. absurd (n h.0)); no = (λ f. clash (cc), λ h. absurd (n h.0)) }
  stood_told x (stands e d s) = record { yes = (λ f. (d, s), λ h. e); no = (λ f. clash (cc), λ h. absurd (h.1 s)) }
  stood_told x (stands_none e d s) = record { yes = (λ f. clash (cc), λ h. absurd (s h.1)); no = (λ f. (d, s), λ h. e) }

-- OUR REPLIES: a calendar is found in the octets of the two tables, or every reply is the refusal
tier_in_lem : {o : ℕ} {a b : List ℕ} {x : Found} → FoundIn o a b x → (w : Moment) (q : Quantity) → TierSays o a b (matrix_verdict_in x) w q (tier_in w q x)
unfolding matrix_verdict_in tier_in
tier_in_lem (there s) w q = tier_told _ _ _ w q
tier_in_lem (absent r) w q = record { tier = λ x. (λ e. clash (cc), λ h. clash (cc)); none = (λ e. clash (cc), λ h. clash (cc)) }

pub tier_says : (d img : List ℕ) (w : Moment) (q : Quantity)
    → TierSays (data_order img) (table_part_reply d img 0 51) (table_part_reply d img 0 54) (matrix_verdict d img) w q (tier_reply d img w q)
unfolding tier_reply matrix_verdict
tier_says d img = tier_in_lem (calendar_found d img)

seasoned_in_lem : {o : ℕ} {a b : List ℕ} {x : Found} → FoundIn o a b x → (t : Date) → SeasonedSays o a b (matrix_verdict_in x) t (seasoned_in t x)
unfolding matrix_verdict_in seasoned_in
seasoned_in_lem (there s) t = stood_told _ _ _ t _ (stood _ _ _ t)
seasoned_in_lem (absent r) t = record { yes = (λ e. clash (cc), λ h. let e = h.0.calendar in clash (cc)); no = (λ e. clash (cc), λ h. let e = h.0.calendar in clash (cc)) }

pub seasoned_says : (d img : List ℕ) (t : Date)
    → SeasonedSays (data_order img) (table_part_reply d img 0 51) (table_part_reply d img 0 54) (matrix_verdict d img) t (seasoned_reply d img t)
unfolding seasoned_reply matrix_verdict
seasoned_says d img = seasoned_in_lem (calendar_found d img)

matrix_in_lem : {o : ℕ} {a b : List ℕ} {x : Found} → FoundIn o a b x
    → MatrixSays o a b (matrix_verdict_in x) (matrix_in x) (cells_after (matrix_verdict_in x) (matrix_in x))
unfolding matrix_verdict_in cells_after
matrix_in_lem (there s) =
    record {
      fifteen = matrix_fifteen _;
      shown = λ e. matrix_found _ _ _ s;
      written = λ e lent. refl;
    }
matrix_in_lem (absent r) =
    record {
      fifteen = matrix_fifteen _;
      shown = λ e. clash (cc);
      written = λ e. clash (cc);
    }

pub matrix_says : (d img : List ℕ)
    → MatrixSays (data_order img) (table_part_reply d img 0 51) (table_part_reply d img 0 54) (matrix_verdict d img) (matrix_reply d img)
    (cells_after (matrix_verdict d img) (matrix_reply d img))
unfolding matrix_reply matrix_verdict
matrix_says d img = matrix_in_lem (calendar_found d img)
