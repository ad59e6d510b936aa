-- What is chosen is what specs/Choices.antt says. Assumes nothing.
use Prim.Native.Nat.{ℕ, ◌-◌}
use mathlib.Core.Path.{◌≡◌, refl, sym, ◌∙◌, subst, ap}
use mathlib.Core.Logic.{⊎_elim}
use mathlib.Core.Bool.{Bool, true, false, ◌||◌, false≢true, or-true}
use mathlib.Core.List.Memᴰ
use mathlib.Core.List.{List, [], ◌∷◌}
use native.Mathlib.Omega.{arith}
use borrow.Author.Tests.{leb-true, eqb-true, le-leb, eq-eqb}
use Rattle.meaning.specs.Basics.{bits, ◌≤?◌}
use Rattle.meaning.specs.declared.Quantity.{Quantity}
use Rattle.meaning.specs.declared.Triple.{Triple}
use Rattle.meaning.specs.Passed.{Exactly}
use Rattle.meaning.specs.Calendar.{entry_if, or_later, latest, record_day, action, selects_season, season_entry, special_entry, season_on, season_stands, special_on, switch_minute, switch_entry}
use Rattle.almanac.specs.Latest.{◌among◌}
use Rattle.almanac.specs.Choices.{LatestOf, SelectsSeason, SeasonStands, SeasonSays, SelectsSpecial, SpecialSays, Switches, SwitchSays}
use Rattle.almanac.proofs.Tests.{all_four}
use Rattle.meaning.proofs.Either.{tested}
use Rattle.almanac.proofs.Latest.{latest_says, entry_some}
use Rattle.std.specs.Prelude.{Some, None}
use Rattle.meaning.specs.Values.{Chosen, entry}

-- RECORDS THAT BRING SOMETHING WHERE A CONDITION HOLDS: f brings `brings r` from `when r` on exactly where `Holds r`
record Brings (f : Triple → Chosen) (Holds : Triple → Type 0) (when brings : Triple → ℕ) : Type 0 where
  something : (r : Triple) → Holds r → f r ≡ entry (when r) (brings r)
  held : (r : Triple) (w x : ℕ) → f r ≡ entry w x → Holds r × (when r ≡ w) × (brings r ≡ x)
  nothing : (r : Triple) → (Holds r → ⊥) → f r ≡ None

-- when what is brought holds from, and what it is
abbrev from_of : Chosen → ℕ
from_of None = 0
from_of (Some e) = e.when

abbrev brought_of : Chosen → ℕ
brought_of None = 0
brought_of (Some e) = e.brings

-- where the condition is a test on the record
by_test : {Holds : Triple → Type 0} (test : Triple → Bool) (when brings : Triple → ℕ) → ((r : Triple) → Exactly (test r ≡ true) (Holds r))
    → Brings (λ r. entry_if (test r) (when r) (brings r)) Holds when brings
by_test {Holds} test when brings told =
    record {
      something = λ r h. rw ((told r).1 h);
      held =
          λ r w x. tested (λ z. z ≡ entry w x → Holds r × (when r ≡ w) × (brings r ≡ x)) (test r) _ _ (λ t e. ((told r).0 t, ap from_of e, ap brought_of e))
          (λ t e. absurd (entry_some (sym e)));
      nothing = λ r h. tested (λ z. z ≡ None) (test r) _ _ (λ t. absurd (h ((told r).0 t))) (λ t. refl);
    }

-- the same, put in other words
pub put : {A B C : Type 0} → Exactly A B → (B → C) → (C → B) → Exactly A C
put e there back = (λ a. there (e.0 a), λ c. e.1 (back c))

-- one that counts is chosen, and brings x from w on
record Chooses (Holds : Triple → Type 0) (when brings : Triple → ℕ) (rs : List Triple) (w x : ℕ) : Type 0 where
  chosen : Triple
  latest : LatestOf Holds when rs chosen
  time : when chosen ≡ w
  value : brings chosen ≡ x

module _ {f : Triple → Chosen} {Holds : Triple → Type 0} {when brings : Triple → ℕ} (b : Brings f Holds when brings) (rs : List Triple) where
  chosen_latest : (w x : ℕ) → Exactly (latest f rs ≡ entry w x) (Chooses Holds when brings rs w x)
  chosen_latest w x =
      put ((latest_says f rs).entry w x)
      (λ l.
      let h = b.held l.chosen w x l.brings in
      record {
        chosen = l.chosen;
        latest =
            record {
              before = l.before;
              after = l.after;
              all = l.all;
              counts = h.0;
              earlier = λ r m k. omega (arith, l.earlier r m (when r) (brings r) (b.something r k), h.1);
              later = λ r m k. omega (arith, l.later r m (when r) (brings r) (b.something r k), h.1);
            };
        time = h.1;
        value = h.2;
      })
      (λ c.
      let l = c.latest in
      record {
        before = l.before;
        chosen = c.chosen;
        after = l.after;
        all = l.all;
        brings = b.something c.chosen l.counts ∙ cc (c.time, c.value);
        earlier = λ r m v y e. let h = b.held r v y e in omega (arith, l.earlier r m h.0, h.1, c.time);
        later = λ r m v y e. let h = b.held r v y e in omega (arith, l.later r m h.0, h.1, c.time);
      })

  none_chosen : Exactly (latest f rs ≡ None) ((r : Triple) → r among rs → Holds r → ⊥)
  none_chosen =
      (λ e r m h. entry_some (sym (b.something r h) ∙ (latest_says f rs).nothing.0 e r m), λ h. (latest_says f rs).nothing.1 (λ r m. b.nothing r (h r m)))

-- THE SEASON
select_says : (day : ℕ) (r : Triple) → Exactly (selects_season day r ≡ true) (SelectsSeason day r)
unfolding selects_season
select_says day r = (
  λ e.
      let (a, b, c, d) = all_four _ _ _ _ e in
      record { real = a; not_after = leb-true _ _ b; from = leb-true _ _ c; to = leb-true _ _ d },
  λ s. rw (s.real, le-leb _ _ s.not_after, le-leb _ _ s.from, le-leb _ _ s.to),
)

season_brings : (day : ℕ) → Brings (season_entry day) (SelectsSeason day) record_day (λ r. action r - 3)
unfolding season_entry
season_brings day =
    by_test _ record_day (λ r. action r - 3) (select_says day)

-- one stands exactly where something is chosen
abbrev pub is_entry : Chosen → Bool
is_entry None = false
is_entry (Some e) = true

either_entry : (a b : Chosen) → is_entry (or_later a b) ≡ is_entry a || is_entry b
unfolding or_later
either_entry None b = refl
either_entry (Some e) None = refl
either_entry (Some z) (Some w) = tested (λ c. is_entry c ≡ true) (z.when ≤? w.when) _ _ (λ e. refl) (λ e. refl)

entry_if_lem : (b : Bool) (w x : ℕ) → is_entry (entry_if b w x) ≡ b
entry_if_lem true w x = refl
entry_if_lem false w x = refl

pub stands_chosen : (day : ℕ) (dates : List Triple) → is_entry (season_on day dates) ≡ season_stands day dates
unfolding season_on latest season_entry season_stands
stands_chosen day [] = refl
stands_chosen day (r ∷ rs) = either_entry (season_entry day r) (season_on day rs) ∙ rw (entry_if_lem (selects_season day r) (record_day r) (action r - 3), stands_chosen day rs)

some_stands : (day : ℕ) (dates : List Triple) → season_stands day dates ≡ true → SeasonStands day dates
unfolding season_stands
some_stands day [] e = absurd (false≢true e)
some_stands day (r ∷ rs) e = go (selects_season day r) refl e (some_stands day rs)
  where
    go : (b : Bool) → selects_season day r ≡ b → (b || season_stands day rs) ≡ true → (season_stands day rs ≡ true → SeasonStands day rs) → SeasonStands day (r ∷ rs)
    go true h f rest = record { standing = r; there = Memᴰ.head refl; selects = (select_says day r).0 h }
    go false h f rest = let s = rest f in record { standing = s.standing; there = Memᴰ.tail s.there; selects = s.selects }

stands_some : (day : ℕ) (dates : List Triple) (r : Triple) → r among dates → SelectsSeason day r → season_stands day dates ≡ true
unfolding season_stands
stands_some day [] r m s = absurd (Memᴰ.not-nil m)
stands_some day (t ∷ rs) r m s =
    ⊎_elim (λ q. let h : selects_season day t ≡ true = subst (λ (u : Triple). selects_season day u ≡ true) q ((select_says day r).1 s) in rw h)
    (λ q. rw (stands_some day rs r q s) (or-true (selects_season day t))) (Memᴰ.cases_cons m)

pub season_says : (day : ℕ) (dates : List Triple) → SeasonSays day dates
unfolding season_on
season_says day dates =
    let says = chosen_latest (season_brings day) dates in
    record {
      chosen =
          λ w s. put (says w s)
          (λ c. let h = c.latest.counts in record { chosen = c.chosen; latest = c.latest; date = c.time; season = omega (arith, c.value) })
          (λ c. record { chosen = c.chosen; latest = c.latest; time = c.date; value = omega (arith, c.season) });
      none = none_chosen (season_brings day) dates;
      range = λ w s e. let c = (says w s).0 e in let h = c.latest.counts in (omega (arith, c.time), omega (arith, c.value));
      stands = (some_stands day dates, λ s. stands_some day dates s.standing s.there s.selects);
    }

-- THE SPECIAL SCHEDULE
special_brings : (day : ℕ) → Brings (special_entry day) (SelectsSpecial day) record_day (λ r. action r - 19)
unfolding special_entry
special_brings day =
    by_test _ record_day (λ r. action r - 19)
    (λ r. (
      λ e.
          let (a, b, c, d) = all_four _ _ _ _ e in
          record { real = a; own_date = eqb-true _ _ b; from = leb-true _ _ c; to = leb-true _ _ d },
      λ s. rw (s.real, eq-eqb _ _ s.own_date, le-leb _ _ s.from, le-leb _ _ s.to),
    ))

-- all are of the day itself, so the latest is the last
pub special_says : (day : ℕ) (dates : List Triple) → SpecialSays day dates
unfolding special_on
special_says day dates =
    let says = chosen_latest (special_brings day) dates in
    record {
      chosen =
          λ w k. put (says w k)
          (λ c.
          let l = c.latest in
          let h = l.counts in
          record {
            before = l.before;
            chosen = c.chosen;
            after = l.after;
            all = l.all;
            selects = h;
            date = omega (arith, c.time);
            schedule = omega (arith, c.value);
            last = λ r m s. omega (arith, l.later r m s, s.own_date);
          })
          (λ c.
          let h = c.selects in
          record {
            chosen = c.chosen;
            latest =
                record {
                  before = c.before;
                  after = c.after;
                  all = c.all;
                  counts = h;
                  earlier = λ r m s. omega (arith, s.own_date);
                  later = λ r m s. absurd (c.last r m s);
                };
            time = omega (arith, c.date);
            value = omega (arith, c.schedule);
          });
      none = none_chosen (special_brings day) dates;
      range = λ w k e. let c = (says w k).0 e in let h = c.latest.counts in omega (arith, c.value);
    }

-- THE SWITCH
module _ (separate : Bool) (q : Quantity) (n m : ℕ) where
  switch_brings : Brings (switch_entry separate q n m) (Switches separate q n m) (λ r. switch_minute r.word) (λ r. bits 2 0 r.word)
  unfolding switch_entry
  switch_brings =
      by_test _ (λ r. switch_minute r.word) (λ r. bits 2 0 r.word)
      (λ r. (
        λ e.
            let (a, b, c, d) = all_four _ _ _ _ e in
            record { number = eqb-true _ _ a; real = b; not_after = leb-true _ _ c; counts = d },
        λ s. rw (eq-eqb _ _ s.number, s.real, le-leb _ _ s.not_after, s.counts),
      ))

  pub switch_says : (switches : List Triple) → SwitchSays separate q n m switches
  switch_says switches =
      let says = chosen_latest switch_brings switches in
      record {
        chosen =
            λ w x. put (says w x) (λ c. record { chosen = c.chosen; latest = c.latest; time = c.time; tier = c.value })
            (λ c. record { chosen = c.chosen; latest = c.latest; time = c.time; value = c.tier });
        none = none_chosen switch_brings switches;
        range = λ w x e. let c = (says w x).0 e in let h = c.latest.counts in (omega (arith, c.time), omega (arith, c.value));
      }
