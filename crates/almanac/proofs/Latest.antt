-- The latest of what some records bring is what specs/Latest.antt says. Assumes nothing.
use Prim.Native.Nat.{ℕ, suc, ◌<◌, ◌≤◌}
use mathlib.Core.Path.{◌≡◌, refl, sym, ap, ◌∙◌}
use mathlib.Core.Logic.{◌⊎◌, inl, inr, ⊎_elim}
use mathlib.Core.List.Memᴰ
use mathlib.Core.List.{List, [], ◌∷◌, ◌++◌}
use native.Mathlib.Omega.{arith}
use borrow.Author.Tests.{le-leb, lt-leb}
use Rattle.meaning.specs.declared.Triple.{Triple}
use Rattle.meaning.specs.Calendar.{or_later, latest}
use Rattle.almanac.specs.Latest.{◌among◌, Latest, LatestSays}
use Rattle.almanac.proofs.Tests.{lt_or_ge}
use Rattle.meaning.proofs.Either.{clash}
use Rattle.std.specs.Prelude.{Some, None}
use Rattle.meaning.specs.Values.{Chosen, entry}

-- AN EARLIER RECORD'S BEFORE A LATER ONE'S
pub none_earlier : (b : Chosen) → or_later None b ≡ b
unfolding or_later
none_earlier b = refl

pub none_later : (a : Chosen) → or_later a None ≡ a
unfolding or_later
none_later None = refl
none_later (Some e) = refl

pub later_wins : (w x v y : ℕ) → w ≤ v → or_later (entry w x) (entry v y) ≡ entry v y
unfolding or_later
later_wins w x v y h = rw (le-leb w v h)

pub earlier_stays : (w x v y : ℕ) → v < w → or_later (entry w x) (entry v y) ≡ entry w x
unfolding or_later
earlier_stays w x v y h = rw (lt-leb w v h)

-- something isn't nothing
pub entry_some : {w x : ℕ} → entry w x ≡ None → ⊥
entry_some e = clash (cc)

-- BEFORE A TIME: what is brought holds from an earlier time on, or is nothing
abbrev Below : ℕ → Chosen → Type 0
Below w None = Unit {0}
Below w (Some e) = e.when < w

below_by : (w : ℕ) (c : Chosen) → ((v y : ℕ) → c ≡ entry v y → v < w) → Below w c
below_by w None h = tt
below_by w (Some e) h = h e.when e.brings refl

below_none : (c : Chosen) → Below 0 c → c ≡ None
below_none None h = refl
below_none (Some e) h = absurd (omega arith)

-- of two, both
below_both : (w : ℕ) (a b : Chosen) → Below w (or_later a b) → Below w a × Below w b
unfolding or_later
below_both w None b h = (tt, h)
below_both w (Some e) None h = (h, tt)
below_both w (Some e) (Some y) h =
    ⊎_elim (λ l. let k : e.when < w = rw (lt-leb e.when y.when l) at h in (k, omega arith)) (λ l. let k : y.when < w = rw (le-leb e.when y.when l) at h in (omega arith, k)) (lt_or_ge y.when e.when)

-- the earlier record's is chosen where the later's is below it, the later's where the earlier's isn't past it
chosen_of : (a b : Chosen) (w x : ℕ) → or_later a b ≡ entry w x → ((a ≡ entry w x) × Below w b) ⊎ ((b ≡ entry w x) × Below (suc w) a)
unfolding or_later
chosen_of None b w x e = inr (e, tt)
chosen_of (Some z) None w x e = inl (e, tt)
chosen_of (Some there) (Some y) w x e =
    ⊎_elim (λ l. let n : entry there.when there.brings ≡ entry w x = rw (lt-leb there.when y.when l) at e in let k : there.when ≡ w = cc in inl (n, omega arith))
    (λ l. let n : entry y.when y.brings ≡ entry w x = rw (le-leb there.when y.when l) at e in let k : y.when ≡ w = cc in inr (n, omega arith)) (lt_or_ge y.when there.when)

first_of : (w x : ℕ) (b : Chosen) → Below w b → or_later (entry w x) b ≡ entry w x
first_of w x None h = none_later (entry w x)
first_of w x (Some e) h = earlier_stays w x e.when e.brings h

last_of : (a : Chosen) (w x : ℕ) → Below (suc w) a → or_later a (entry w x) ≡ entry w x
last_of None w x h = none_earlier (entry w x)
last_of (Some e) w x h = later_wins e.when e.brings w x (omega arith)

module _ (f : Triple → Chosen) where
  -- of all records: what is chosen is below a time exactly where each record's is
  all_below_lem : (w : ℕ) (rs : List Triple) → ((r : Triple) → r among rs → Below w (f r)) → Below w (latest f rs)
  unfolding latest
  all_below_lem w [] h = tt
  all_below_lem w (r ∷ rs) h =
      below_by w (latest f (r ∷ rs))
      (λ v y e.
      ⊎_elim (λ p. rw p.0 at (h r (Memᴰ.head refl))) (λ p. rw p.0 at (all_below_lem w rs (λ s m. h s (Memᴰ.tail m))))
      (chosen_of (f r) (latest f rs) v y e))

  below_all : (w : ℕ) (rs : List Triple) → Below w (latest f rs) → (r : Triple) → r among rs → Below w (f r)
  unfolding latest
  below_all w [] h r m = absurd (Memᴰ.not-nil m)
  below_all w (s ∷ rs) h r m =
      let p = below_both w (f s) (latest f rs) h in
      ⊎_elim (λ q. rw q p.0) (λ q. below_all w rs p.1 r q) (Memᴰ.cases_cons m)

  -- the first record is chosen, or one after it
  latest_is : (rs : List Triple) (w x : ℕ) → latest f rs ≡ entry w x → Latest f rs w x
  unfolding latest
  latest_is [] w x e = absurd (entry_some (sym e))
  latest_is (r ∷ rs) w x e =
      ⊎_elim
      (λ (p, b).
      record {
        before = [];
        chosen = r;
        after = rs;
        all = refl;
        brings = p;
        earlier = λ s m. absurd (Memᴰ.not-nil m);
        later = λ s m v y q. rw q at (below_all w rs b s m);
      })
      (λ (p, b).
      let l = latest_is rs w x p in
      record {
        before = r ∷ l.before;
        chosen = l.chosen;
        after = l.after;
        all = ap (λ (s : List Triple). r ∷ s) l.all;
        brings = l.brings;
        earlier =
            λ s m v y e.
            ⊎_elim (λ q. let z : f r ≡ entry v y = cc in let k : v < suc w = rw z at b in omega arith) (λ q. l.earlier s q v y e) (Memᴰ.cases_cons m);
        later = l.later;
      })
      (chosen_of (f r) (latest f rs) w x e)

  is_latest : (before : List Triple) (r : Triple) (after : List Triple) (w x : ℕ) → f r ≡ entry w x
      → ((s : Triple) → s among before → (v y : ℕ) → f s ≡ entry v y → v ≤ w)
      → ((s : Triple) → s among after → (v y : ℕ) → f s ≡ entry v y → v < w)
      → latest f (before ++ r ∷ after) ≡ entry w x
  unfolding latest
  is_latest [] r after w x e g h = rw e (first_of w x (latest f after) (all_below_lem w after (λ s m. below_by w (f s) (h s m))))
  is_latest (b ∷ bs) r after w x e g h =
      rw (is_latest bs r after w x e (λ s m. g s (Memᴰ.tail m)) h)
      (last_of (f b) w x (below_by (suc w) (f b) (λ v y q. omega (arith, g b (Memᴰ.head refl) v y q))))

  pub latest_says : (rs : List Triple) → LatestSays f rs
  latest_says rs =
      record {
        entry =
            λ w x. (latest_is rs w x, λ l. ap (latest f) l.all ∙ is_latest l.before l.chosen l.after w x l.brings l.earlier l.later);
        nothing =
            (λ e r m. below_none (f r) (below_all 0 rs (rw e tt) r m), λ h. below_none (latest f rs) (all_below_lem 0 rs (λ r m. rw (h r m) tt)));
      }
