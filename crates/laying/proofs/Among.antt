-- Elements and tables found by name are among those laid out; and of elements that follow one another, exactly one holds an octet. Assumes nothing.
use Prim.Native.Nat.{ℕ, ◌+◌, ◌<◌, ◌≤◌}
use mathlib.Core.Path.{◌≡◌, refl, sym, ap, subst, ◌∙◌}
use mathlib.Core.Logic.{◌⊎◌, inl, inr}
use mathlib.Core.Bool.{◌&&◌, and-eq-true_iff}
use mathlib.Core.List.{List, [], ◌∷◌, ◌++◌}
use mathlib.Core.Option.{some}
use borrow.Author.Tests.{eqb-true}
use native.Mathlib.Decide.{dec_lt}
use native.Mathlib.Omega.{arith}
use Rattle.meaning.specs.Basics.{◌=?◌}
use Rattle.meaning.specs.Layout.{Placed, Seat, same_list, element_named, table_named}
use Rattle.laying.specs.Every.{Every}
use Rattle.meaning.proofs.Either.{tested, clash}
use Rattle.laying.proofs.Apart.{named_true}
use Rattle.laying.proofs.Cover.{Lies, Consecutive, no_more, next, consecutive_fill}

-- x is one of them
unfoldable pub Among : {A : Type 0} → A → List A → Type 0
Among x [] = ⊥
Among x (y ∷ ys) = (y ≡ x) ⊎ Among x ys

-- what holds of everything holds of it
pub every_among : {A : Type 0} (P : A → Type 0) (x : A) (xs : List A) → Every P xs → Among x xs → P x
unfolding Every Among
every_among P x [] h m = absurd m
every_among P x (y ∷ ys) h (inl e) = subst P e h.0
every_among P x (y ∷ ys) h (inr m) = every_among P x ys h.1 m

-- what holds of each of them holds of everything
pub among_every : {A : Type 0} (P : A → Type 0) (xs : List A) → ((x : A) → Among x xs → P x) → Every P xs
unfolding Every Among
among_every P [] h = tt
among_every P (x ∷ xs) h = (h x (inl refl), among_every P xs (λ y m. h y (inr m)))

-- in one of two lists
pub among_left : {A : Type 0} (x : A) (xs ys : List A) → Among x xs → Among x (xs ++ ys)
unfolding Among
among_left x [] ys m = absurd m
among_left x (z ∷ xs) ys (inl e) = inl e
among_left x (z ∷ xs) ys (inr m) = inr (among_left x xs ys m)

pub among_right : {A : Type 0} (x : A) (xs ys : List A) → Among x ys → Among x (xs ++ ys)
unfolding Among
among_right x [] ys m = m
among_right x (z ∷ xs) ys m = inr (among_right x xs ys m)

-- FOUND BY NAME
-- one of the elements, of that name
pub record ElementOf (i : ℕ) (subs : List ℕ) (es : List Placed) (e : Placed) : Type 0 where
  pub among : Among e es
  pub item : e.item ≡ i
  pub subscripts : e.subscripts ≡ subs

-- the element found by a name is one of them, and has that name
pub named_among : (i : ℕ) (subs : List ℕ) (es : List Placed) (e : Placed) → element_named i subs es ≡ some e → ElementOf i subs es e
unfolding element_named Among
named_among i subs [] e h = clash (cc)
named_among i subs (f ∷ es) e h =
    tested (λ o. o ≡ some e → ElementOf i subs (f ∷ es) e) (f.item =? i && same_list f.subscripts subs) (some f) (element_named i subs es)
    (λ t g. let n = named_true f i subs t in let s : f ≡ e = cc in record { among = inl s; item = cc; subscripts = cc })
    (λ t g. let r = named_among i subs es e g in record { among = inr r.among; item = r.item; subscripts = r.subscripts }) h

-- one of the tables, of that name
pub record SeatOf (m k : ℕ) (ts : List Seat) (t : Seat) : Type 0 where
  pub among : Among t ts
  pub manufacturer : t.manufacturer ≡ m
  pub number : t.number ≡ k

-- the table found by a name is one of them, and has that name
pub seat_among : (m k : ℕ) (ts : List Seat) (t : Seat) → table_named m k ts ≡ some t → SeatOf m k ts t
unfolding table_named Among
seat_among m k [] t h = clash (cc)
seat_among m k (u ∷ ts) t h =
    tested (λ o. o ≡ some t → SeatOf m k (u ∷ ts) t) (u.manufacturer =? m && u.number =? k) (some u) (table_named m k ts)
    (λ b g.
    let n = (and-eq-true_iff (u.manufacturer =? m) (u.number =? k)).0 b in
    let s : u ≡ t = cc in
    record { among = inl s; manufacturer = cc (eqb-true u.manufacturer m n.0); number = cc (eqb-true u.number k n.1) })
    (λ b g. let r = seat_among m k ts t g in record { among = inr r.among; manufacturer = r.manufacturer; number = r.number }) h

-- THE ELEMENT THAT HOLDS AN OCTET, of elements that follow one another
-- e holds octet x
abbrev pub Has : (x : ℕ) → Placed → Type 0
Has x e = (e.start ≤ x) × (x < e.start + e.size)

-- there is one
pub one_has : {p q : ℕ} {es : List Placed} → Consecutive p es q → (x : ℕ) → p ≤ x → x < q → (e : Placed) × Among e es × Has x e
unfolding Among
one_has no_more x a b = absurd (omega arith)
one_has {p} (next {e = e} {es} s h) x a b = go (dec_lt x (p + e.size)) (λ l. one_has h x l b)
  where
    go : Dec (x < p + e.size) → (p + e.size ≤ x → (f : Placed) × Among f es × Has x f) → (f : Placed) × Among f (e ∷ es) × Has x f
    go (yes l) rest = (e, inl refl, (omega arith, omega arith))
    go (no l) rest = let r = rest (omega arith) in (r.0, inr r.1, r.2)

-- the first and a later one don't hold one octet
first_apart : {p q : ℕ} {g : Placed} {es : List Placed} → g.start ≡ p → Consecutive (p + g.size) es q → (x : ℕ) (e f : Placed)
    → g ≡ e → Among f es → Has x e → Has x f → ⊥
first_apart {p} {q} {g} {es} s c x e f a n h k =
    omega (arith, ap (λ y. y.start) a, ap (λ y. y.size) a, (every_among (Lies (p + g.size) q) f es (consecutive_fill c).lies n).starts)

-- and no other
pub only_has : {p q : ℕ} {es : List Placed} → Consecutive p es q → (x : ℕ) (e f : Placed) → Among e es → Among f es → Has x e → Has x f → e ≡ f
unfolding Among
only_has no_more x e f m n h k = absurd m
only_has (next s c) x e f (inl a) (inl b) h k = sym a ∙ b
only_has (next s c) x e f (inr m) (inr n) h k = only_has c x e f m n h k
only_has (next s c) x e f (inl a) (inr n) h k = absurd (first_apart s c x e f a n h k)
only_has (next s c) x e f (inr m) (inl b) h k = absurd (first_apart s c x f e b m k h)
