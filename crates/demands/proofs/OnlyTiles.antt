-- PIECES THAT TILE STAND NOWHERE ELSE. Of two ways to set out the same pieces in the same order up to the same end, one of which leaves no octet free, both are the same.
-- Nothing here knows of descriptions. Assumes nothing.
use Prim.Native.Nat.{ℕ, zero, suc, ◌+◌, ◌-◌, ◌<◌, ◌≤◌}
use mathlib.Core.Path.{◌≡◌}
use native.Mathlib.Decide.{dec_lt}
use native.Mathlib.Omega.{arith}

-- of two one is earlier, or they are the same
pub data Compared (Before Same After : Type 0) : Type 0 where
  earlier : Before → Compared Before Same After
  same : Same → Compared Before Same After
  later : After → Compared Before Same After

abbrev pub Comparison : {A : Type 0} (Before Same : A → A → Type 0) → A → A → Type 0
Comparison Before Same q r = Compared (Before q r) (Same q r) (Before r q)

-- PIECES SET OUT, each as long as `size` says, one after another and up to `total`
pub record SetOut {A : Type 0} (Piece : A → Type 0) (Before : A → A → Type 0) (size start : A → ℕ) (total : ℕ) : Type 0 where
  pub order : (q r : A) → Piece q → Piece r → Before q r → start q + size q ≤ start r
  pub ends : (q : A) → Piece q → start q + size q ≤ total

-- a piece that holds octet x
pub record Over {A : Type 0} (Piece : A → Type 0) (size start : A → ℕ) (x : ℕ) : Type 0 where
  pub name : A
  pub is : Piece name
  pub from : start name ≤ x
  pub to : x < start name + size name

-- with no octet free, and each piece in one place
pub record Tiled {A : Type 0} (Piece : A → Type 0) (Same : A → A → Type 0) (size start : A → ℕ) (total : ℕ) : Type 0 where
  pub over : (x : ℕ) → x < total → Over Piece size start x
  pub once : (q r : A) → Piece q → Piece r → Same q r → start q ≡ start r
  pub long : (q r : A) → Piece q → Piece r → Same q r → size q ≡ size r

module _ {A : Type 0} (Piece : A → Type 0) (Before Same : A → A → Type 0) (size f g : A → ℕ) (total : ℕ)
    (compare : (q r : A) → Piece q → Piece r → Comparison Before Same q r)
    (F : SetOut Piece Before size f total) (tiles : Tiled Piece Same size f total) (G : SetOut Piece Before size g total) where
  -- none stands before its place: the piece whose octet it begins at is earlier, and stands before its place too
  not_before : (n : ℕ) (q : A) → Piece q → f q ≤ n → g q < f q → ⊥
  not_before zero q h b l = omega arith
  not_before (suc n) q h b l =
      let o = tiles.over (g q) (omega (arith, F.ends q h)) in
      go o (λ r k. not_before n r k) (compare o.name q o.is h)
    where
      go : (o : Over Piece size f (g q)) → ((r : A) → Piece r → f r ≤ n → g r < f r → ⊥) → Comparison Before Same o.name q → ⊥
      go o rec (earlier e) = rec o.name o.is (omega (arith, o.from)) (omega (arith, o.to, G.order o.name q o.is h e))
      go o rec (same e) = omega (arith, o.from, tiles.once o.name q o.is h e)
      go o rec (later e) = omega (arith, o.from, F.order q o.name h o.is e)

  -- and none after it: the piece that holds its last octet is later, and stands after its place too
  not_after : (n : ℕ) (q : A) → Piece q → total ≤ f q + size q + n → f q < g q → ⊥
  not_after zero q h b l = omega (arith, G.ends q h)
  not_after (suc n) q h b l =
      let o = tiles.over (g q + size q - 1) (omega (arith, G.ends q h)) in
      go o (λ r k. not_after n r k) (compare o.name q o.is h)
    where
      go : (o : Over Piece size f (g q + size q - 1)) → ((r : A) → Piece r → total ≤ f r + size r + n → f r < g r → ⊥) → Comparison Before Same o.name q → ⊥
      go o rec (earlier e) = omega (arith, o.to, F.order o.name q o.is h e)
      go o rec (same e) = omega (arith, o.to, tiles.once o.name q o.is h e, tiles.long o.name q o.is h e)
      go o rec (later e) = rec o.name o.is (omega (arith, o.to)) (omega (arith, o.from, G.order q o.name h o.is e))

  pub stands_there : (q : A) → Piece q → g q ≡ f q
  stands_there q h = go (dec_lt (g q) (f q)) (dec_lt (f q) (g q))
    where
      go : Dec (g q < f q) → Dec (f q < g q) → g q ≡ f q
      go (yes l) k = absurd (not_before (f q) q h (omega arith) l)
      go (no l) (yes k) = absurd (not_after total q h (omega arith) k)
      go (no l) (no k) = omega (arith, l, k)
