-- What putting a text leans on: `Pasted` says what is known of `out` when the first j octets of a text stand in it, and one store
-- takes it from j to j + 1. Every loop that writes goes by it. Assumes nothing.
use mathlib.Core.Path.{◌≡◌, refl, ap, ◌∙◌}
use mathlib.Core.List.{List, ◌++◌, append_assoc}
use Prim.Native.Nat.{ℕ, ◌+◌, ◌≤◌, ◌<◌, zero-le}
use native.Mathlib.Numerals.{add-one}
use native.Mathlib.Nat.{le_antisymm}
use native.Mathlib.Omega.{arith}
use borrow.Author.Tests.{le-leb, lt-leb, leb-true}
use lib.ListN.{length, get_or, set, take, drop, length-set, length-append, length-drop}
use lib.Seq.{paste, paste-zero, paste-suc, take-length, take-append_seam, drop-append-add, drop-drop, length-take-le}
use Rattle.words.specs.Put.{fits, laid, IsPut}
use Rattle.words.proofs.Cases.{by_test}

-- the first j octets of the text stand in `now`, which is `out` otherwise; the whole text fits
pub record Pasted (out : List ℕ) (at : ℕ) (text now : List ℕ) (j : ℕ) : Type 0 where
  pub within : j ≤ length text
  pub room : at + length text ≤ length out
  pub long : length now ≡ length out
  pub is : now ≡ paste out at text j

pub pasted_none : (out : List ℕ) (at : ℕ) (text : List ℕ) → at + length text ≤ length out → Pasted out at text out 0
pasted_none out at text h = record { within = zero-le; room = h; long = refl; is = paste-zero out at text }

-- the text's next octet v is stored at the next place p
pub pasted_more : {out : List ℕ} {at : ℕ} {text now : List ℕ} {j : ℕ} (p v k : ℕ) → Pasted out at text now j
    → j < length text → p ≡ at + j → v ≡ get_or text j 0 → k ≡ j + 1 → Pasted out at text (set now p v) k
pasted_more {out} {at} {text} {now} {j} p v k w h e f g =
    record {
      within = omega arith;
      room = w.room;
      long = length-set now p v ∙ w.long;
      is = rw (e, f, w.is, g, add-one) (paste-suc out at text j 0 (omega (arith, w.room)) h);
    }

pub pasted_all : {out : List ℕ} {at : ℕ} {text now : List ℕ} {j : ℕ} → Pasted out at text now j → length text ≤ j → now ≡ laid out at text
unfolding laid
pasted_all {out} {at} {text} {now} {j} w h = rw (w.is, le_antisymm w.within h, take-length)

-- THE REPLIES
pub put : {out : List ℕ} {at : ℕ} {text later : List ℕ} {next : ℕ} → at + length text ≤ length out → later ≡ laid out at text
    → next ≡ at + length text → IsPut out at text later next
unfolding fits
put h e f = record { reply = rw (le-leb _ _ h) f; memory = rw (le-leb _ _ h) e }

pub no_room_lem : {out : List ℕ} {at : ℕ} (text : List ℕ) → length out < at + length text → IsPut out at text out at
unfolding fits
no_room_lem text h = record { reply = rw (lt-leb _ _ h); memory = rw (lt-leb _ _ h) }

-- FOR CALLERS: what was put, where it had room, and that the next place is never past the end
module _ {out : List ℕ} {at : ℕ} {text later : List ℕ} {next : ℕ} (p : IsPut out at text later next) where
  pub put_next : at + length text ≤ length out → next ≡ at + length text
  unfolding fits
  put_next h = p.reply ∙ rw (le-leb _ _ h)

  pub put_memory : at + length text ≤ length out → later ≡ laid out at text
  unfolding fits
  put_memory h = p.memory ∙ rw (le-leb _ _ h)

  pub put_within : at ≤ length out → next ≤ length out
  unfolding fits
  put_within h = rw p.reply (by_test (fits out at text) (λ e. rw e (leb-true _ _ e)) (λ e. rw e h))

laid_long : (out : List ℕ) (at : ℕ) (text : List ℕ) → at + length text ≤ length out → length (laid out at text) ≡ length out
unfolding laid
laid_long out at text h =
    length-append (take at out ++ text) (drop (at + length text) out)
    ∙ omega (arith, length-append (take at out) text, length-take-le at out (omega arith), length-drop (at + length text) out)

-- FOR CALLERS: memory is as long as it was
pub put_long : {out : List ℕ} {at : ℕ} {text later : List ℕ} {next : ℕ} → IsPut out at text later next → length later ≡ length out
unfolding fits
put_long {out} {at} {text} p = rw p.memory (by_test (fits out at text) (λ e. rw e (laid_long out at text (leb-true _ _ e))) (λ e. rw e))

-- FOR CALLERS: two texts put one after the other, with room for both, are their join
laid_twice : (out : List ℕ) (at : ℕ) (a b : List ℕ) → at + length a + length b ≤ length out
    → laid (laid out at a) (at + length a) b ≡ laid out at (a ++ b)
unfolding laid
laid_twice out at a b h =
    let front : List ℕ = take at out ++ a in
    let l : length front ≡ at + length a = simp (length-append, length-take-le at out (omega arith)) in
    let n : at + length (a ++ b) ≡ at + length a + length b = omega (arith, length-append a b) in
    rw (n, ← l, take-append_seam, drop-append-add, drop-drop, append_assoc (take at out) a b)

pub put_then : {out : List ℕ} {at : ℕ} {a mid : List ℕ} {next : ℕ} {b later : List ℕ} {last : ℕ} → IsPut out at a mid next → IsPut mid next b later last
    → at + length a + length b ≤ length out → IsPut out at (a ++ b) later last
put_then {out} {at} {a} {mid} {next} {b} {later} {last} p q h =
    let e : next ≡ at + length a = put_next p (omega arith) in
    let m : mid ≡ laid out at a = put_memory p (omega arith) in
    let k : length mid ≡ length out = ap length m ∙ laid_long out at a (omega arith) in
    let l : length (a ++ b) ≡ length a + length b = length-append a b in
    let f : next + length b ≤ length mid = omega arith in
    put (omega arith) (put_memory q f ∙ rw (m, e) (laid_twice out at a b h)) (put_next q f ∙ omega arith)
