-- What putting a reply together leans on: words added to a text one by one, and the room that they take. Assumes nothing.
use mathlib.Core.Path.{◌≡◌, refl, sym, ◌∙◌}
use mathlib.Core.List.{List, [], ◌∷◌, ◌++◌, map, append-nil, map-append}
use mathlib.Core.Bool.{Bool, true, false}
use Prim.Native.Nat.{ℕ, ◌+◌, ◌*◌, ◌≤◌, ◌<◌, zero-le}
use native.Mathlib.Nat.{add-zero, zero-add}
use native.Mathlib.Numerals.{add-one}
use native.Mathlib.Omega.{arith}
use borrow.Author.Tests.{eq-eqb, ne_eqb}
use lib.Dec.{eqb}
use lib.ListN.{length, get_or, take, length-append, length-take, take-append-drop}
use lib.Seq.{take-suc, take_all, length-take-le}
use Rattle.words.specs.Put.{laid, IsPut}
use Rattle.words.specs.Number.{decimal_text}
use Rattle.words.proofs.Cases.{by_test}
use Rattle.words.proofs.NumberLaws.{text_short}
use Rattle.words.specs.Hex.{hex_text}
use Rattle.words.proofs.HexLaws.{text_short as hex-short}
use Rattle.words.proofs.PutLaws.{put, put_next, put_long, put_then}
use Rattle.lines.specs.Answer.{space_at, behind, add_words, line_of, hex_if, hex_behind, no_form, room_for, Replied}

-- nothing is put
pub put_nothing : (out : List ℕ) (at : ℕ) → at ≤ length out → IsPut out at [] out at
unfolding laid
put_nothing out at h = put (omega arith) (rw (append-nil, add-zero) (sym (take-append-drop at out))) (sym (add-zero at))

pub no_form_put : {out later : List ℕ} {next : ℕ} → 2 ≤ length out → IsPut out 0 (63 ∷ 10 ∷ []) later next → Replied out no_form later next
unfolding no_form
no_form_put h p = record { room = omega arith; put = p }

-- A WORD, AND THE SPACE BEFORE IT
pub no_space : (out : List ℕ) (at : ℕ) → at + 1 ≤ length out → at ≡ 0 → IsPut out at (space_at at) out at
unfolding space_at
no_space out at h e = rw (eq-eqb at 0 e) (put_nothing out at (omega arith))

pub a_space : {out later : List ℕ} (at : ℕ) {next : ℕ} → (at ≡ 0 → ⊥) → IsPut out at (32 ∷ []) later next → IsPut out at (space_at at) later next
unfolding space_at
a_space at e p = rw (ne_eqb at 0 e) p

space_short : (at : ℕ) → length (space_at at) ≤ 1
unfolding space_at
space_short at = by_test (eqb at 0) (λ e. rw e zero-le) (λ e. rw e (omega arith))

behind_short : (at : ℕ) (word : List ℕ) → length (behind at word) ≤ 1 + length word
unfolding behind
behind_short at word = omega (arith, length-append (space_at at) word, space_short at)

pub word_put : {out mid later : List ℕ} {at to next : ℕ} (word : List ℕ) → at + 1 + length word ≤ length out → IsPut out at (space_at at) mid to
    → IsPut mid to word later next → IsPut out at (behind at word) later next
unfolding behind
word_put {at = at} word h p q = put_then p q (omega (arith, space_short at))

pub number_put : {out mid later : List ℕ} {at to next : ℕ} (n : ℕ) → at + 21 ≤ length out → IsPut out at (space_at at) mid to
    → IsPut mid to (decimal_text n) later next → IsPut out at (behind at (decimal_text n)) later next
number_put n h p q = word_put (decimal_text n) (omega (arith, text_short n)) p q

pub octets_put : {out mid later : List ℕ} {at to next : ℕ} (octets : List ℕ) → at + 2 * length octets + 2 ≤ length out → IsPut out at (space_at at) mid to
    → IsPut mid to (hex_text octets) later next → IsPut out at (behind at (hex_text octets)) later next
octets_put octets h p q = word_put (hex_text octets) (omega (arith, hex-short octets)) p q

-- where the reply has it
module _ (at : ℕ) {there : Bool} (octets : List ℕ) where
  pub hex_there : {out later : List ℕ} {next : ℕ} → there ≡ true → IsPut out at (behind at (hex_text octets)) later next → IsPut out at (hex_behind at there octets) later next
  unfolding hex_behind
  hex_there e p = rw e p

  pub hex_none : (out : List ℕ) → at ≤ length out → there ≡ false → IsPut out at (hex_behind at there octets) out at
  unfolding hex_behind
  hex_none out h e = rw e (put_nothing out at h)

hex_room : (at : ℕ) (there : Bool) (octets : List ℕ) (n : ℕ) → (there ≡ true → length octets ≤ n) → length (hex_behind at there octets) ≤ 2 * n + 2
unfolding hex_behind
hex_room at true octets n h = omega (arith, behind_short at (hex_text octets), hex-short octets, h refl)
hex_room at false octets n h = zero-le

-- WORDS ONE AFTER ANOTHER
add_append : (text : List ℕ) (ws vs : List (List ℕ)) → add_words text (ws ++ vs) ≡ add_words (add_words text ws) vs
unfolding add_words
add_append text [] vs = refl
add_append text (w ∷ ws) vs = add_append (text ++ behind (length text) w) ws vs

add_hex : (text : List ℕ) (there : Bool) (octets : List ℕ) → add_words text (hex_if there octets) ≡ text ++ hex_behind (length text) there octets
unfolding add_words hex_if hex_behind
add_hex text true octets = refl
add_hex text false octets = sym (append-nil text)

numbers_long : (text xs : List ℕ) → length (add_words text (map decimal_text xs)) ≤ length text + 21 * length xs
unfolding add_words
numbers_long text [] = omega arith
numbers_long text (x ∷ xs) =
    let w : List ℕ = behind (length text) (decimal_text x) in
    omega (arith, numbers_long (text ++ w) xs, length-append text w, behind_short (length text) (decimal_text x), text_short x)

-- a text that was put, with room for it, and another behind it
module _ {out text now : List ℕ} {at : ℕ} (p : Replied out text now at) where
  put_end : at ≡ length text
  put_end = put_next p.put (omega arith) ∙ zero-add _

  put_more : {more later : List ℕ} {next : ℕ} → IsPut now at more later next → length text + length more ≤ length out → Replied out (text ++ more) later next
  put_more q h = record { room = simp length-append h; put = put_then p.put q (omega arith) }

-- the first i numbers stand at the start of `now`, which is `out` otherwise; the next place is `at`
abbrev first : (numbers : List ℕ) → (i : ℕ) → List ℕ
first numbers i = add_words [] (map decimal_text (take i numbers))

pub record Counted (out numbers now : List ℕ) (at i : ℕ) : Type 0 where
  pub within : i ≤ length numbers
  pub few : length numbers ≤ 6
  pub room : 126 ≤ length out
  pub is : IsPut out 0 (first numbers i) now at

pub counted_none : (out numbers : List ℕ) → length numbers ≤ 6 → 126 ≤ length out → Counted out numbers out 0 0
unfolding add_words
counted_none out numbers f h = record { within = zero-le; few = f; room = h; is = put_nothing out 0 (omega arith) }

module _ {out numbers now : List ℕ} {at i : ℕ} (s : Counted out numbers now at i) where
  short_first : length (first numbers i) ≤ 21 * i
  short_first = omega (arith, numbers_long [] (take i numbers), length-take-le i numbers s.within)

  first_so : Replied out (first numbers i) now at
  first_so = record { room = omega (arith, short_first); put = s.is }

  pub counted_room : i < length numbers → at + 21 ≤ length now
  counted_room h = omega (arith, put_end first_so, short_first, put_long s.is)

  pub counted_more : {later : List ℕ} {next : ℕ} → i < length numbers → IsPut now at (behind at (decimal_text (get_or numbers i 0))) later next → Counted out numbers later next (i + 1)
  unfolding add_words
  counted_more h p =
      let x : ℕ = get_or numbers i 0 in
      let t : take (i + 1) numbers ≡ take i numbers ++ (x ∷ []) = rw add-one (take-suc numbers i 0 h) in
      let e : first numbers (i + 1) ≡ first numbers i ++ behind at (decimal_text x) =
      rw (t, map-append, add_append [] (map decimal_text (take i numbers)) (decimal_text x ∷ []), put_end first_so) in
      record {
        within = omega arith;
        few = s.few;
        room = s.room;
        is = rw e (put_more first_so p (omega (arith, short_first, behind_short at (decimal_text x), text_short x))).put;
      }

  pub counted_all : length numbers ≤ i → IsPut out 0 (add_words [] (map decimal_text numbers)) now at
  counted_all h = rw (take_all i numbers h) at s.is

-- THE WHOLE REPLY: numbers, then octets where it has them, then the image afterwards where it has that; the line feed
module _ (m octets image numbers : List ℕ) (count : ℕ) (part after : Bool) {out : List ℕ} (few : count ≤ 6) (room : room_for m ≤ length out)
    (short-octets : part ≡ true → length octets ≤ length m + 150000) (short_image : length image ≤ length m) {now₁ : List ℕ} {at₁ : ℕ}
    (p₁ : IsPut out 0 (first numbers count) now₁ at₁) where
  count_short : length (first numbers count) ≤ 126
  count_short = omega (arith, numbers_long [] (take count numbers), length-take count numbers)

  first_put : Replied out (first numbers count) now₁ at₁
  first_put = record { room = omega (arith, count_short); put = p₁ }

  pub part_room : at₁ + 2 * length m + 300002 ≤ length now₁
  part_room = omega (arith, put_end first_put, count_short, put_long p₁)

  module _ {now₂ : List ℕ} {at₂ : ℕ} (p₂ : IsPut now₁ at₁ (hex_behind at₁ part octets) now₂ at₂) where
    told : List ℕ
    told = first numbers count ++ hex_behind at₁ part octets

    told_short : length told ≤ 2 * length m + 300128
    unfolding told
    told_short = simp length-append (omega (arith, count_short, hex_room at₁ part octets (length m + 150000) short-octets))

    told_put : Replied out told now₂ at₂
    unfolding told
    told_put = put_more first_put p₂ (omega (arith, told_short, length-append (first numbers count) (hex_behind at₁ part octets)))

    pub after_room : at₂ + 2 * length m + 2 ≤ length now₂
    after_room = omega (arith, put_end told_put, told_short, put_long told_put.put)

    text_is : add_words [] (map decimal_text (take count numbers) ++ (hex_if part octets ++ hex_if after image)) ≡ told ++ hex_behind at₂ after image
    unfolding told
    text_is =
        add_append [] (map decimal_text (take count numbers)) _
        ∙ add_append (first numbers count) (hex_if part octets) _
        ∙ rw (add_hex (first numbers count) part octets, ← put_end first_put, add_hex told after image, ← put_end told_put)

    pub reply_put : {now₃ later : List ℕ} {at₃ r : ℕ} → IsPut now₂ at₂ (hex_behind at₂ after image) now₃ at₃ → IsPut now₃ at₃ (10 ∷ []) later r
        → Replied out (line_of (map decimal_text (take count numbers) ++ (hex_if part octets ++ hex_if after image))) later r
    unfolding line_of
    reply_put p₃ p₄ =
        let s = hex_room at₂ after image (length m) (λ e. short_image) in
        let l = length-append told (hex_behind at₂ after image) in
        rw text_is (put_more (put_more told_put p₃ (omega (arith, told_short))) p₄ (omega (arith, told_short)))
