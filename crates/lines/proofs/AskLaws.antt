-- What asking leans on: the numbers of a row, what they name, and what a row's reply has. Assumes nothing.
use mathlib.Core.Path.{◌≡◌, refl, sym, ap, ◌∙◌}
use mathlib.Core.List.{List, [], ◌∷◌, map}
use mathlib.Core.Bool.{true, false, true≢false}
use Prim.Native.Nat.{ℕ, ◌+◌, ◌*◌, ◌≤◌, ◌<◌, zero-le}
use native.Mathlib.Omega.{arith}
use lib.ListN.{length, get_or, take, length-take, length-drop}
use Rattle.meaning.specs.Basics.{part}
use Rattle.meaning.specs.declared.Told.{Told}
use Rattle.meaning.specs.Refusals.{told_by, told_numbers, place_part}
use Rattle.meaning.specs.Calendar.{weekday_reply}
use Rattle.meaning.specs.Questions.{told_to, reply_to, outcome_of}
use Rattle.words.specs.Hex.{hex_text}
use Rattle.words.specs.Number.{decimal_text}
use Rattle.words.specs.Put.{IsPut}
use Rattle.lines.specs.declared.rows.Form.{Form}
use Rattle.lines.specs.Answer.{Said, date_of, table_rows, message_rows, date_rows, rows, row_at, form_of, limits, said, Within}
use Rattle.lines.specs.Answer.{line_of, behind, add_words, hex_if, hex_behind, reply_words, row_text, room_for, Replied}
use Rattle.lines.specs.declared.message.Answered.{Answered}
use Rattle.lines.specs.Ask.{Asks, Parted, MessageAsked}
use Rattle.lines.proofs.AnswerLaws.{row_fits}
use Rattle.lines.proofs.PutLaws.{put_nothing, part_room, after_room, reply_put}
use Rattle.std.specs.Prelude.{Ok, Err}
use Rattle.meaning.specs.Values.{Place, at}

-- numbers within the limits of row k, all of them and one
pub fits_all : (k : ℕ) (most : List ℕ) → limits (form_of k) ≡ most → {kind : ℕ} {numbers : List ℕ} → Within kind numbers → kind ≡ k
    → (i : ℕ) → get_or numbers i 0 ≤ get_or most i 0
fits_all k most l w e = rw (e, l) at w.each

pub fits_at : (k i most : ℕ) → get_or (limits (form_of k)) i 0 ≡ most → {kind : ℕ} {numbers : List ℕ} → Within kind numbers → kind ≡ k → get_or numbers i 0 ≤ most
fits_at k i most l w e = rw l at (fits_all k _ refl w e i)

-- a row told in full
pub asks : {kind : ℕ} {d m numbers new later : List ℕ} {r : Told} (k : ℕ) → kind ≡ k → told_numbers r ≡ (said k d m numbers new).numbers
    → later ≡ (said k d m numbers new).image → (said k d later numbers []).octets ≡ (said k d m numbers new).octets → Asks kind d m numbers new r later
asks {kind} k e t i o =
    let n : ℕ = (form_of kind).told in
    record { told = ap (take n) (rw e t); image = rw e i; octets = rw e o }

-- a row that tells no numbers: the parts of the image
pub asks_none : {kind : ℕ} {d m numbers new : List ℕ} {r : Told} (k : ℕ) → kind ≡ k → (form_of k).told ≡ 0 → m ≡ (said k d m numbers new).image
    → (said k d m numbers []).octets ≡ (said k d m numbers new).octets → Asks kind d m numbers new r m
asks_none k e t i o = record { told = rw (e, t); image = rw e i; octets = rw e o }

-- a row that tells octets, and one that doesn't
module _ {kind : ℕ} {d m numbers out : List ℕ} {at : ℕ} where
  pub parted : {later : List ℕ} {r : ℕ} (k : ℕ) (octets : List ℕ) → kind ≡ k → (form_of k).part ≡ true → octets ≡ (said k d m numbers []).octets → length octets ≤ length m + 150000
      → IsPut out at (behind at (hex_text octets)) later r → Parted kind d m numbers out at later r
  unfolding hex_behind
  parted k octets e t o l p = record { put = rw (e, t, ← o) p; short = λ f. rw (e, ← o) l }

  pub not_parted : (form_of kind).part ≡ false → at ≤ length out → Parted kind d m numbers out at out at
  unfolding hex_behind
  not_parted f l = record { put = rw f (put_nothing out at l); short = λ t. absurd (true≢false (sym t ∙ f)) }

-- a part of the image is no longer than the image
part_short : (m : List ℕ) (p : Place) → length (place_part m p) ≤ length m
unfolding place_part part
part_short m (Ok e) = simp (length-take, length-drop) (omega arith)
part_short m (Err r) = zero-le

pub place_short : (m : List ℕ) (p : Place) (octets : List ℕ) → octets ≡ place_part m p → length octets ≤ length m
place_short m p octets e = rw e (part_short m p)

-- THE WHOLE REPLY: what was asked, then its numbers, its octets and the image afterwards, put one after another
pub told_few : {kind : ℕ} {f : Form} → f ≡ form_of kind → kind < length rows → f.told ≤ 6
told_few {kind} e h = rw e (row_fits kind h).told

module _ {kind : ℕ} (s : Said) (told : List ℕ) {out later : List ℕ} {f : Form} (is-form : f ≡ form_of kind) (inside : kind < length rows)
    (is-told : take f.told told ≡ take (form_of kind).told s.numbers) (is-image : later ≡ s.image) (room : room_for later ≤ length out)
    {now₁ : List ℕ} {at₁ : ℕ} (p₁ : IsPut out 0 (add_words [] (map decimal_text (take f.told told))) now₁ at₁) where
  numbers_put : IsPut out 0 (add_words [] (map decimal_text (take (form_of kind).told s.numbers))) now₁ at₁
  numbers_put = rw is-told at p₁

  room_behind : at₁ + 2 * length later + 300002 ≤ length now₁
  room_behind = part_room later [] [] _ (form_of kind).told false false (row_fits kind inside).told (omega arith) (λ e. zero-le) zero-le numbers_put

  module _ {octets : List ℕ} (is-octets : octets ≡ s.octets) (short : (form_of kind).part ≡ true → length octets ≤ length later + 150000) {now₂ : List ℕ} {at₂ : ℕ}
      (p₂ : IsPut now₁ at₁ (hex_behind at₁ (form_of kind).part octets) now₂ at₂) where
    image_room : at₂ + 2 * length later + 2 ≤ length now₂
    image_room = after_room later octets later _ (form_of kind).told (form_of kind).part false (row_fits kind inside).told (omega arith) short (omega arith) numbers_put p₂

    whole : {now₃ last : List ℕ} {at₃ r : ℕ} → IsPut now₂ at₂ (hex_behind at₂ f.after later) now₃ at₃ → IsPut now₃ at₃ (10 ∷ []) last r
        → Replied out (line_of (reply_words (form_of kind) s)) last r
    unfolding reply_words
    whole p₃ p₄ =
        rw (← is-image, ← is-octets)
        (reply_put later octets later _ (form_of kind).told (form_of kind).part (form_of kind).after (row_fits kind inside).told (omega arith) short (omega arith)
        numbers_put p₂ (rw is-form at p₃) p₄)

-- of a question about tables
module _ {kind : ℕ} {d m numbers new out told later : List ℕ} {f : Form} {t : Told} (is-form : f ≡ form_of kind) (inside : kind < length rows) (is-told : told ≡ told_numbers t)
    (a : Asks kind d m numbers new t later) (same : length later ≡ length m) (room : room_for m ≤ length out) {now₁ : List ℕ} {at₁ : ℕ}
    (p₁ : IsPut out 0 (add_words [] (map decimal_text (take f.told told))) now₁ at₁) where
  asked_told : take f.told told ≡ take (form_of kind).told (said kind d m numbers new).numbers
  asked_told = rw (is-form, is-told) a.told

  pub room_for_part : at₁ + 2 * length later + 300002 ≤ length now₁
  room_for_part = room_behind (said kind d m numbers new) told is-form inside asked_told a.image (omega arith) p₁

  module _ {now₂ : List ℕ} {at₂ : ℕ} (p₂ : Parted kind d later numbers now₁ at₁ now₂ at₂) where
    pub room_for_image : at₂ + 2 * length later + 2 ≤ length now₂
    room_for_image = image_room (said kind d m numbers new) told is-form inside asked_told a.image (omega arith) p₁ a.octets p₂.short p₂.put

    pub whole_put : {now₃ last : List ℕ} {at₃ r : ℕ} → IsPut now₂ at₂ (hex_behind at₂ f.after later) now₃ at₃ → IsPut now₃ at₃ (10 ∷ []) last r
        → Replied out (row_text kind d m numbers new) last r
    unfolding row_text
    whole_put = whole (said kind d m numbers new) told is-form inside asked_told a.image (omega arith) p₁ a.octets p₂.short p₂.put

-- of a message
module _ {kind : ℕ} {d m numbers new out later : List ℕ} {f : Form} {t : Answered} (is-form : f ≡ form_of kind) (inside : kind < length rows)
    (a : MessageAsked kind d m numbers new t later) (same : length later ≡ length m) (room : room_for m ≤ length out) {now₁ : List ℕ} {at₁ : ℕ}
    (p₁ : IsPut out 0 (add_words [] (map decimal_text (take f.told t.numbers))) now₁ at₁) where
  message_told : take f.told t.numbers ≡ take (form_of kind).told (said kind d m numbers new).numbers
  message_told = rw (is-form, a.told)

  pub room_for_message : at₁ + 2 * length t.octets.now + 2 ≤ length now₁
  room_for_message = omega (arith, a.within, room_behind (said kind d m numbers new) t.numbers is-form inside message_told a.image (omega arith) p₁)

  module _ {now₂ : List ℕ} {at₂ : ℕ} (p₂ : IsPut now₁ at₁ (hex_behind at₁ f.part t.octets.now) now₂ at₂) where
    message_put : IsPut now₁ at₁ (hex_behind at₁ (form_of kind).part t.octets.now) now₂ at₂
    message_put = rw is-form at p₂

    pub room_behind_message : at₂ + 2 * length later + 2 ≤ length now₂
    room_behind_message = image_room (said kind d m numbers new) t.numbers is-form inside message_told a.image (omega arith) p₁ a.octets (λ e. omega (arith, a.within)) message_put

    pub message_whole : {now₃ last : List ℕ} {at₃ r : ℕ} → IsPut now₂ at₂ (hex_behind at₂ f.after later) now₃ at₃ → IsPut now₃ at₃ (10 ∷ []) last r
        → Replied out (row_text kind d m numbers new) last r
    unfolding row_text
    message_whole = whole (said kind d m numbers new) t.numbers is-form inside message_told a.image (omega arith) p₁ a.octets (λ e. omega (arith, a.within)) message_put

-- of a date's weekday: numbers alone, and D, M and DATA have no part in it
pub weekday_put : (numbers : List ℕ) {out now last : List ℕ} {at r : ℕ} {t : Told} → t ≡ told_by (weekday_reply (date_of numbers)) → room_for [] ≤ length out
    → IsPut out 0 (add_words [] (map decimal_text (t.refusal.number ∷ t.first ∷ []))) now at → IsPut now at (10 ∷ []) last r
    → Replied out (row_text 19 [] [] numbers []) last r
unfolding table_rows message_rows date_rows rows row_at form_of said told_to reply_to outcome_of row_text reply_words hex_behind
weekday_put numbers {now = now} {at = at} {t = t} e h p q =
    let told : List ℕ = t.refusal.number ∷ t.first ∷ [] in
    let none : IsPut now at [] now at = put_nothing now at (omega (arith, part_room [] [] [] told 2 false false (omega arith) h (λ f. zero-le) zero-le p)) in
    rw (← e) (reply_put [] [] [] told 2 false false (omega arith) h (λ f. zero-le) zero-le p none none q)

pub weekday_text : {kind : ℕ} (d m numbers new : List ℕ) → kind ≡ 19 → row_text 19 [] [] numbers [] ≡ row_text kind d m numbers new
unfolding table_rows message_rows date_rows rows row_at form_of said told_to reply_to outcome_of row_text reply_words hex_if
weekday_text d m numbers new e = rw e
