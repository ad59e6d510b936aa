-- What answering leans on: a word of the line, and which reply is due in each case. Assumes nothing.
use mathlib.Core.Path.{◌≡◌, refl, ◌∙◌}
use mathlib.Core.List.{List, [], ◌∷◌}
use mathlib.Core.Bool.{Bool, true, false, ◌&&◌, and-eq-true_iff}
use Prim.Native.Nat.{ℕ, zero, suc, ◌≤◌, ◌<◌, zero-le}
use native.Mathlib.Nat.{not-suc-le-zero, le_of_suc-le-suc}
use native.Mathlib.Omega.{arith}
use borrow.Author.Tests.{lt-ltb, le-ltb, leb-true, eqb-true}
use lib.Dec.{leb, eqb}
use lib.ListN.{length, get_or, take, length-take, length-drop}
use Rattle.std.specs.List.{list_all}
use Rattle.words.specs.declared.types.Words.{Words}
use Rattle.std.specs.Prelude.{Option, Some, None}
use Rattle.words.specs.declared.types.Span.{Span}
use Rattle.words.specs.Hex.{OctetsRead}
use Rattle.words.specs.Line.{line_words, split_of, part_of, word_in}
use Rattle.words.proofs.Cases.{by_test}
use Rattle.words.proofs.LineLaws.{count_of, word_of}
use Rattle.lines.specs.declared.rows.Form.{Form}
use Rattle.lines.specs.declared.read.Asked.{Asked}
use Rattle.lines.specs.Answer.{nth, Row, table_rows, message_rows, date_rows, rows, no_row, row_at, kind_of, form_of, Within, word_if, takes}
use Rattle.lines.specs.Answer.{no_form, row_text, reply_text, answer_as, answer_words, answer_text, room_for, Replied}
use Rattle.lines.specs.Read.{OfSeven, PartRead, AskedRead}
use Rattle.lines.proofs.OctetLaws.{part_read}
use Rattle.lines.proofs.ReadLaws.{read_within}

-- a reply that was put, under another name
pub put_as : {out later text : List ℕ} {r : ℕ} (other : List ℕ) → Replied out text later r → text ≡ other → Replied out other later r
put_as other p e = rw e at p

-- no word is longer than its line
short_part : (line : List ℕ) (s : Span) → length (part_of line s) ≤ length line
unfolding part_of
short_part line s =
    by_test (leb s.start s.end && leb s.end (length line)) (λ h. rw h (simp (length-take, length-drop) (omega arith))) (λ h. rw h zero-le)

pub word_short : (line : List ℕ) (split : Words) (k : ℕ) (word : List ℕ) → word ≡ word_in line split k → length word ≤ length line
unfolding word_in
word_short line split k word e = rw e (short_part line _)

-- WHICH QUESTION
-- what `word` answers of a line that was split, and what `check::same` answers of its first word and a name
module _ (line : List ℕ) (split : Words) (is-split : split ≡ split_of line) where
  pub word_at : (k : ℕ) (word : List ℕ) → word ≡ word_in line split k → word ≡ nth (line_words line) k
  unfolding nth
  word_at k word e = word_of line split k word is-split e

  -- the number of words
  pub counted : split.count ≡ length (line_words line)
  counted = count_of line split is-split

-- word k, which the form has, read as octets, with room for them: an octet is two digits of the line
pub word_read : {there : Bool} (words : List (List ℕ)) (k : ℕ) (word : List ℕ) {given later : List ℕ} {r : Option ℕ} → there ≡ true → word ≡ nth words k
    → length word ≤ 300000 → OctetsRead word given later r → 150000 ≤ length given → PartRead (word_if there (nth words k)) later r
unfolding word_if
word_read words k word t e short p room = rw (t, ← e) (part_read p (omega arith) short)

pub too_long : (line : List ℕ) → 300000 < length line → no_form ≡ answer_text line
unfolding answer_text
too_long line h = rw (lt-ltb 300000 (length line) h)

pub taken : (line : List ℕ) → length line ≤ 300000 → answer_words (line_words line) ≡ answer_text line
unfolding answer_text
taken line h = rw (le-ltb 300000 (length line) h)

-- THE TABLE: a rule that holds of every row, computed once for all
all_at : (f : Row → Bool) (rs : List Row) → list_all f rs ≡ true → (k : ℕ) → k < length rs → f (get_or rs k no_row) ≡ true
all_at f [] h k l = absurd (not-suc-le-zero l)
all_at f (r ∷ rs) h zero l = ((and-eq-true_iff (f r) _).0 h).0
all_at f (r ∷ rs) h (suc k) l = all_at f rs ((and-eq-true_iff (f r) _).0 h).1 k (le_of_suc-le-suc l)

-- at most D and M, and seven numbers, with room for seven limits; at most six numbers told
fits : Row → Bool
fits r = leb r.form.lent 2 && (leb r.form.numbers 7 && (eqb (length r.form.most) 7 && leb r.form.told 6))

pub record RowFits (kind : ℕ) : Type 0 where
  pub lent : (form_of kind).lent ≤ 2
  pub numbers : OfSeven (form_of kind).numbers (form_of kind).most
  pub told : (form_of kind).told ≤ 6

pub row_fits : (kind : ℕ) → kind < length rows → RowFits kind
unfolding table_rows message_rows date_rows rows row_at form_of fits
row_fits kind h =
    let f : Form = form_of kind in
    let lent = (and-eq-true_iff (leb f.lent 2) _).0 (all_at fits rows refl kind h) in
    let all = (and-eq-true_iff (leb f.numbers 7) _).0 lent.1 in
    let rest = (and-eq-true_iff (eqb (length f.most) 7) _).0 all.1 in
    record {
      lent = leb-true _ _ lent.0;
      numbers = record { few = leb-true _ _ all.0; long = eqb-true _ _ rest.0 };
      told = leb-true _ _ rest.1;
    }

-- what it takes is replied, and what it doesn't is no form
pub taken_text : (kind : ℕ) (d m numbers new : List ℕ) {b : Bool} → b ≡ takes kind numbers → b ≡ true → row_text kind d m numbers new ≡ reply_text kind d m numbers new
unfolding reply_text
taken_text kind d m numbers new e t = rw (← e, t)

pub not_taken : (kind : ℕ) (d m numbers new : List ℕ) {b : Bool} → b ≡ takes kind numbers → b ≡ false → no_form ≡ reply_text kind d m numbers new
unfolding reply_text
not_taken kind d m numbers new e t = rw (← e, t)

-- no row has that name
pub unknown : (kind : ℕ) (line : List ℕ) {word : List ℕ} → kind ≡ kind_of word → word ≡ nth (line_words line) 0 → length rows ≤ kind → length line ≤ 300000
    → no_form ≡ answer_text line
unfolding answer_words
unknown kind line is-kind is-word h short = rw (← is-word, ← is-kind, le-ltb kind (length rows) h) refl ∙ taken line short

-- THE REPLIES
module _ (kind : ℕ) {f : Form} (line : List ℕ) {word description image given : List ℕ} {r : Option Asked} (is-kind : kind ≡ kind_of word) (is-form : f ≡ form_of kind)
    (is-word : word ≡ nth (line_words line) 0) (inside : kind < length rows) (s : AskedRead f (line_words line) description image given r) where
  answer_as_lem : answer_as kind f (line_words line) ≡ answer_words (line_words line)
  unfolding answer_words
  answer_as_lem = rw (is-form, ← is-word, ← is-kind, lt-ltb kind (length rows) inside)

  pub asked_reply : (a : Asked) → r ≡ Some a → length line ≤ 300000
      → reply_text kind (take a.d description) (take a.m image) a.numbers (take a.given given) ≡ answer_text line
  unfolding answer_as
  asked_reply a h short =
      let o = s.asked a h in rw (o.d_octets, o.m_octets, o.given_octets, o.values, ← s.reply, h) refl ∙ answer_as_lem ∙ taken line short

  pub asked_none : r ≡ None → length line ≤ 300000 → no_form ≡ answer_text line
  unfolding answer_as
  asked_none h short = rw (← s.reply, h) refl ∙ answer_as_lem ∙ taken line short

  -- the numbers are within the limits of the kind
  pub asked_within : (a : Asked) → r ≡ Some a → Within kind a.numbers
  asked_within a h = record { each = rw is-form at (read_within a s h) }

-- the part of the image that M is has room in the reply where the whole has
pub asked_room : (n : ℕ) (image out : List ℕ) → room_for image ≤ length out → room_for (take n image) ≤ length out
asked_room n image out h = omega (arith, length-take n image)

-- what D or a message has of octets
pub asked_few : (n : ℕ) (description : List ℕ) → n ≤ 150000 → length (take n description) ≤ 150000
asked_few n description h = omega (arith, length-take n description)
