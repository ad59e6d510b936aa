-- `lines::reply::answer`: no form where the line is too long, of no row, or not of its row's form; else the reply to what it asks. Assumes nothing.
use mathlib.Core.Path.{◌≡◌, sym}
use native.Mathlib.Omega.{arith}
use borrow.Author.Rules.{rules}
use lib.ListN.{length}
use lib.Seq.{length-take-le}
use Rattle.lines.specs.Answer.{table_rows, message_rows, date_rows, rows}
use Rattle.lines.proofs.AnswerLaws.{put_as, row_fits, too_long, unknown, asked_reply, asked_none, asked_room, asked_within, asked_few}
use Rattle.lines.proofs.KindLaws.{kinds_in}
use Rattle.lines.proofs.reply.answer.Goals as goal

pub returns-then-text-gt-LONGEST : goal.returns-then-text-gt-LONGEST
returns-then-text-gt-LONGEST c = put_as _ c.no_form.ensures (too_long _ (omega arith))

pub returns-in_default : goal.returns-in_default
unfolding table_rows message_rows date_rows rows
returns-in_default c =
    let name = rw c.new-line.ensures at c.word.ensures.value in
    put_as _ c.no_form-in_default.ensures
    (unknown _ _ (rw c.in_default.is at c.kind_of.ensures) name (omega arith) (omega (arith, c.if-text-gt-LONGEST.false)))

pub read_asked-requires : goal.read_asked-requires
read_asked-requires c =
    let fits = row_fits _ (kinds_in c.in-Some.kind) in
    record { lent_bound = rw c.form.ensures (fits.lent, fits.numbers) }

pub returns-in_default-read_asked : goal.returns-in_default-read_asked
returns-in_default-read_asked c =
    let name = rw c.new-line.ensures at c.word.ensures.value in
    let read = rw c.new-line.ensures at c.read_asked.ensures.read in
    rw (← c.read_asked.ensures.same_reply)
    (put_as _ c.no_form-in_default-read_asked.ensures
    (asked_none _ _ (rw c.in-Some.is at c.kind_of.ensures) c.form.ensures name (kinds_in _) read c.in_default-read_asked.is (omega (arith, c.if-text-gt-LONGEST.false))))

pub shared_ref_as_front-operands : goal.shared_ref_as_front-operands
shared_ref_as_front-operands c = (c.read_asked.ensures.read.asked _ c.in-Some-read_asked.is).d_few

pub slice_bounds-reply-end : goal.slice_bounds-reply-end
slice_bounds-reply-end c =
    let image_long : length c.read_asked.new.memory.image ≡ 150000 = search rules in
    let few = (c.read_asked.ensures.read.asked _ c.in-Some-read_asked.is).m_few in
    sym (length-take-le c.in-Some-read_asked.asked.m c.read_asked.new.memory.image (omega arith))

pub shared_ref_as_front-operands-2 : goal.shared_ref_as_front-operands-2
shared_ref_as_front-operands-2 c = (c.read_asked.ensures.read.asked _ c.in-Some-read_asked.is).given_few

pub reply-requires : goal.reply-requires
reply-requires c =
    let name = rw c.new-line.ensures at c.word.ensures.value in
    let read = rw c.new-line.ensures at c.read_asked.ensures.read in
    let kind = rw c.in-Some.is at c.kind_of.ensures in
    let image_long : length c.read_asked.new.memory.image ≡ 150000 = search rules in
    let reply_long : length c.read_asked.new.memory.reply ≡ 900131 = search rules in
    record {
      m_in_bounds = asked_room c.in-Some-read_asked.asked.m c.read_asked.new.memory.image c.read_asked.new.memory.reply (omega arith);
      within = asked_within _ _ kind c.form.ensures name (kinds_in _) read _ c.in-Some-read_asked.is;
      d_len_bound = asked_few c.in-Some-read_asked.asked.d c.read_asked.new.memory.description (c.read_asked.ensures.read.asked _ c.in-Some-read_asked.is).d_few;
    }

pub returns : goal.returns
returns c =
    let name = rw c.new-line.ensures at c.word.ensures.value in
    let read = rw c.new-line.ensures at c.read_asked.ensures.read in
    rw (← c.read_asked.ensures.same_reply)
    (put_as _ c.reply.ensures
    (asked_reply _ _ (rw c.in-Some.is at c.kind_of.ensures) c.form.ensures name (kinds_in _) read _ c.in-Some-read_asked.is (omega (arith, c.if-text-gt-LONGEST.false))))
