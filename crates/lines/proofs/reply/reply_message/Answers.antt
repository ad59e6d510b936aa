-- `lines::reply::reply_message`: asked, then the numbers, the octets and the image afterwards. Assumes nothing.
use mathlib.Core.Path.{◌≡◌, sym}
use native.Mathlib.Omega.{arith}
use lib.Seq.{length-take-le}
use lib.ListN.{length, length-take}
use borrow.Author.Rules.{rules}
use Rattle.lines.proofs.AskLaws.{told_few, room_for_message, room_behind_message, message_whole}
use Rattle.lines.proofs.KindLaws.{messages_in}
use Rattle.lines.proofs.reply.reply_message.Goals as goal

pub slice_bounds-told-end : goal.slice_bounds-told-end
slice_bounds-told-end c =
    let six : length c.ask-answered.result.numbers ≡ 6 = search rules in
    let few = told_few c.form-form.ensures (messages_in _) in
    omega arith

pub slice_bounds-put_numbers-end : goal.slice_bounds-put_numbers-end
slice_bounds-put_numbers-end c =
    let six : length c.ask-answered.result.numbers ≡ 6 = search rules in
    let few = told_few c.form-form.ensures (messages_in _) in
    sym (length-take-le _ _ (omega arith))

pub put_numbers-first-requires : goal.put_numbers-first-requires
put_numbers-first-requires c =
    let few = told_few c.form-form.ensures (messages_in _) in
    record { numbers_few = omega (arith, length-take c.form-form.result.told c.ask-answered.result.numbers); in_bounds = omega (arith, c.requires.m_in_bounds) }

pub put_octets_if-second-requires : goal.put_octets_if-second-requires
put_octets_if-second-requires c =
    room_for_message c.form-form.ensures (messages_in _) c.ask-answered.ensures (search rules) c.requires.m_in_bounds c.put_numbers-first.ensures

pub put_octets_if-last-requires : goal.put_octets_if-last-requires
put_octets_if-last-requires c =
    room_behind_message c.form-form.ensures (messages_in _) c.ask-answered.ensures (search rules) c.requires.m_in_bounds c.put_numbers-first.ensures c.put_octets_if-second.ensures

pub returns : goal.returns
returns c =
    message_whole c.form-form.ensures (messages_in _) c.ask-answered.ensures (search rules) c.requires.m_in_bounds c.put_numbers-first.ensures c.put_octets_if-second.ensures
    c.put_octets_if-last.ensures c.put_octet.ensures
