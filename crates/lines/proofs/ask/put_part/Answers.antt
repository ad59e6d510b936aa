-- `lines::ask::put_part`: the rows that tell octets; no other does. Assumes nothing.
use mathlib.Core.Path.{◌≡◌, refl, ap}
use native.Mathlib.Omega.{arith}
use lib.ListN.{length}
use borrow.Author.Rules.{rules}
use Rattle.meaning.specs.Refusals.{table_part_reply, element_part_reply, read_range_part}
use Rattle.meaning.specs.Questions.{told_to, reply_to, octets_to, image_after, outcome_of}
use Rattle.lines.specs.Answer.{table_rows, rows, row_at, form_of, limits, said}
use Rattle.lines.specs.Kinds.{tables_place}
use Rattle.lines.proofs.AskLaws.{parted, not_parted, place_short, fits_at}
use Rattle.lines.proofs.KindLaws.{no_part}
use Rattle.lines.proofs.ask.put_part.Goals as goal

pub table-t-requires : goal.table-t-requires
unfolding table_rows rows row_at form_of limits said told_to reply_to octets_to image_after outcome_of table_part_reply element_part_reply read_range_part
table-t-requires c =
    record { n_bound = fits_at 3 0 1 refl c.requires.within (ap tables_place c.in-TablePart.is); n_bound_2 = fits_at 3 1 65535 refl c.requires.within (ap tables_place c.in-TablePart.is) }

pub put_octets-requires : goal.put_octets-requires
unfolding table_rows rows row_at form_of limits said told_to reply_to octets_to image_after outcome_of table_part_reply element_part_reply read_range_part
put_octets-requires c =
    let short = place_short _ _ _ c.table_part.ensures.reply in omega arith

pub returns-in-TablePart : goal.returns-in-TablePart
unfolding table_rows rows row_at form_of limits said told_to reply_to octets_to image_after outcome_of table_part_reply element_part_reply read_range_part
returns-in-TablePart c =
    let short = place_short _ _ _ c.table_part.ensures.reply in
    parted 3 _ (ap tables_place c.in-TablePart.is) refl (rw (c.table_part.ensures.reply, c.table-t.ensures)) (omega arith) c.put_octets.ensures

pub put_octets-requires-in-Octets : goal.put_octets-requires-in-Octets
unfolding table_rows rows row_at form_of limits said told_to reply_to octets_to image_after outcome_of table_part_reply element_part_reply read_range_part
put_octets-requires-in-Octets c =
    let short = place_short _ _ _ c.element_part.ensures.reply in omega arith

pub returns-in-Octets : goal.returns-in-Octets
unfolding table_rows rows row_at form_of limits said told_to reply_to octets_to image_after outcome_of table_part_reply element_part_reply read_range_part
returns-in-Octets c =
    let short = place_short _ _ _ c.element_part.ensures.reply in
    parted 5 _ (ap tables_place c.in-Octets.is) refl (rw (c.element_part.ensures.reply, c.element.ensures)) (omega arith) c.put_octets-in-Octets.ensures

pub table-t-requires-in-ReadRange : goal.table-t-requires-in-ReadRange
unfolding table_rows rows row_at form_of limits said told_to reply_to octets_to image_after outcome_of table_part_reply element_part_reply read_range_part
table-t-requires-in-ReadRange c =
    record { n_bound = fits_at 13 0 1 refl c.requires.within (ap tables_place c.in-ReadRange.is); n_bound_2 = fits_at 13 1 65535 refl c.requires.within (ap tables_place c.in-ReadRange.is) }

pub put_octets-requires-in-ReadRange : goal.put_octets-requires-in-ReadRange
unfolding table_rows rows row_at form_of limits said told_to reply_to octets_to image_after outcome_of table_part_reply element_part_reply read_range_part
put_octets-requires-in-ReadRange c =
    let short = place_short _ _ _ c.range_part-part.ensures.reply in omega arith

pub returns-in-ReadRange : goal.returns-in-ReadRange
unfolding table_rows rows row_at form_of limits said told_to reply_to octets_to image_after outcome_of table_part_reply element_part_reply read_range_part
returns-in-ReadRange c =
    let short = place_short _ _ _ c.range_part-part.ensures.reply in
    parted 13 _ (ap tables_place c.in-ReadRange.is) refl (rw (c.range_part-part.ensures.reply, c.new-offset.ensures, c.table-t-in-ReadRange.ensures)) (omega arith) c.put_octets-in-ReadRange.ensures

pub returns-in-Matrix : goal.returns-in-Matrix
unfolding table_rows rows row_at form_of limits said told_to reply_to octets_to image_after outcome_of table_part_reply element_part_reply read_range_part
returns-in-Matrix c =
    let long : length c.cells-cells.result ≡ 330 = search rules in
    parted 11 _ (ap tables_place c.in-Matrix.is) refl (rw (c.cells-cells.ensures, c.matrix.ensures)) (omega arith) c.put_octets-in-Matrix.ensures

pub returns-in_default : goal.returns-in_default
unfolding table_rows rows row_at form_of limits said told_to reply_to octets_to image_after outcome_of table_part_reply element_part_reply read_range_part
returns-in_default c =
    not_parted (no_part _ c.in_default.not-TablePart c.in_default.not-Octets c.in_default.not-Matrix c.in_default.not-ReadRange) (omega arith)
