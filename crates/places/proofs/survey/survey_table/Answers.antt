-- `survey::survey_table`: the walk over the table's body is what laying out makes of it, so one table more is laid, or the image is short. Assumes nothing.
use Rattle.std.proofs.Common.{◌≡◌, Err, rules}
use Rattle.std.specs.Option.{option_map}
use mathlib.Core.Path.{refl, ◌∙◌, ap}
use Rattle.meaning.specs.declared.Fields.{Fields}
use Rattle.items.proofs.ReadLaws.{fields_read, next_read}
use Rattle.places.proofs.Surveys.{table_ready, standing_at, table_stopped, table_laid}
use Rattle.places.proofs.survey.survey_table.Goals as goal

pub walk_body-requires : goal.walk_body-requires
walk_body-requires c =
    let fields = fields_read _ _ c.requires.more c.read.ensures in
    let next = next_read _ _ c.requires.more c.read.ensures in
    rw fields (table_ready _ _ _ _ c.requires _ _ _ next c.new.ensures refl)

pub returns-in_err-w : goal.returns-in_err-w
returns-in_err-w c =
    let fields = fields_read _ _ c.requires.more c.read.ensures in
    let next = next_read _ _ c.requires.more c.read.ensures in
    let e : c.from_residual.result ≡ Err c.in_err-w.field-0.0 = search rules in
    rw e (table_stopped _ _ _ _ c.requires _ _ _ next c.new.ensures (ap (λ (f : Fields). f.first) fields) c.in_err-w.ensures)

pub returns : goal.returns
returns c =
    let fields = fields_read _ _ c.requires.more c.read.ensures in
    let next = next_read _ _ c.requires.more c.read.ensures in
    let stands : c.map.result ≡ option_map (standing_at c.args.s.start) c.in_ok-w.w.row = search rules in
    table_laid _ _ _ _ c.requires _ _ _ next c.new.ensures (ap (λ (f : Fields). f.first) fields) _ c.in_ok-w.ensures _ refl (c.after.ensures ∙ rw c.octets-length.ensures) c.past.ensures
    (c.seat.ensures ∙ rw (c.is_first-this.ensures, c.item.ensures, c.octets-length.ensures, fields))
    (c.seat-2.ensures ∙ rw (c.is_first-that.ensures, c.item.ensures, c.octets-length.ensures, fields)) (c.or.ensures ∙ rw stands)
    (c.held_after.ensures ∙ rw (c.is_first-this.ensures, c.ends_within-fits.ensures, c.octets.ensures, c.octets-length.ensures, fields))
