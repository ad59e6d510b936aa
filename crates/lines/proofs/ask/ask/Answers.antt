-- `lines::ask::ask`: row by row. Assumes nothing.
use mathlib.Core.Path.{◌≡◌, refl, ap}
use mathlib.Core.List.{List}
use mathlib.Core.Logic.{◌⊎◌, inl, inr}
use Prim.Native.Nat.{ℕ}
use Rattle.meaning.specs.declared.Told.{Told}
use Rattle.lines.specs.declared.rows.TableKind.{TableKind}
use Rattle.lines.specs.Ask.{Asks}
use Rattle.meaning.specs.Questions.{told_to, reply_to, octets_to, image_after, outcome_of}
use Rattle.lines.specs.Answer.{tier_limits, date_limits, table_rows, rows, row_at, form_of, limits, said}
use Rattle.lines.specs.Kinds.{tables_place}
use Rattle.lines.proofs.AskLaws.{asks, asks_none, fits_all, fits_at}
use Rattle.lines.proofs.ask.ask.Goals as goal

-- a part of the image tells no numbers
none_told : {d m numbers new : List ℕ} {r : Told} (kind : TableKind) → (kind ≡ TableKind.TablePart) ⊎ (kind ≡ TableKind.Octets) → Asks (tables_place kind) d m numbers new r m
unfolding table_rows rows row_at form_of limits said told_to reply_to octets_to image_after outcome_of
none_told kind (inl e) = asks_none 3 (ap tables_place e) refl refl refl
none_told kind (inr e) = asks_none 5 (ap tables_place e) refl refl refl

pub returns-in-Check : goal.returns-in-Check
unfolding table_rows rows row_at form_of limits said told_to reply_to octets_to image_after outcome_of
returns-in-Check c =
    asks 0 (ap tables_place c.in-Check.is) (rw (c.verdict_told.ensures, c.check.ensures)) refl refl

pub returns-in-Layout : goal.returns-in-Layout
unfolding table_rows rows row_at form_of limits said told_to reply_to octets_to image_after outcome_of
returns-in-Layout c =
    asks 1 (ap tables_place c.in-Layout.is) (rw (c.told.ensures, c.layout.ensures)) refl refl

pub table-t-requires : goal.table-t-requires
unfolding table_rows rows row_at form_of limits said told_to reply_to octets_to image_after outcome_of
table-t-requires c =
    record { n_bound = fits_at 2 0 1 refl c.requires (ap tables_place c.in-Table.is); n_bound_2 = fits_at 2 1 65535 refl c.requires (ap tables_place c.in-Table.is) }

pub returns-in-Table : goal.returns-in-Table
unfolding table_rows rows row_at form_of limits said told_to reply_to octets_to image_after outcome_of
returns-in-Table c =
    asks 2 (ap tables_place c.in-Table.is) (rw (c.place_told.ensures, c.table_place.ensures, c.table-t.ensures)) refl refl

pub returns-in-Where : goal.returns-in-Where
unfolding table_rows rows row_at form_of limits said told_to reply_to octets_to image_after outcome_of
returns-in-Where c =
    asks 4 (ap tables_place c.in-Where.is) (rw (c.place_told-in-Where.ensures, c.element_place.ensures, c.element.ensures)) refl refl

pub returns-in-TablePart : goal.returns-in-TablePart
unfolding table_rows rows row_at form_of limits said told_to reply_to octets_to image_after outcome_of
returns-in-TablePart c =
    none_told _ c.in-TablePart.is

pub returns-in-Number : goal.returns-in-Number
unfolding table_rows rows row_at form_of limits said told_to reply_to octets_to image_after outcome_of
returns-in-Number c =
    asks 6 (ap tables_place c.in-Number.is) (rw (c.told-in-Number.ensures, c.element_number.ensures, c.element-in-Number.ensures)) refl refl

pub table-t-requires-in-WriteRange : goal.table-t-requires-in-WriteRange
unfolding table_rows rows row_at form_of limits said told_to reply_to octets_to image_after outcome_of
table-t-requires-in-WriteRange c =
    record { n_bound = fits_at 7 0 1 refl c.requires (ap tables_place c.in-WriteRange.is); n_bound_2 = fits_at 7 1 65535 refl c.requires (ap tables_place c.in-WriteRange.is) }

pub returns-in-WriteRange : goal.returns-in-WriteRange
unfolding table_rows rows row_at form_of limits said told_to reply_to octets_to image_after outcome_of
returns-in-WriteRange c =
    asks 7 (ap tables_place c.in-WriteRange.is) (rw (c.verdict_told-in-WriteRange.ensures, c.write_range-written.ensures.reply, c.new-offset.ensures, c.table-t-in-WriteRange.ensures)) (rw (c.write_range-written.ensures.image, c.new-offset.ensures, c.table-t-in-WriteRange.ensures)) refl

pub returns-in-WriteOctets : goal.returns-in-WriteOctets
unfolding table_rows rows row_at form_of limits said told_to reply_to octets_to image_after outcome_of
returns-in-WriteOctets c =
    asks 8 (ap tables_place c.in-WriteOctets.is) (rw (c.verdict_told-in-WriteOctets.ensures, c.write_octets.ensures.reply, c.element-in-WriteOctets.ensures)) (rw (c.write_octets.ensures.image, c.element-in-WriteOctets.ensures)) refl

pub returns-in-WriteNumber : goal.returns-in-WriteNumber
unfolding table_rows rows row_at form_of limits said told_to reply_to octets_to image_after outcome_of
returns-in-WriteNumber c =
    asks 9 (ap tables_place c.in-WriteNumber.is) (rw (c.verdict_told-in-WriteNumber.ensures, c.write_number.ensures.reply, c.element-in-WriteNumber.ensures)) (rw (c.write_number.ensures.image, c.element-in-WriteNumber.ensures)) refl

pub moment-requires : goal.moment-requires
unfolding table_rows rows row_at form_of limits said told_to reply_to octets_to image_after outcome_of
moment-requires c =
    fits_all 10 tier_limits refl c.requires (ap tables_place c.in-Tier.is)

pub returns-in-Tier : goal.returns-in-Tier
unfolding table_rows rows row_at form_of limits said told_to reply_to octets_to image_after outcome_of
returns-in-Tier c =
    asks 10 (ap tables_place c.in-Tier.is) (rw (c.told-in-Tier.ensures, c.tier.ensures, c.moment.ensures, c.quantity-quantity.ensures)) refl refl

pub returns-in-Matrix : goal.returns-in-Matrix
unfolding table_rows rows row_at form_of limits said told_to reply_to octets_to image_after outcome_of
returns-in-Matrix c =
    asks 11 (ap tables_place c.in-Matrix.is) (rw (c.verdict_told-in-Matrix.ensures, c.matrix_verdict.ensures)) refl refl

pub date-requires : goal.date-requires
unfolding table_rows rows row_at form_of limits said told_to reply_to octets_to image_after outcome_of
date-requires c =
    fits_all 12 date_limits refl c.requires (ap tables_place c.in-Seasoned.is)

pub returns-in-Seasoned : goal.returns-in-Seasoned
unfolding table_rows rows row_at form_of limits said told_to reply_to octets_to image_after outcome_of
returns-in-Seasoned c =
    asks 12 (ap tables_place c.in-Seasoned.is) (rw (c.told-in-Seasoned.ensures, c.seasoned.ensures, c.date.ensures)) refl refl

pub table-t-requires-in-ReadRange : goal.table-t-requires-in-ReadRange
unfolding table_rows rows row_at form_of limits said told_to reply_to octets_to image_after outcome_of
table-t-requires-in-ReadRange c =
    record { n_bound = fits_at 13 0 1 refl c.requires (ap tables_place c.in-ReadRange.is); n_bound_2 = fits_at 13 1 65535 refl c.requires (ap tables_place c.in-ReadRange.is) }

pub returns-in-ReadRange : goal.returns-in-ReadRange
unfolding table_rows rows row_at form_of limits said told_to reply_to octets_to image_after outcome_of
returns-in-ReadRange c =
    asks 13 (ap tables_place c.in-ReadRange.is) (rw (c.place_told-in-ReadRange.ensures, c.range_place-place.ensures, c.new-offset-in-ReadRange.ensures, c.table-t-in-ReadRange.ensures)) refl refl
