-- What the rows lean on, by their kinds. Assumes nothing.
use mathlib.Core.Path.{◌≡◌, refl}
use mathlib.Core.Bool.{true, false}
use mathlib.Core.List.{List}
use Prim.Native.Nat.{ℕ, ◌<◌}
use native.Mathlib.Omega.{arith}
use lib.ListN.{length}
use Rattle.lines.specs.declared.rows.TableKind.{TableKind}
use Rattle.lines.specs.declared.rows.MessageKind.{MessageKind}
use Rattle.lines.specs.declared.rows.Kind.{Kind}
use Rattle.lines.specs.Answer.{table_rows, message_rows, date_rows, rows, row_at, form_of, is_kind, takes}
use Rattle.lines.specs.Kinds.{tables_place, messages_place, kind_place}

-- each has its place in the table
tables_low : (k : TableKind) → tables_place k < 14
tables_low TableKind.Check = omega arith
tables_low TableKind.Layout = omega arith
tables_low TableKind.Table = omega arith
tables_low TableKind.TablePart = omega arith
tables_low TableKind.Where = omega arith
tables_low TableKind.Octets = omega arith
tables_low TableKind.Number = omega arith
tables_low TableKind.WriteRange = omega arith
tables_low TableKind.WriteOctets = omega arith
tables_low TableKind.WriteNumber = omega arith
tables_low TableKind.Tier = omega arith
tables_low TableKind.Matrix = omega arith
tables_low TableKind.Seasoned = omega arith
tables_low TableKind.ReadRange = omega arith

messages_low : (k : MessageKind) → messages_place k < 19
messages_low MessageKind.Serve = omega arith
messages_low MessageKind.ReadRequest = omega arith
messages_low MessageKind.WriteRequest = omega arith
messages_low MessageKind.ReadReply = omega arith
messages_low MessageKind.WriteReply = omega arith

pub tables_in : (k : TableKind) → tables_place k < length rows
unfolding table_rows message_rows date_rows rows
tables_in k = omega (arith, tables_low k)

pub messages_in : (k : MessageKind) → messages_place k < length rows
unfolding table_rows message_rows date_rows rows
messages_in k = omega (arith, messages_low k)

pub kinds_in : (k : Kind) → kind_place k < length rows
unfolding table_rows message_rows date_rows rows
kinds_in (Kind.Tables k) = tables_in k
kinds_in (Kind.Messages k) = messages_in k
kinds_in Kind.Weekday = omega arith

-- a question about tables takes any numbers within their limits
pub tables_take : (k : TableKind) (numbers : List ℕ) → true ≡ takes (tables_place k) numbers
unfolding table_rows message_rows date_rows rows row_at is_kind takes
tables_take TableKind.Check numbers = refl
tables_take TableKind.Layout numbers = refl
tables_take TableKind.Table numbers = refl
tables_take TableKind.TablePart numbers = refl
tables_take TableKind.Where numbers = refl
tables_take TableKind.Octets numbers = refl
tables_take TableKind.Number numbers = refl
tables_take TableKind.WriteRange numbers = refl
tables_take TableKind.WriteOctets numbers = refl
tables_take TableKind.WriteNumber numbers = refl
tables_take TableKind.Tier numbers = refl
tables_take TableKind.Matrix numbers = refl
tables_take TableKind.Seasoned numbers = refl
tables_take TableKind.ReadRange numbers = refl

-- and but for four, it tells no octets
pub no_part : (k : TableKind) → (k ≡ TableKind.TablePart → ⊥) → (k ≡ TableKind.Octets → ⊥) → (k ≡ TableKind.Matrix → ⊥) → (k ≡ TableKind.ReadRange → ⊥)
    → (form_of (tables_place k)).part ≡ false
unfolding table_rows message_rows date_rows rows row_at form_of
no_part TableKind.Check a b c e = refl
no_part TableKind.Layout a b c e = refl
no_part TableKind.Table a b c e = refl
no_part TableKind.TablePart a b c e = absurd (a refl)
no_part TableKind.Where a b c e = refl
no_part TableKind.Octets a b c e = absurd (b refl)
no_part TableKind.Number a b c e = refl
no_part TableKind.WriteRange a b c e = refl
no_part TableKind.WriteOctets a b c e = refl
no_part TableKind.WriteNumber a b c e = refl
no_part TableKind.Tier a b c e = refl
no_part TableKind.Matrix a b c e = absurd (c refl)
no_part TableKind.Seasoned a b c e = refl
no_part TableKind.ReadRange a b c e = absurd (e refl)
