-- `lines::rows::Kind::takes`: of messages, that of the kind within; the others take any. Assumes nothing.
use mathlib.Core.Path.{◌≡◌}
use mathlib.Core.Bool.{true}
use mathlib.Core.List.{List}
use mathlib.Core.Logic.{◌⊎◌, inl, inr}
use Prim.Native.Nat.{ℕ}
use Rattle.lines.specs.declared.rows.TableKind.{TableKind}
use Rattle.lines.specs.declared.rows.Kind.{Kind}
use Rattle.lines.specs.Answer.{table_rows, message_rows, date_rows, rows, row_at, is_kind, takes}
use Rattle.lines.specs.Kinds.{kind_place}
use Rattle.lines.proofs.KindLaws.{tables_take}
use Rattle.lines.proofs.rows.Kind.takes.Goals as goal

any : (k : Kind) (numbers : List ℕ) → ((x : TableKind) × (k ≡ Kind.Tables x)) ⊎ (k ≡ Kind.Weekday) → true ≡ takes (kind_place k) numbers
unfolding table_rows message_rows date_rows rows row_at is_kind takes
any k numbers (inl (x, e)) = rw e (tables_take x numbers)
any k numbers (inr e) = rw e

pub returns-in-Tables : goal.returns-in-Tables
returns-in-Tables c = any _ _ c.in-Tables.is
