-- The rows of the table as the code has them, by their places in it. Assumes nothing.
use Rattle.std.specs.Prelude.{ℕ, Option, Some, None}
use Rattle.lines.specs.declared.rows.TableKind.{TableKind}
use Rattle.lines.specs.declared.rows.MessageKind.{MessageKind}
use Rattle.lines.specs.declared.rows.Kind.{Kind}

-- the questions about tables
abbrev pub tables_place : TableKind → ℕ
tables_place TableKind.Check = 0
tables_place TableKind.Layout = 1
tables_place TableKind.Table = 2
tables_place TableKind.TablePart = 3
tables_place TableKind.Where = 4
tables_place TableKind.Octets = 5
tables_place TableKind.Number = 6
tables_place TableKind.WriteRange = 7
tables_place TableKind.WriteOctets = 8
tables_place TableKind.WriteNumber = 9
tables_place TableKind.Tier = 10
tables_place TableKind.Matrix = 11
tables_place TableKind.Seasoned = 12
tables_place TableKind.ReadRange = 13

-- the messages
abbrev pub messages_place : MessageKind → ℕ
messages_place MessageKind.Serve = 14
messages_place MessageKind.ReadRequest = 15
messages_place MessageKind.WriteRequest = 16
messages_place MessageKind.ReadReply = 17
messages_place MessageKind.WriteReply = 18

-- all of them; the row of a date alone stands last
abbrev pub kind_place : Kind → ℕ
kind_place (Kind.Tables k) = tables_place k
kind_place (Kind.Messages k) = messages_place k
kind_place Kind.Weekday = 19

-- no row is the place behind the last
abbrev pub found_place : Option Kind → ℕ
found_place None = 20
found_place (Some k) = kind_place k
