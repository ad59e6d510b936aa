-- `lines::rows::MessageKind::takes`: the two that have kinds; no other has any. Assumes nothing.
use mathlib.Core.Path.{◌≡◌}
use mathlib.Core.Bool.{true}
use mathlib.Core.List.{List}
use mathlib.Core.Logic.{◌⊎◌, inl, inr}
use Prim.Native.Nat.{ℕ}
use native.Mathlib.Omega.{arith}
use Rattle.std.proofs.lemmas.Bool.Decides.{nat_tests}
use Rattle.lines.specs.declared.rows.MessageKind.{MessageKind}
use Rattle.lines.specs.Answer.{table_rows, message_rows, date_rows, rows, row_at, is_kind, among, takes}
use Rattle.lines.specs.Kinds.{messages_place}
use Rattle.lines.proofs.rows.MessageKind.takes.Goals as goal

other : (k : MessageKind) (numbers : List ℕ) → (k ≡ MessageKind.Serve) ⊎ (k ≡ MessageKind.ReadRequest) ⊎ (k ≡ MessageKind.ReadReply)
    → true ≡ takes (messages_place k) numbers
unfolding table_rows message_rows date_rows rows row_at is_kind takes
other k numbers (inl e) = rw e
other k numbers (inr (inl e)) = rw e
other k numbers (inr (inr e)) = rw e

pub returns-in-Serve : goal.returns-in-Serve
returns-in-Serve c = other _ _ c.in-Serve.is

pub returns-in-48 : goal.returns-in-48
unfolding table_rows message_rows date_rows rows row_at is_kind among takes
returns-in-48 c = rw c.in-WriteRequest.is (grind (arith, nat_tests))

pub returns-in-48-2 : goal.returns-in-48-2
unfolding table_rows message_rows date_rows rows row_at is_kind among takes
returns-in-48-2 c = rw c.in-WriteRequest.is (grind (arith, nat_tests))

pub returns-in_default : goal.returns-in_default
unfolding table_rows message_rows date_rows rows row_at is_kind among takes
returns-in_default c = rw c.in-WriteRequest.is (grind (arith, nat_tests))

pub returns-in_default-2 : goal.returns-in_default-2
unfolding table_rows message_rows date_rows rows row_at is_kind among takes
returns-in_default-2 c = rw c.in-WriteRequest.is (grind (arith, nat_tests))

pub returns-in-1 : goal.returns-in-1
unfolding table_rows message_rows date_rows rows row_at is_kind among takes
returns-in-1 c = rw c.in-WriteReply.is (grind (arith, nat_tests))

pub returns-in_default-matches : goal.returns-in_default-matches
unfolding table_rows message_rows date_rows rows row_at is_kind among takes
returns-in_default-matches c = rw c.in-WriteReply.is (grind (arith, nat_tests))

pub returns-in_default-matches-2 : goal.returns-in_default-matches-2
unfolding table_rows message_rows date_rows rows row_at is_kind among takes
returns-in_default-matches-2 c = rw c.in-WriteReply.is (grind (arith, nat_tests))
