-- `replying::read_short`: done, a refusal, or no reply. Assumes nothing.
use Rattle.std.proofs.Common.{ne_eqb, le-leb}
use borrow.Author.Tests.{lt-leb}
use Rattle.meaning.specs.Messages.{short_reply, heard_by}
use Rattle.messages.proofs.replying.read_short.Goals as goal

pub returns-then-only-eq-GOOD : goal.returns-then-only-eq-GOOD
unfolding short_reply heard_by
returns-then-only-eq-GOOD c = rw c.if-only-eq-GOOD.true

pub returns-then-only-le-LAST : goal.returns-then-only-le-LAST
unfolding short_reply heard_by
returns-then-only-le-LAST c = rw (ne_eqb _ 0 c.if-only-eq-GOOD.false, le-leb _ 4 c.if-only-le-LAST.true)

pub returns : goal.returns
unfolding short_reply heard_by
returns c = rw (ne_eqb _ 0 c.if-only-eq-GOOD.false, lt-leb _ 4 c.if-only-le-LAST.false)
