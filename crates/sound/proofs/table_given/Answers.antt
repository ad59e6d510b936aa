-- `sound::table_given`: as many items are looked at as turns are made, and none of them is that TABLE. Assumes nothing.
use mathlib.Core.Path.{◌≡◌, sym, ◌∙◌}
use native.Mathlib.Omega.{arith}
use Rattle.meaning.proofs.Given.{table_given_lem}
use Rattle.meaning.proofs.Rules.{given_none, given_step}
use Rattle.items.proofs.ReadLaws.{fields_read, next_read}
use Rattle.sound.proofs.table_given.Goals as goal

pub loop-init : goal.loop-init
loop-init c = record { at = c.first-place.ensures; none = given_none _ _ _ }

pub returns-then-is_table_named : goal.returns-then-is_table_named
returns-then-is_table_named c =
    let f = fields_read c.args.d.now c.loop.counter (omega arith) (rw c.loop.invariant.at at c.read-read.ensures) in
    sym (table_given_lem c.args.d.now c.loop.counter _ _ (rw (← f) (sym c.is_table_named.ensures ∙ c.if-is_table_named.true)) _ (omega arith))

pub loop-preserved : goal.loop-preserved
loop-preserved c =
    let read = rw c.loop.invariant.at at c.read-read.ensures in
    let f = fields_read c.args.d.now c.loop.counter (omega arith) read in
    record { at = next_read c.args.d.now c.loop.counter (omega arith) read; none = rw (given_step, ← f, sym c.is_table_named.ensures ∙ c.if-is_table_named.false) c.loop.invariant.none }

pub returns : goal.returns
returns c = let e : c.loop.counter ≡ c.args.end = omega arith in rw (← e) (sym c.loop.invariant.none)
