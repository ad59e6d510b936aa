-- `rows::reached`: what is left of the ARRAYs and the subscripts leads to the same as the whole. Assumes nothing.
use Rattle.std.proofs.Common.{◌≡◌, ◌≤◌, length}
use Rattle.places.specs.Rows.{reached_by}
use Rattle.places.proofs.Reach.{left_at}
use Rattle.places.proofs.rows.reached.Given as goal

abbrev pub invariant-loop-level : goal.invariant-loop-level
invariant-loop-level l = record {
  small : l.octet ≤ 65536;
  enough : length l.level-iterator.a.rest.now ≤ length l.level-iterator.b.rest.now;
  leads : left_at l.octet l.level-iterator.a.rest.now l.level-iterator.b.rest.now ≡ reached_by l.first l.fn.arrays l.fn.name;
}
