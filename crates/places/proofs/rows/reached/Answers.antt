-- `rows::reached`: what is left of the ARRAYs and the subscripts leads to the same as the whole. Assumes nothing.
use Rattle.std.proofs.Common.{arith, ◌∙◌, length, ap, ◌≤◌}
use Rattle.std.proofs.lemmas.Slice.Zip.{Zip-more, either_empty_from_Zip}
use Rattle.std.proofs.lemmas.List.{length-take-le}
use Rattle.places.proofs.Reach.{left_next, left_past, left_none, reached_all, reached_not}
use Rattle.places.proofs.rows.reached.Goals as goal

pub returns-then-name-depth : goal.returns-then-name-depth
returns-then-name-depth c = reached_not _ _ _ c.if-name-depth.true

pub loop-level-init : goal.loop-level-init
loop-level-init c =
    let l : c.args.arrays.depth ≤ length c.args.arrays.levels = omega (arith, c.requires.0.depth, c.requires.0.levels) in
    record {
      small = omega (arith, c.cut-octet.ensures);
      enough = rw (c.into_iter-level-iterator.ensures.into_iter_gives, c.zip-level-items.ensures.first, c.zip-level-items.ensures.second, c.iter.ensures.rest, c.iter-2.ensures.rest) (omega (arith, length-take-le _ _ l, c.requires.0.depth, c.requires.1));
      leads = rw (c.into_iter-level-iterator.ensures.into_iter_gives, c.zip-level-items.ensures.first, c.zip-level-items.ensures.second, c.iter.ensures.rest, c.iter-2.ensures.rest, c.cut-octet.ensures) (reached_all _ c.args.arrays c.args.name l c.if-name-depth.false);
    }

pub returns-then-level-subscript : goal.returns-then-level-subscript
returns-then-level-subscript c =
    let s = Zip-more c.loop-level.level-iterator c.next.new.self _ _ c.in-Some.is c.next.ensures.steps in
    left_past c.loop-level.octet _ _ _ _ c.if-level-subscript.true ∙ rw (s.0, s.1) at c.loop-level.invariant.leads

pub loop-level-preserved : goal.loop-level-preserved
loop-level-preserved c =
    let s = Zip-more c.loop-level.level-iterator c.next.new.self _ _ c.in-Some.is c.next.ensures.steps in
    record {
      small = omega (arith, c.cut-octet-in-loop-level.ensures);
      enough = omega (arith, c.loop-level.invariant.enough, ap length s.0, ap length s.1);
      leads = rw (c.cut-octet-in-loop-level.ensures, c.cut.ensures) (left_next _ _ _ _ _ c.if-level-subscript.false ∙ rw (s.0, s.1) at c.loop-level.invariant.leads);
    }

pub returns : goal.returns
returns c =
    left_none _ _ _ (either_empty_from_Zip c.loop-level.level-iterator c.next.new.self _ c.in-None.is c.next.ensures.steps) c.loop-level.invariant.enough ∙ c.loop-level.invariant.leads
