-- `sound::check_body`: one turn clears its item, and both its bodies where it has some (Turn, Clear). Assumes nothing.
use mathlib.Core.Path.{refl}
use Rattle.std.proofs.lemmas.Result.{err_from_is_err_and}
use native.Mathlib.Omega.{arith}
use Rattle.sound.specs.Walk.{Turn}
use Rattle.sound.proofs.Laws.{broke, enter, further, leave, ended, entered_none, first_before, second_before, joined}
use Rattle.sound.proofs.+check_body.Goals as goal

pub loop-r-init : goal.loop-r-init
loop-r-init t c =
    record { now = c.requires; quiet = λ i h. refl }

pub judge-requires : goal.judge-requires
judge-requires t c =
    (omega arith, c.loop-r.invariant.now.known)

pub returns-in_err-judged : goal.returns-in_err-judged
returns-in_err-judged t c =
    let p = err_from_is_err_and c.from_residual.result c.from_residual.ensures.1 in rw (p.1, p.2) (broke c.loop-r.invariant.now (omega arith) c.in_err-judged.ensures)

pub noted-known-requires : goal.noted-known-requires
noted-known-requires t c =
    (c.in_ok-judged.ensures.range, c.loop-r.invariant.now.known.size)

pub overflow_add-f : goal.overflow_add-f
overflow_add-f t c =
    let h = c.in_ok-judged.ensures.range in omega arith

pub loop-r-smaller-then-f-eq0 : goal.loop-r-smaller-then-f-eq0
loop-r-smaller-then-f-eq0 t c =
    let u : Turn c.args.d.now c.args.from.at c.loop-r.place.at c.loop-r.set c.args.r c.args.levels _ c.noted-known.result =
    record { going = c.loop-r.invariant; more = omega arith; judged = c.in_ok-judged.ensures; set = c.noted-known.ensures } in
    let h = further u (entered_none (enter u) c.if-f-eq0.true) in omega arith

pub loop-r-preserved-then-f-eq0 : goal.loop-r-preserved-then-f-eq0
loop-r-preserved-then-f-eq0 t c =
    let u : Turn c.args.d.now c.args.from.at c.loop-r.place.at c.loop-r.set c.args.r c.args.levels _ c.noted-known.result =
    record { going = c.loop-r.invariant; more = omega arith; judged = c.in_ok-judged.ensures; set = c.noted-known.ensures } in
    leave u (entered_none (enter u) c.if-f-eq0.true)

pub overflow_add-middle : goal.overflow_add-middle
overflow_add-middle t c =
    let u : Turn c.args.d.now c.args.from.at c.loop-r.place.at c.loop-r.set c.args.r c.args.levels _ c.noted-known.result =
    record { going = c.loop-r.invariant; more = omega arith; judged = c.in_ok-judged.ensures; set = c.noted-known.ensures } in
    let h = (enter u).there.few in omega arith

pub inside-requires : goal.inside-requires
inside-requires t c =
    let u : Turn c.args.d.now c.args.from.at c.loop-r.place.at c.loop-r.set c.args.r c.args.levels _ c.noted-known.result =
    record { going = c.loop-r.invariant; more = omega arith; judged = c.in_ok-judged.ensures; set = c.noted-known.ensures } in
    let h = u.going.now.levels_left in omega arith

pub overflow_sub-levels : goal.overflow_sub-levels
overflow_sub-levels t c =
    let u : Turn c.args.d.now c.args.from.at c.loop-r.place.at c.loop-r.set c.args.r c.args.levels _ c.noted-known.result =
    record { going = c.loop-r.invariant; more = omega arith; judged = c.in_ok-judged.ensures; set = c.noted-known.ensures } in
    let h = ((enter u).deeper c.if-f-eq0.false).0 in omega arith

pub check_body-requires : goal.check_body-requires
check_body-requires t c =
    let u : Turn c.args.d.now c.args.from.at c.loop-r.place.at c.loop-r.set c.args.r c.args.levels _ c.noted-known.result =
    record { going = c.loop-r.invariant; more = omega arith; judged = c.in_ok-judged.ensures; set = c.noted-known.ensures } in
    let e = enter u in
    let h = (e.deeper c.if-f-eq0.false).0 in (omega arith, first_before e c.if-f-eq0.false (rw c.item-in-loop-r.ensures at c.inside.ensures))

pub returns-in_err-first : goal.returns-in_err-first
returns-in_err-first t c =
    let p = err_from_is_err_and c.from_residual-in_err-first.result c.from_residual-in_err-first.ensures.1 in rw (p.1, p.2) c.in_err-first.ensures

pub overflow_add-middle-in-loop-r : goal.overflow_add-middle-in-loop-r
overflow_add-middle-in-loop-r t c =
    let u : Turn c.args.d.now c.args.from.at c.loop-r.place.at c.loop-r.set c.args.r c.args.levels _ c.noted-known.result =
    record { going = c.loop-r.invariant; more = omega arith; judged = c.in_ok-judged.ensures; set = c.noted-known.ensures } in
    let h = (enter u).there.few in omega arith

pub inside-requires-in-loop-r : goal.inside-requires-in-loop-r
inside-requires-in-loop-r t c =
    let u : Turn c.args.d.now c.args.from.at c.loop-r.place.at c.loop-r.set c.args.r c.args.levels _ c.noted-known.result =
    record { going = c.loop-r.invariant; more = omega arith; judged = c.in_ok-judged.ensures; set = c.noted-known.ensures } in
    let h = u.going.now.levels_left in omega arith

pub overflow_sub-levels-in-loop-r : goal.overflow_sub-levels-in-loop-r
overflow_sub-levels-in-loop-r t c =
    let u : Turn c.args.d.now c.args.from.at c.loop-r.place.at c.loop-r.set c.args.r c.args.levels _ c.noted-known.result =
    record { going = c.loop-r.invariant; more = omega arith; judged = c.in_ok-judged.ensures; set = c.noted-known.ensures } in
    let h = ((enter u).deeper c.if-f-eq0.false).0 in omega arith

pub check_body-requires-in-loop-r : goal.check_body-requires-in-loop-r
check_body-requires-in-loop-r t c =
    let u : Turn c.args.d.now c.args.from.at c.loop-r.place.at c.loop-r.set c.args.r c.args.levels _ c.noted-known.result =
    record { going = c.loop-r.invariant; more = omega arith; judged = c.in_ok-judged.ensures; set = c.noted-known.ensures } in
    let e = enter u in
    let h = (e.deeper c.if-f-eq0.false).0 in
    let first = rw c.item-in-loop-r.ensures at c.inside.ensures in
    let second = rw c.item-in-loop-r.ensures at c.inside-in-loop-r.ensures in
    (omega arith, second_before e first c.in_ok-first.ensures c.if-f-eq0.false second)

pub returns-in_err-second : goal.returns-in_err-second
returns-in_err-second t c =
    let p = err_from_is_err_and c.from_residual-in_err-second.result c.from_residual-in_err-second.ensures.1 in rw (p.1, p.2) c.in_err-second.ensures

pub loop-r-smaller : goal.loop-r-smaller
loop-r-smaller t c =
    let u : Turn c.args.d.now c.args.from.at c.loop-r.place.at c.loop-r.set c.args.r c.args.levels _ c.noted-known.result =
    record { going = c.loop-r.invariant; more = omega arith; judged = c.in_ok-judged.ensures; set = c.noted-known.ensures } in
    let first = rw c.item-in-loop-r.ensures at c.inside.ensures in
    let second = rw c.item-in-loop-r.ensures at c.inside-in-loop-r.ensures in
    let cleared =
    joined (enter u) first c.in_ok-first.ensures second c.in_ok-second.ensures
    in
    let h = further u cleared in omega arith

pub loop-r-preserved : goal.loop-r-preserved
loop-r-preserved t c =
    let u : Turn c.args.d.now c.args.from.at c.loop-r.place.at c.loop-r.set c.args.r c.args.levels _ c.noted-known.result =
    record { going = c.loop-r.invariant; more = omega arith; judged = c.in_ok-judged.ensures; set = c.noted-known.ensures } in
    let first = rw c.item-in-loop-r.ensures at c.inside.ensures in
    let second = rw c.item-in-loop-r.ensures at c.inside-in-loop-r.ensures in
    let cleared =
    joined (enter u) first c.in_ok-first.ensures second c.in_ok-second.ensures
    in
    leave u cleared

pub returns : goal.returns
returns t c =
    ended c.loop-r.invariant (omega arith)
