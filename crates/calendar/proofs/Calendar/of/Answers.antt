-- `Calendar::of`: a table missing, or both there. Assumes nothing.
use mathlib.Core.Path.{refl}
use Rattle.std.proofs.lemmas.Result.{err_from_is_err_and}
use Rattle.calendar.proofs.Laws.{by_places}
use Rattle.calendar.proofs.Calendar.of.Goals as goal

pub returns-in_err-table51-clause-missing : goal.returns-in_err-table51-clause-missing
returns-in_err-table51-clause-missing c =
    let p = err_from_is_err_and c.from_residual.result c.from_residual.ensures.1 in
    rw (p.1, p.2) (by_places _ _ _ _ c.table_places-tables.ensures.0 c.table_places-tables.ensures.1 c.in_err-table51.was refl)

pub returns-in_err-table54-clause-missing : goal.returns-in_err-table54-clause-missing
returns-in_err-table54-clause-missing c =
    let p = err_from_is_err_and c.from_residual-in_err-table54.result c.from_residual-in_err-table54.ensures.1 in
    rw (p.1, p.2) (by_places _ _ _ _ c.table_places-tables.ensures.0 c.table_places-tables.ensures.1 c.in_ok-table51.was c.in_err-table54.was)

pub returns-clause-found : goal.returns-clause-found
returns-clause-found c =
    rw (← by_places _ _ _ _ c.table_places-tables.ensures.0 c.table_places-tables.ensures.1 c.in_ok-table51.was c.in_ok-table54.was, ← c.data_order.ensures, ← c.part.ensures.reply, ← c.part-2.ensures.reply) c.sized.ensures.found

pub returns-clause-missing : goal.returns-clause-missing
returns-clause-missing c =
    rw (← by_places _ _ _ _ c.table_places-tables.ensures.0 c.table_places-tables.ensures.1 c.in_ok-table51.was c.in_ok-table54.was, ← c.data_order.ensures, ← c.part.ensures.reply, ← c.part-2.ensures.reply) c.sized.ensures.missing
