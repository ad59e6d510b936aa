-- `places::table_places`: the answer's tables, or its refusal, are the replies. Assumes nothing.
use mathlib.Core.Path.{◌∙◌}
use Rattle.places.proofs.Replies.{table_refused, tables_told}
use Rattle.places.proofs.table_places.Goals as goal

pub returns-in-Err : goal.returns-in-Err
returns-in-Err c = (table_refused _ _ _ c.in-Err.ensures _ _, table_refused _ _ _ c.in-Err.ensures _ _)

pub returns-in-Ok : goal.returns-in-Ok
returns-in-Ok c =
    let told = tables_told _ _ _ _ c.in-Ok.ensures in
    (c.place_of_table.ensures ∙ told.0, c.place_of_table-in-Ok.ensures ∙ told.1)
