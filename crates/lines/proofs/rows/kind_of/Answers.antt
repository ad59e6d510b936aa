-- `lines::rows::kind_of`: the words of NAMES are the names of the table, and KINDS has the rows in its order. Assumes nothing.
use mathlib.Core.Path.{◌≡◌, sym, ◌∙◌}
use mathlib.Core.List.{List, [], ◌∷◌, map}
use Prim.Native.Nat.{ℕ, ◌+◌, ◌<◌}
use native.Mathlib.Nat.{zero-add}
use native.Mathlib.Omega.{arith}
use lib.ListN.{get_or, get_or-map}
use Rattle.std.proofs.lemmas.List.FromFn.{get_or-range_with_len}
use Rattle.lines.specs.declared.rows.TableKind.{TableKind}
use Rattle.lines.specs.declared.rows.MessageKind.{MessageKind}
use Rattle.words.specs.Line.{longer, words_of, none_empty, line_words}
use Rattle.words.proofs.IndexLaws.{place_found, place_none}
use Rattle.lines.specs.declared.rows.Kind.{Kind}
use Rattle.lines.specs.Answer.{Row, table_rows, message_rows, date_rows, rows, kind_of}
use Rattle.lines.specs.Kinds.{kind_place}
use Rattle.lines.proofs.rows.kind_of.Goals as goal

abbrev kinds : List Kind
kinds = Kind.Tables TableKind.Check ∷ Kind.Tables TableKind.Layout ∷ Kind.Tables TableKind.Table ∷ Kind.Tables TableKind.TablePart ∷ Kind.Tables TableKind.Where ∷ Kind.Tables TableKind.Octets ∷ Kind.Tables TableKind.Number ∷ Kind.Tables TableKind.WriteRange ∷ Kind.Tables TableKind.WriteOctets ∷ Kind.Tables TableKind.WriteNumber ∷ Kind.Tables TableKind.Tier ∷ Kind.Tables TableKind.Matrix ∷ Kind.Tables TableKind.Seasoned ∷ Kind.Tables TableKind.ReadRange ∷ Kind.Messages MessageKind.Serve ∷ Kind.Messages MessageKind.ReadRequest ∷ Kind.Messages MessageKind.WriteRequest ∷ Kind.Messages MessageKind.ReadReply ∷ Kind.Messages MessageKind.WriteReply ∷ Kind.Weekday ∷ []

in_order : (k : ℕ) (d : Kind) → k < 20 → kind_place (get_or kinds k d) ≡ k
in_order k d h =
    let e : get_or (map kind_place kinds) k (kind_place d) ≡ 0 + k = get_or-range_with_len 0 20 k (kind_place d) h in
    sym (get_or-map kind_place kinds k d) ∙ e ∙ zero-add k

pub offset_bounds-place : goal.offset_bounds-place
unfolding longer words_of none_empty line_words table_rows message_rows date_rows rows kind_of
offset_bounds-place c =
    let names : List (List ℕ) = map (λ (r : Row). r.name) rows in
    let h : c.in-Ok.place < 20 = (place_found c.args.name.now names c.in-Ok.place (sym c.index_of.ensures ∙ c.in-Ok.is)).0 in
    omega arith

pub bounds-place-place : goal.bounds-place-place
unfolding longer words_of none_empty line_words table_rows message_rows date_rows rows kind_of
bounds-place-place c =
    let names : List (List ℕ) = map (λ (r : Row). r.name) rows in
    (place_found c.args.name.now names c.in-Ok.place (sym c.index_of.ensures ∙ c.in-Ok.is)).0

pub returns-in-Ok : goal.returns-in-Ok
unfolding longer words_of none_empty line_words table_rows message_rows date_rows rows kind_of
returns-in-Ok c =
    let names : List (List ℕ) = map (λ (r : Row). r.name) rows in
    let f = place_found c.args.name.now names c.in-Ok.place (sym c.index_of.ensures ∙ c.in-Ok.is) in
    in_order c.in-Ok.place (Kind.Tables TableKind.Check) f.0 ∙ f.1

pub returns-in-Err : goal.returns-in-Err
unfolding longer words_of none_empty line_words table_rows message_rows date_rows rows kind_of
returns-in-Err c =
    let names : List (List ℕ) = map (λ (r : Row). r.name) rows in
    (place_none c.args.name.now names _ (sym c.index_of.ensures ∙ c.in-Err.is)).1
