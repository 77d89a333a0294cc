use Rattle.std.proofs.Common.{◌∙◌, ℕ, List, length, map, sym, ap, subst}
use Rattle.std.specs.Arc.{arc_value}
use Rattle.std.proofs.lemmas.List.{length-map}
use Rattle.rmt_columns.specs.Columns.{ColumnView}
use Rattle.rmt_columns.specs.RowsByColumn.{AreLong, AreTyped, rows_of, kinds_of}
use Rattle.rmt_granules.specs.Places.{row_in, columns_from}
use Rattle.rmt_granules.proofs.ColumnLemmas.{HaveColumns, have-columns}
use Rattle.rmt_granules.proofs.merge.rows_in.Goals as goal

pub of_columns-requires-clause-long : goal.of_columns-requires-clause-long
of_columns-requires-clause-long c =
    let rows = map (row_in (map arc_value c.args.parts.now)) c.args.places.now in
    let have = have-columns c.args.schema.now.columns rows c.requires.fit in
    subst (λ (l : List ColumnView). AreLong (length c.args.places.now) l) (sym c.in_ok-columns.ensures)
    (subst (λ (n : ℕ). AreLong n (columns_from 0 c.args.schema.now.columns rows)) (length-map c.args.places.now (row_in (map arc_value c.args.parts.now))) have.long)

pub of_columns-requires-clause-typed : goal.of_columns-requires-clause-typed
of_columns-requires-clause-typed c =
    subst AreTyped (sym c.in_ok-columns.ensures) (HaveColumns.typed (have-columns c.args.schema.now.columns (map (row_in (map arc_value c.args.parts.now)) c.args.places.now) c.requires.fit))

pub returns-clause-rows : goal.returns-clause-rows
returns-clause-rows c =
    let rows = map (row_in (map arc_value c.args.parts.now)) c.args.places.now in
    let have = have-columns c.args.schema.now.columns rows c.requires.fit in
    c.of_columns.ensures.rows
    ∙ (ap (rows_of (length c.args.places.now)) c.in_ok-columns.ensures
    ∙ (ap (λ (n : ℕ). rows_of n (columns_from 0 c.args.schema.now.columns rows)) (sym (length-map c.args.places.now (row_in (map arc_value c.args.parts.now)))) ∙ have.are))

pub returns-clause-kinds : goal.returns-clause-kinds
returns-clause-kinds c =
    c.of_columns.ensures.kinds
    ∙ (ap kinds_of c.in_ok-columns.ensures
    ∙ HaveColumns.kinds (have-columns c.args.schema.now.columns (map (row_in (map arc_value c.args.parts.now)) c.args.places.now) c.requires.fit))
