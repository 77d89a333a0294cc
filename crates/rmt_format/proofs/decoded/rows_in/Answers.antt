use Rattle.std.proofs.Common.{sym, ◌∙◌}
use Rattle.std.proofs.lemmas.Option.{some_pair_parts}
use Rattle.std.proofs.lemmas.Result.{err_from_is_err_and}
use Rattle.rmt_columns.specs.RowsByColumn.{RowsView}
use Rattle.rmt_format.specs.PartDecoding.{decode_rows}
use Rattle.rmt_format.proofs.PartLemmas.{head-fails, rows-fail, rows-read}
use Rattle.rmt_format.proofs.decoded.rows_in.Goals as goal

pub returns-in_err-data-clause-rows : goal.returns-in_err-data-clause-rows
returns-in_err-data-clause-rows c = λ part has held is.
    let p = err_from_is_err_and c.from_residual.result c.from_residual.ensures.1 in
    rw (p.1, p.2) (head-fails (λ (rows : RowsView). rows.rows) c.args.schema.now part c.args.bytes.now c.in_err-data.field-0.0 c.in_err-data.ensures is)

pub returns-in_err-rows-clause-rows : goal.returns-in_err-rows-clause-rows
returns-in_err-rows-clause-rows c = λ part has held is.
    let p = err_from_is_err_and c.from_residual-in_err-rows.result c.from_residual-in_err-rows.ensures.1 in
    let there = rows-read c.args.schema.now c.columns-columns.result.now c.granularity.result part c.args.bytes.now c.in_ok-data.data.now
    c.columns-columns.ensures.value c.granularity.ensures c.columns-columns.ensures.schema c.in_ok-data.ensures has held is in
    rw (p.1, p.2) (rows-fail (λ (rows : RowsView). rows.rows) part.rows there.0 (decode_rows c.columns-columns.result.now c.granularity.result c.in_ok-data.data.now) c.in_err-rows.field-0.0 c.in_err-rows.ensures.rows there.1)

pub returns-clause-rows : goal.returns-clause-rows
returns-clause-rows c = λ part has held is.
    let there = rows-read c.args.schema.now c.columns-columns.result.now c.granularity.result part c.args.bytes.now c.in_ok-data.data.now
    c.columns-columns.ensures.value c.granularity.ensures c.columns-columns.ensures.schema c.in_ok-data.ensures has held is in
    (some_pair_parts c.in_ok-rows.rows.rows part.rows c.in_ok-rows._rest.now there.0 (sym c.in_ok-rows.ensures.rows ∙ there.1)).0
