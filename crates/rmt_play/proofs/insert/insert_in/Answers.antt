use Rattle.std.proofs.Common.{◌≡◌, ◌∙◌, ap, subst}
use Rattle.rmt_values.specs.Rows.{Shape}
use Rattle.rmt_columns.specs.RowsByColumn.{kinds_in}
use Rattle.rmt_play.proofs.ActLemmas.{found-rows, inserts-all-in, rows-refused}
use Rattle.rmt_play.specs.PlayerSteps.{RefusesRows}
use Rattle.rmt_play.proofs.CommandLemmas.{found-holds, found-fails}
use Rattle.rmt_play.proofs.OfferLemmas.{offers-rows}
use Rattle.rmt_play.proofs.insert.insert_in.Goals as goal

pub insert_rows-requires-clause-kinds : goal.insert_rows-requires-clause-kinds
insert_rows-requires-clause-kinds g c =
    found-holds c.in_ok-rows.field-0 c.in-Ok.rows (λ rows. rows.kinds ≡ kinds_in c.schema.result.now.columns) c.in-Ok.is c.in_ok-rows.ensures.kinds
    ∙ ap (λ (s : Shape). kinds_in s.columns) c.schema.ensures

pub insert_rows-requires-clause-offered : goal.insert_rows-requires-clause-offered
insert_rows-requires-clause-offered g c =
    let s = g.E.Acting.seen c.args.engine.now in
    offers-rows g.E.Acting.offers s.shape c.args.insert.now c.in-Ok.rows.rows c.requires.offered
    (found-rows c.in_ok-rows.field-0 (λ rows. rows.rows) c.in-Ok.rows c.schema.result.now s.shape c.args.insert.now c.schema.ensures c.in-Ok.is c.in_ok-rows.ensures.ok).read

pub returns-in-Ok-clause-executes : goal.returns-in-Ok-clause-executes
returns-in-Ok-clause-executes g c =
    let s = g.E.Acting.seen c.args.engine.now in
    inserts-all-in c.insert_rows.result s (g.E.Acting.seen c.insert_rows.new.engine) c.args.replica c.asked.result c.args.insert.now c.in-Ok.rows.rows c.asked.ensures.asked c.requires.idle.up
    (found-rows c.in_ok-rows.field-0 (λ rows. rows.rows) c.in-Ok.rows c.schema.result.now s.shape c.args.insert.now c.schema.ensures c.in-Ok.is c.in_ok-rows.ensures.ok) c.insert_rows.ensures.inserts c.insert_rows.ensures.events

pub returns-in-Err-clause-executes : goal.returns-in-Err-clause-executes
returns-in-Err-clause-executes g c =
    let why = found-fails c.in_ok-rows.field-0 c.in-Err.refusal (RefusesRows c.schema.result.now c.args.insert.now) c.in-Err.is c.in_ok-rows.ensures.refused in
    rows-refused (g.E.Acting.seen c.args.engine.now) c.args.replica c.args.insert.now c.in-Err.refusal (subst (λ (x : Shape). RefusesRows x c.args.insert.now c.in-Err.refusal) c.schema.ensures why)
