use Rattle.std.proofs.Common.{◌≡◌, subst}
use Rattle.std.specs.declared.option.Option.TheVariants.{Some}
use Rattle.rmt_values.specs.Rows.{Shape}
use Rattle.rmt_expr.specs.Queries.{query_refusal}
use Rattle.rmt_play.specs.ActRefusals.{refused_query}
use Rattle.rmt_play.proofs.CommandLemmas.{found-fails}
use Rattle.rmt_play.specs.SelectStatement.{Reads}
use Rattle.rmt_play.proofs.ActLemmas.{found-known, found-checked, query-refused, reads-in}
use Rattle.rmt_play.proofs.select.read_in.Goals as goal

pub returns-in_ok-selection-in-Ok-clause-executes : goal.returns-in_ok-selection-in-Ok-clause-executes
returns-in_ok-selection-in-Ok-clause-executes g c =
    let s = g.E.Acting.seen c.args.engine.now in
    reads-in s (g.E.Acting.seen c.select.new.engine) c.args.replica c.args.query.now c.in-Ok.query _ _ (found-known c.in_ok-query.field-0 c.in-Ok.query c.schema.result.now s.shape c.args.query.now c.schema.ensures c.in-Ok.is c.in_ok-query.ensures.known)
    (found-checked c.in_ok-query.field-0 c.in-Ok.query c.schema.result.now s.shape c.args.query.now c.schema.ensures c.in-Ok.is c.in_ok-query.ensures.ok) c.in_ok-selection-in-Ok.ensures.selects c.select.ensures.leaves.events

pub returns-in-Err-clause-executes : goal.returns-in-Err-clause-executes
returns-in-Err-clause-executes g c =
    let why = found-fails c.in_ok-query.field-0 c.in-Err.refusal (λ e. refused_query (query_refusal c.schema.result.now c.args.query.now) ≡ Some e) c.in-Err.is c.in_ok-query.ensures.refused in
    let s = g.E.Acting.seen c.args.engine.now in
    let known = subst (λ (x : Shape). refused_query (query_refusal x c.args.query.now) ≡ Some c.in-Err.refusal) c.schema.ensures why in
    query-refused s c.args.query.now (λ t. Reads t c.args.replica c.args.query.now) (λ line u. u ≡ s.cluster) c.in-Err.refusal known
