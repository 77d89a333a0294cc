use Rattle.std.proofs.Common.{◌≡◌, ◌∙◌, sym, subst}
use Rattle.std.specs.declared.option.Option.TheVariants.{Some}
use Rattle.rmt_values.specs.Rows.{Shape}
use Rattle.rmt_expr.specs.Queries.{query_refusal}
use Rattle.rmt_play.specs.ActRefusals.{refused_query}
use Rattle.rmt_play.proofs.CommandLemmas.{found-fails}
use Rattle.std.proofs.lemmas.Result.{IfOk-weaker}
use Rattle.rmt_play.proofs.ActLemmas.{found-known, found-checked}
use Rattle.rmt_play.proofs.SequentialLemmas.{query-declined, setting-declined, reads-with}
use Rattle.rmt_play.proofs.select.read_with.Goals as goal

pub returns-clause-executes : goal.returns-clause-executes
returns-clause-executes g c =
    let s = g.E.Acting.seen c.args.engine.now in
    let known = (found-known c.in_ok-query.field-0 c.in-Ok.query c.schema.result.now s.shape c.args.query.now c.schema.ensures c.in-Ok.is c.in_ok-query.ensures.known) in
    let checked = (found-checked c.in_ok-query.field-0 c.in-Ok.query c.schema.result.now s.shape c.args.query.now c.schema.ensures c.in-Ok.is c.in_ok-query.ensures.ok) in
    IfOk-weaker c.read_checked.result _ _
    (λ line a table. reads-with s (g.E.Acting.seen c.read_checked.new.engine) c.args.replica c.args.setting table c.args.query.now c.in-Ok.query line known checked (sym c.in_ok-refusal.ensures ∙ c.in-None.is) a c.read_checked.ensures.leaves.events) c.read_checked.ensures.selects

pub returns-in-Err-clause-executes : goal.returns-in-Err-clause-executes
returns-in-Err-clause-executes g c =
    let why = found-fails c.in_ok-query.field-0 c.in-Err.refusal (λ e. refused_query (query_refusal c.schema.result.now c.args.query.now) ≡ Some e) c.in-Err.is c.in_ok-query.ensures.refused in
    let s = g.E.Acting.seen c.args.engine.now in
    let known = subst (λ (x : Shape). refused_query (query_refusal x c.args.query.now) ≡ Some c.in-Err.refusal) c.schema.ensures why in
    λ table. query-declined s c.args.replica table c.args.query.now c.args.setting c.in-Err.refusal known

pub returns-in-Some-clause-executes : goal.returns-in-Some-clause-executes
returns-in-Some-clause-executes g c =
    let s = g.E.Acting.seen c.args.engine.now in
    let known = (found-known c.in_ok-query.field-0 c.in-Ok.query c.schema.result.now s.shape c.args.query.now c.schema.ensures c.in-Ok.is c.in_ok-query.ensures.known) in
    λ table. setting-declined s c.args.replica table c.args.query.now c.args.setting c.in-Some.refusal known (sym c.in_ok-refusal.ensures ∙ c.in-Some.is)
