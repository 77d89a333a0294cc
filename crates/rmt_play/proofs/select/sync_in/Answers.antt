use Rattle.std.proofs.Common.{◌≡◌, ◌∙◌, subst}
use Rattle.std.specs.declared.option.Option.TheVariants.{Some}
use Rattle.rmt_values.specs.Rows.{Shape}
use Rattle.rmt_expr.specs.Queries.{query_refusal}
use Rattle.rmt_play.specs.ActRefusals.{refused_query}
use Rattle.rmt_play.proofs.CommandLemmas.{found-fails}
use Rattle.rmt_play.specs.ActEvents.{refusal_told}
use Rattle.rmt_play.specs.SelectStatement.{Syncs}
use Rattle.std.specs.declared.option.Option.{Option}
use Rattle.rmt_reply.specs.declared.refusal.Refusal.{Refusal}
use Rattle.rmt_acts.specs.StatementEvents.{SyncEvents}
use Rattle.rmt_acting.specs.Acting.{Brings}
use Rattle.rmt_statement_model.specs.ActOutcomes.{SyncsOr}
use Rattle.rmt_play.proofs.SightLemmas.{goes-then, keeps-then}
use Rattle.rmt_play.proofs.ActLemmas.{found-known, found-checked, none-of, query-refused, syncs-in, sync-lacks}
use Rattle.rmt_play.proofs.select.sync_in.Goals as goal

pub returns-in_ok-tuples-in-Ok-clause-executes : goal.returns-in_ok-tuples-in-Ok-clause-executes
returns-in_ok-tuples-in-Ok-clause-executes g c =
    let s = g.E.Acting.seen c.args.engine.now in
    let m = g.E.Acting.seen c.sync_replica.new.self in
    let u = g.E.Acting.seen c.answer_up_to_date.new.self in
    let none = none-of c.in_ok-refusal-in-Ok.field-0 c.in_default.not-Some in
    syncs-in s m u c.args.replica c.args.query.now c.in-Ok.query c.new.result (found-known c.in_ok-query.field-0 c.in-Ok.query c.schema.result.now s.shape c.args.query.now c.schema.ensures c.in-Ok.is c.in_ok-query.ensures.known)
    (found-checked c.in_ok-query.field-0 c.in-Ok.query c.schema.result.now s.shape c.args.query.now c.schema.ensures c.in-Ok.is c.in_ok-query.ensures.ok)
    (subst (λ (o : Option Refusal). Brings s (SyncsOr s.ups c.args.replica o) m) none c.in_ok-refusal-in-Ok.ensures.syncs)
    (λ n. subst (λ (o : Option Refusal). SyncEvents s.cluster c.args.replica o m.cluster) none (c.in_ok-refusal-in-Ok.ensures.events n))
    c.in_ok-tuples-in-Ok.ensures.shown c.answer_up_to_date.ensures.leaves.events (λ t h k. c.new.ensures ∙ c.in_ok-tuples-in-Ok.ensures.answers t h k)

pub returns-in-Some-clause-executes : goal.returns-in-Some-clause-executes
returns-in-Some-clause-executes g c =
    let s = g.E.Acting.seen c.args.engine.now in
    let u = g.E.Acting.seen c.sync_replica.new.self in
    sync-lacks s u c.args.replica c.args.query.now c.in-Some.refusal (found-known c.in_ok-query.field-0 c.in-Ok.query c.schema.result.now s.shape c.args.query.now c.schema.ensures c.in-Ok.is c.in_ok-query.ensures.known)
    (subst (λ (o : Option Refusal). Brings s (SyncsOr s.ups c.args.replica o) u) c.in-Some.is c.in_ok-refusal-in-Ok.ensures.syncs)
    (λ n. subst (λ (o : Option Refusal). SyncEvents s.cluster c.args.replica o u.cluster) c.in-Some.is (c.in_ok-refusal-in-Ok.ensures.events n))

pub returns-in-Err-clause-executes : goal.returns-in-Err-clause-executes
returns-in-Err-clause-executes g c =
    let why = found-fails c.in_ok-query.field-0 c.in-Err.refusal (λ e. refused_query (query_refusal c.schema.result.now c.args.query.now) ≡ Some e) c.in-Err.is c.in_ok-query.ensures.refused in
    let s = g.E.Acting.seen c.args.engine.now in
    let known = subst (λ (x : Shape). refused_query (query_refusal x c.args.query.now) ≡ Some c.in-Err.refusal) c.schema.ensures why in
    query-refused s c.args.query.now (λ t. Syncs s.ups t c.args.replica c.args.query.now) (λ line. SyncEvents s.cluster c.args.replica (refusal_told line)) c.in-Err.refusal known

pub returns-in_ok-tuples-in-Ok-clause-goes_on : goal.returns-in_ok-tuples-in-Ok-clause-goes_on
returns-in_ok-tuples-in-Ok-clause-goes_on g c =
    goes-then (g.E.Acting.seen c.args.engine.now) (g.E.Acting.seen c.sync_replica.new.self) (g.E.Acting.seen c.answer_up_to_date.new.self) c.in_ok-refusal-in-Ok.ensures.goes_on c.answer_up_to_date.ensures.leaves

pub returns-in_ok-tuples-in-Ok-clause-keeps : goal.returns-in_ok-tuples-in-Ok-clause-keeps
returns-in_ok-tuples-in-Ok-clause-keeps g c =
    keeps-then (g.E.Acting.seen c.args.engine.now) (g.E.Acting.seen c.sync_replica.new.self) (g.E.Acting.seen c.answer_up_to_date.new.self) c.sync_replica.ensures.keeps c.answer_up_to_date.ensures.keeps
