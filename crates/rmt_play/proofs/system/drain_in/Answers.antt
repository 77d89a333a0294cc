use Rattle.std.proofs.Common.{subst}
use Rattle.std.specs.declared.option.Option.{Option}
use Rattle.rmt_reply.specs.declared.refusal.Refusal.{Refusal}
use Rattle.rmt_acts.specs.StatementEvents.{SyncEvents}
use Rattle.rmt_acting.specs.Acting.{Brings}
use Rattle.rmt_statement_model.specs.ActOutcomes.{SyncsOr}
use Rattle.rmt_play.proofs.CommandLemmas.{drains-in, drain-lacks}
use Rattle.rmt_play.proofs.system.drain_in.Goals as goal

pub returns-in-None-clause-executes : goal.returns-in-None-clause-executes
returns-in-None-clause-executes g c =
    let s = g.E.Acting.seen c.args.engine.now in
    let u = g.E.Acting.seen c.sync_replica.new.self in
    λ table. drains-in s u c.args.replica table
    (subst (λ (o : Option Refusal). Brings s (SyncsOr s.ups c.args.replica o) u) c.in-None.is c.in_ok-sync_replica.ensures.syncs)
    (λ n. subst (λ (o : Option Refusal). SyncEvents s.cluster c.args.replica o u.cluster) c.in-None.is (c.in_ok-sync_replica.ensures.events n))

pub returns-in-Some-clause-executes : goal.returns-in-Some-clause-executes
returns-in-Some-clause-executes g c =
    let s = g.E.Acting.seen c.args.engine.now in
    let u = g.E.Acting.seen c.sync_replica.new.self in
    λ table. drain-lacks s u c.args.replica table c.in-Some.refusal
    (subst (λ (o : Option Refusal). Brings s (SyncsOr s.ups c.args.replica o) u) c.in-Some.is c.in_ok-sync_replica.ensures.syncs)
    (λ n. subst (λ (o : Option Refusal). SyncEvents s.cluster c.args.replica o u.cluster) c.in-Some.is (c.in_ok-sync_replica.ensures.events n))
