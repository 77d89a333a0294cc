use Rattle.std.proofs.Common.{◌<◌, ◌≤◌, arith, subst}
use Rattle.std.specs.declared.option.Option.{Option}
use Rattle.rmt_acts.specs.StatementEvents.{WaitEvents}
use Rattle.rmt_reply.specs.declared.refusal.Refusal.{Refusal}
use Rattle.rmt_acting.specs.Acting.{Brings}
use Rattle.rmt_statement_model.specs.ActOutcomes.{WaitsOr}
use Rattle.rmt_play.proofs.CommandLemmas.{waits-in, wait-lacks, wait-refused}
use Rattle.rmt_play.proofs.wait.wait_in.Goals as goal

pub returns-in-None-clause-executes : goal.returns-in-None-clause-executes
returns-in-None-clause-executes g c =
    let s = g.E.Acting.seen c.args.engine.now in
    let u = g.E.Acting.seen c.wait_for.new.self in
    let made : c.args.id < s.mutations = let l = c.if-id-from.false in let e = c.from.ensures in let n = c.mutations_made.ensures in omega (arith, l, e, n) in
    λ table. waits-in s u c.args.replica c.args.id table made
    (subst (λ (o : Option Refusal). Brings s (WaitsOr g.E.Acting.workers s.ups c.args.replica c.args.id o) u) c.in-None.is c.in_ok-wait_for.ensures.waits)
    (λ n. subst (λ (o : Option Refusal). WaitEvents s.cluster c.args.replica o u.cluster) c.in-None.is (c.in_ok-wait_for.ensures.events n))

pub returns-in-Some-clause-executes : goal.returns-in-Some-clause-executes
returns-in-Some-clause-executes g c =
    let s = g.E.Acting.seen c.args.engine.now in
    let u = g.E.Acting.seen c.wait_for.new.self in
    let made : c.args.id < s.mutations = let l = c.if-id-from.false in let e = c.from.ensures in let n = c.mutations_made.ensures in omega (arith, l, e, n) in
    λ table. wait-lacks s u c.args.replica c.args.id table c.in-Some.refusal made
    (subst (λ (o : Option Refusal). Brings s (WaitsOr g.E.Acting.workers s.ups c.args.replica c.args.id o) u) c.in-Some.is c.in_ok-wait_for.ensures.waits)
    (λ n. subst (λ (o : Option Refusal). WaitEvents s.cluster c.args.replica o u.cluster) c.in-Some.is (c.in_ok-wait_for.ensures.events n))

pub returns-then-id-from-clause-executes : goal.returns-then-id-from-clause-executes
returns-then-id-from-clause-executes g c =
    let s = g.E.Acting.seen c.args.engine.now in
    let none : s.mutations ≤ c.args.id = let l = c.if-id-from.true in let e = c.from.ensures in let n = c.mutations_made.ensures in omega (arith, l, e, n) in
    λ table. wait-refused s c.args.replica c.args.id table none
