use Rattle.std.proofs.lemmas.Result.{IfOk-weaker}
use Rattle.rmt_acts.proofs.SyncActs.{sync-table, sync-ups, sync-idle, is-synced, not-refused, never-stopped, may-fetch, early-told, stopped-told}
use Rattle.rmt_acts.proofs.syncing.sync_replica.Goals as goal

pub refusal_of-requires-clause-up : goal.refusal_of-requires-clause-up
refusal_of-requires-clause-up c = not-refused c.args.cluster.now c.sync.new.self c.args.replica c.in-Err.error c.drained_replicas_agree.ensures.whole c.requires.idle.up c.in-Err.ensures.syncs

pub refusal_of-requires-clause-fetches : goal.refusal_of-requires-clause-fetches
refusal_of-requires-clause-fetches c =
    never-stopped c.args.cluster.now c.sync.new.self c.args.replica c.in-Err.error
    (may-fetch c.args.cluster.now c.args.replica c.drained_replicas_agree.ensures.whole c.requires.fetches) c.in-Err.ensures.syncs

pub returns-in-Ok : goal.returns-in-Ok
returns-in-Ok c =
    let w = c.drained_replicas_agree.ensures.whole in
    let y = c.in-Ok.ensures.syncs in
    record {
      syncs = is-synced c.args.cluster.now c.sync.new.self c.args.replica w y.0 y.2 y.1;
      table = sync-table c.args.cluster.now c.sync.new.self c.args.replica w y.0 y.2;
      idle = sync-idle c.args.cluster.now c.sync.new.self c.args.replica w y.0 y.2 c.requires.idle;
      events = record { syncs = y.0; done = y.1 };
      err = tt;
      keeps = record {
        table = c.sync.ensures.keeps;
        ups = sync-ups c.args.cluster.now c.sync.new.self c.args.replica w y.0 y.2;
      };
    }

pub returns-in-Err-clause-syncs : goal.returns-in-Err-clause-syncs
returns-in-Err-clause-syncs c = IfOk-weaker c.refusal_of.result _ _ (λ o e. e.syncs) (early-told c.args.cluster.now c.sync.new.self c.args.replica c.in-Err.error c.refusal_of.result c.drained_replicas_agree.ensures.whole c.requires.idle c.in-Err.ensures.syncs c.refusal_of.ensures)

pub returns-in-Err-clause-table : goal.returns-in-Err-clause-table
returns-in-Err-clause-table c = IfOk-weaker c.refusal_of.result _ _ (λ o e. e.table) (early-told c.args.cluster.now c.sync.new.self c.args.replica c.in-Err.error c.refusal_of.result c.drained_replicas_agree.ensures.whole c.requires.idle c.in-Err.ensures.syncs c.refusal_of.ensures)

pub returns-in-Err-clause-idle : goal.returns-in-Err-clause-idle
returns-in-Err-clause-idle c = IfOk-weaker c.refusal_of.result _ _ (λ o e. e.idle) (early-told c.args.cluster.now c.sync.new.self c.args.replica c.in-Err.error c.refusal_of.result c.drained_replicas_agree.ensures.whole c.requires.idle c.in-Err.ensures.syncs c.refusal_of.ensures)

pub returns-in-Err-clause-keeps : goal.returns-in-Err-clause-keeps
returns-in-Err-clause-keeps c = record { table = c.sync.ensures.keeps; ups = IfOk-weaker c.refusal_of.result _ _ (λ o e. e.ups_are) (early-told c.args.cluster.now c.sync.new.self c.args.replica c.in-Err.error c.refusal_of.result c.drained_replicas_agree.ensures.whole c.requires.idle c.in-Err.ensures.syncs c.refusal_of.ensures) }

pub returns-in-Err-clause-events : goal.returns-in-Err-clause-events
returns-in-Err-clause-events c = IfOk-weaker c.refusal_of.result _ _ (λ o e. e.events) (early-told c.args.cluster.now c.sync.new.self c.args.replica c.in-Err.error c.refusal_of.result c.drained_replicas_agree.ensures.whole c.requires.idle c.in-Err.ensures.syncs c.refusal_of.ensures)

pub returns-in-Err-clause-err : goal.returns-in-Err-clause-err
returns-in-Err-clause-err c = stopped-told c.args.cluster.now c.sync.new.self c.args.replica c.in-Err.error c.refusal_of.result c.in-Err.ensures.syncs c.refusal_of.ensures
