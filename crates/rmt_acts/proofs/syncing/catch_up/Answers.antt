use Rattle.rmt_acts.proofs.SyncActs.{sync-table, sync-ups, sync-idle, is-synced, not-refused, never-stopped, never-lost}
use Rattle.rmt_acts.proofs.syncing.catch_up.Goals as goal

pub returns-in-Ok : goal.returns-in-Ok
returns-in-Ok c =
    let w = c.drained_replicas_agree.ensures.whole in
    let y = c.in-Ok.ensures.syncs in
    record {
      syncs = is-synced c.args.cluster.now c.sync.new.self c.args.replica w y.0 y.2 y.1;
      table = sync-table c.args.cluster.now c.sync.new.self c.args.replica w y.0 y.2;
      idle = sync-idle c.args.cluster.now c.sync.new.self c.args.replica w y.0 y.2 c.requires.idle;
      events = record { syncs = y.0; done = y.1 };
      err = tt;
      keeps = record {
        table = c.sync.ensures.keeps;
        ups = sync-ups c.args.cluster.now c.sync.new.self c.args.replica w y.0 y.2;
      };
    }

pub unreachable-requires : goal.unreachable-requires
unreachable-requires c = not-refused c.args.cluster.now c.sync.new.self c.args.replica c.in-Err-ReplicaDown.field-0 c.drained_replicas_agree.ensures.whole c.requires.idle.up c.in-Err-ReplicaDown.ensures.syncs c.in-Err-ReplicaDown.field-0-is

pub unreachable-requires-in-Err-NoSource : goal.unreachable-requires-in-Err-NoSource
unreachable-requires-in-Err-NoSource c = never-lost c.args.cluster.now c.sync.new.self c.args.replica c.in-Err-NoSource.field-0-0 c.in-Err-NoSource.field-0-1 c.in-Err-NoSource.field-0 c.drained_replicas_agree.ensures.whole c.requires.gets c.in-Err-NoSource.ensures.syncs c.in-Err-NoSource.field-0-is

pub unreachable-requires-in-Err-FetchesStopped : goal.unreachable-requires-in-Err-FetchesStopped
unreachable-requires-in-Err-FetchesStopped c = never-stopped c.args.cluster.now c.sync.new.self c.args.replica c.in-Err-FetchesStopped.field-0 (λ x n. (c.requires.gets x n).0) c.in-Err-FetchesStopped.ensures.syncs c.in-Err-FetchesStopped.field-0-is
