use Rattle.rmt_statement_model.proofs.UpLaws.{not-down}
use Rattle.rmt_acts.proofs.ReadActs.{snapshot-reads, snapshot-known, snapshot-keys}
use Rattle.rmt_acts.proofs.reading.read_parts.Goals as goal

pub unreachable-requires : goal.unreachable-requires
unreachable-requires c = not-down c.args.cluster.now c.args.replica c.drained_replicas_agree.ensures.whole c.requires.up (c.snapshot.ensures.down.0 (cc (c.in-Err-Down.is, c.in-Err-Down.field-0-is)))

pub returns-in-Ok-clause-reading : goal.returns-in-Ok-clause-reading
returns-in-Ok-clause-reading c =
    snapshot-reads c.args.cluster.now c.args.replica c.in-Ok.parts c.drained_replicas_agree.ensures.whole (c.replicas_are_numbered.ensures c.args.replica c.requires.here) c.in-Ok.ensures.ok

pub returns-in-Ok-clause-known : goal.returns-in-Ok-clause-known
returns-in-Ok-clause-known c =
    snapshot-known c.args.cluster.now c.args.replica c.in-Ok.parts c.drained_replicas_agree.ensures.whole (c.replicas_are_numbered.ensures c.args.replica c.requires.here) c.in-Ok.ensures.ok

pub returns-in-Ok-clause-keys : goal.returns-in-Ok-clause-keys
returns-in-Ok-clause-keys c = snapshot-keys c.args.cluster.now c.args.replica c.in-Ok.parts (c.replicas_are_numbered.ensures c.args.replica c.requires.here) c.in-Ok.ensures.ok

pub returns-in-Ok-clause-bytes : goal.returns-in-Ok-clause-bytes
returns-in-Ok-clause-bytes c = c.in-Ok.ensures.bytes
