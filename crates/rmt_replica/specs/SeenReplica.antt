-- A replica with its parts and its blocks, as a cluster sees it.
-- No public source: this program's own.
use Rattle.std.specs.Prelude.{map}
use Rattle.rmt_block.specs.Blocks.{BlockView}
use Rattle.rmt_part.specs.CopiedPart.{copied}
use Rattle.rmt_replica.specs.declared.block_number.BlockNumber.{BlockNumber}
use Rattle.rmt_replica.specs.Replicas.{ReplicaView}
use Rattle.rmt_events.specs.Views.{Staged, Replica}
use Rattle.rmt_events.specs.Clusters.{without_kinds}

-- a block that is staged under a number
abbrev pub shown_block : BlockNumber × BlockView → Staged
shown_block z = record { number = z.0.number; block = without_kinds z.1 }

-- the replica that a cluster sees: without its schema and its cells, and of its parts what the log says of them
abbrev pub shown : ReplicaView → Replica
shown r = record {
  number = r.number;
  up = r.up;
  fetches = r.fetches;
  log = r.log;
  done = r.done;
  parts = map copied r.parts;
  staged = map shown_block r.staged;
  noted = r.noted;
}
