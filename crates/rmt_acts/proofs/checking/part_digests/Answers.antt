use Rattle.std.proofs.Common.{List, subst, sym}
use Rattle.std.specs.List.{All}
use Rattle.rmt_values.specs.Rows.{Shape}
use Rattle.rmt_format.specs.PartBytes.{HasPartBytes}
use Rattle.rmt_partset.specs.Snapshots.{NamedData}
use Rattle.rmt_acts.proofs.CheckActs.{digests-told}
use Rattle.rmt_acts.proofs.checking.part_digests.Goals as goal

pub digests_of-requires : goal.digests_of-requires
digests_of-requires c =
    subst (λ (s : Shape). All (λ part. HasPartBytes s part.rows) c.parts.result.now) (sym c.schema_of.ensures)
    (subst (λ (ps : List NamedData). All (λ part. HasPartBytes c.args.cluster.now.table.schema part.rows) ps) (sym c.parts.ensures.all) c.in_ok-snapshot.ensures.bytes)

pub returns : goal.returns
returns c = digests-told c.args.cluster.now c.args.replica c.in_ok-snapshot.snapshot c.parts.result.now c.schema_of.result.now c.digests_of.result (λ all. all.items) c.parts.ensures.all c.schema_of.ensures c.in_ok-snapshot.ensures.reading c.in_ok-snapshot.ensures.known c.digests_of.ensures
