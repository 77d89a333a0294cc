use Rattle.std.proofs.Common.{◌∙◌, Bool, rules}
use Rattle.std.proofs.lemmas.List.Sorted.{IsPartitionPoint-from_clause}
use Rattle.rmt_nameset.proofs.Ranges.{parted}
use Rattle.rmt_nameset.proofs.Placing.{is_up_to, up-to-parts}
use Rattle.rmt_partset.specs.Snapshots.{NamedData, names_in}
use Rattle.rmt_partset.proofs.PartLists.{point_at}
use Rattle.rmt_readings.proofs.DropTests.{down-named, prefix-named}
use Rattle.rmt_readings.proofs.drops.count_up_to.Goals as goal

pub returns : goal.returns
returns c =
    let test : NamedData → Bool = λ x. is_up_to c.args.partition c.args.number x.name in
    let p = IsPartitionPoint-from_clause test _ _ c.partition_point.ensures.partitioned (parted _ _ (down-named (is_up_to c.args.partition c.args.number) c.args.parts.now (up-to-parts c.args.partition c.args.number (names_in c.args.parts.now) c.requires))) (λ a r f' k. search rules) in
    point_at test c.args.parts.now _ c.partition_point.ensures.bound p ∙ prefix-named (is_up_to c.args.partition c.args.number) c.args.parts.now
