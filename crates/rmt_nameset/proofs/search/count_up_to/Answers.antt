use Rattle.std.proofs.Common.{rules}
use Rattle.std.specs.declared.option.Option.TheVariants.{None}
use Rattle.std.proofs.lemmas.List.Sorted.{IsPartitionPoint-from_clause}
use Rattle.rmt_names.specs.Names.{block_name}
use Rattle.rmt_nameset.proofs.Ranges.{parted, point_is}
use Rattle.rmt_nameset.proofs.Placing.{is_up_to, up-to-parts}
use Rattle.rmt_nameset.proofs.search.count_up_to.Goals as goal

pub returns : goal.returns
returns c =
    let p = IsPartitionPoint-from_clause (is_up_to c.args.partition c.args.number) _ _ c.partition_point.ensures.partitioned (parted _ _ (up-to-parts c.args.partition c.args.number c.args.names.now c.requires)) (λ a r f' k. search rules) in
    point_is (is_up_to c.args.partition c.args.number) c.args.names.now _ (block_name None 0) c.partition_point.ensures.bound p
