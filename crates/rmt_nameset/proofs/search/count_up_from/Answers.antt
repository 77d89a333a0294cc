use Rattle.std.proofs.Common.{rules}
use Rattle.std.specs.declared.option.Option.TheVariants.{None}
use Rattle.std.proofs.lemmas.List.Sorted.{IsPartitionPoint-from_clause}
use Rattle.rmt_names.specs.Names.{block_name}
use Rattle.rmt_nameset.proofs.Ranges.{parted, point_is}
use Rattle.rmt_nameset.proofs.Placing.{is_not_behind, behind-parts}
use Rattle.rmt_nameset.proofs.search.count_up_from.Goals as goal

pub returns-clause-count : goal.returns-clause-count
returns-clause-count c =
    let new = block_name c.args.partition c.args.number in
    let p = IsPartitionPoint-from_clause (is_not_behind new) _ _ c.partition_point.ensures.partitioned (parted _ _ (behind-parts new c.args.names.now c.requires)) (λ a r f' k. search rules) in
    point_is (is_not_behind new) c.args.names.now _ (block_name None 0) c.partition_point.ensures.bound p
