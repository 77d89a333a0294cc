use Rattle.std.proofs.Common.{rules}
use Rattle.std.specs.declared.option.Option.TheVariants.{None}
use Rattle.std.proofs.lemmas.List.Sorted.{IsPartitionPoint-from_clause}
use Rattle.rmt_names.specs.Names.{block_name}
use Rattle.rmt_nameset.proofs.Ranges.{parted, point_is}
use Rattle.rmt_nameset.proofs.Placing.{is_before, before-parts}
use Rattle.rmt_nameset.proofs.search.count_before.Goals as goal

pub returns : goal.returns
returns c =
    let p = IsPartitionPoint-from_clause (is_before c.args.new.now) _ _ c.partition_point.ensures.partitioned (parted _ _ (before-parts c.args.new.now c.args.names.now c.requires)) (λ a r f' k. search rules) in
    point_is (is_before c.args.new.now) c.args.names.now _ (block_name None 0) c.partition_point.ensures.bound p
