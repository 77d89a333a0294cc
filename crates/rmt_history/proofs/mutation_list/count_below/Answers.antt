use Rattle.std.proofs.Common.{rules}
use Rattle.std.specs.declared.option.Option.TheVariants.{None}
use Rattle.std.proofs.lemmas.List.Sorted.{IsPartitionPoint-from_clause}
use Rattle.rmt_entries.specs.declared.entry.Entry.TheVariants.{DropRange}
use Rattle.rmt_nameset.proofs.Ranges.{parted, point_is}
use Rattle.rmt_history.specs.Mutations.{is_below}
use Rattle.rmt_history.proofs.KeptLemmas.{below-down}
use Rattle.rmt_history.proofs.mutation_list.count_below.Goals as goal

pub returns-clause-count : goal.returns-clause-count
returns-clause-count c =
    let p = IsPartitionPoint-from_clause (is_below c.args.end) _ _ c.partition_point.ensures.partitioned (parted _ _ (below-down c.args.end c.args.tokens.now c.requires)) (λ a r f' k. search rules) in
    point_is (is_below c.args.end) c.args.tokens.now _ (record { place = 0; value = DropRange None 0; cell = 0 }) c.partition_point.ensures.bound p
