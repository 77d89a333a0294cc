use Rattle.std.proofs.Common.{rules}
use Rattle.std.proofs.lemmas.List.Sorted.{IsPartitionPoint-from_clause}
use Rattle.rmt_keyrange.specs.Chosen.{is_below}
use Rattle.rmt_keyrange.proofs.Parted.{below-parts}
use Rattle.rmt_keyrange.proofs.selection.count_passed.Goals as goal

pub returns-clause-below : goal.returns-clause-below
returns-clause-below c = (IsPartitionPoint-from_clause (is_below c.args.range.now.low) _ _ c.partition_point.ensures.partitioned (below-parts c.args.range.now.low c.args.marks.now c.requires) (λ a r f' k. search rules)).0

pub returns-clause-above : goal.returns-clause-above
returns-clause-above c = (IsPartitionPoint-from_clause (is_below c.args.range.now.low) _ _ c.partition_point.ensures.partitioned (below-parts c.args.range.now.low c.args.marks.now c.requires) (λ a r f' k. search rules)).1
