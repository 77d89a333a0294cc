use Rattle.std.proofs.Common.{rules}
use Rattle.std.proofs.lemmas.List.Sorted.{IsPartitionPoint-from_clause}
use Rattle.rmt_keyrange.specs.Chosen.{at_most}
use Rattle.rmt_keyrange.proofs.Parted.{most-parts}
use Rattle.rmt_keyrange.proofs.selection.count_reached.Goals as goal

pub returns-clause-below : goal.returns-clause-below
returns-clause-below c = (IsPartitionPoint-from_clause (at_most c.args.range.now.high) _ _ c.partition_point.ensures.partitioned (most-parts c.args.range.now.high c.args.marks.now c.requires) (λ a r f' k. search rules)).0

pub returns-clause-above : goal.returns-clause-above
returns-clause-above c = (IsPartitionPoint-from_clause (at_most c.args.range.now.high) _ _ c.partition_point.ensures.partitioned (most-parts c.args.range.now.high c.args.marks.now c.requires) (λ a r f' k. search rules)).1
