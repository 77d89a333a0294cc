use Rattle.std.proofs.Common.{◌≡◌, ◌∙◌, Bool, rules}
use Rattle.std.specs.Arc.{arc_value}
use Rattle.std.specs.declared.sync.Arc.{Arc}
use Rattle.std.specs.declared.alloc.Global.{Global}
use Rattle.std.proofs.lemmas.List.Sorted.{IsPartitionPoint-from_clause}
use Rattle.rmt_nameset.proofs.Ranges.{parted}
use Rattle.rmt_nameset.proofs.Placing.{is_not_behind, behind-parts}
use Rattle.rmt_part.specs.Lineages.{PartValue}
use Rattle.rmt_partset.proofs.PartLists.{name_by, down-by, prefix-by, point_at}
use Rattle.rmt_partset.proofs.search.count_not_behind.Goals as goal

pub returns-clause-count : goal.returns-clause-count
returns-clause-count c =
    let test : Arc PartValue Global → Bool = λ x. is_not_behind c.args.new.now (name_by arc_value x) in
    let p = IsPartitionPoint-from_clause test _ _ c.partition_point.ensures.partitioned (parted _ _ (down-by arc_value (is_not_behind c.args.new.now) c.args.parts.now (behind-parts c.args.new.now _ c.requires))) (λ a r f' k. search rules) in
    point_at test c.args.parts.now _ c.partition_point.ensures.bound p ∙ prefix-by arc_value (is_not_behind c.args.new.now) c.args.parts.now
