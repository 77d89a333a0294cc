use Rattle.std.proofs.Common.{◌≡◌, ◌∙◌, Bool, rules}
use Rattle.std.specs.Arc.{arc_value}
use Rattle.std.specs.declared.sync.Arc.{Arc}
use Rattle.std.specs.declared.alloc.Global.{Global}
use Rattle.std.proofs.lemmas.List.Sorted.{IsPartitionPoint-from_clause}
use Rattle.rmt_nameset.proofs.Ranges.{parted}
use Rattle.rmt_nameset.proofs.Placing.{is_before, before-parts}
use Rattle.rmt_part.specs.Lineages.{PartValue}
use Rattle.rmt_partset.proofs.PartLists.{name_by, down-by, prefix-by, point_at}
use Rattle.rmt_partset.proofs.search.count_before.Goals as goal

pub returns : goal.returns
returns c =
    let test : Arc PartValue Global → Bool = λ x. is_before c.args.new.now (name_by arc_value x) in
    let p = IsPartitionPoint-from_clause test _ _ c.partition_point.ensures.partitioned (parted _ _ (down-by arc_value (is_before c.args.new.now) c.args.parts.now (before-parts c.args.new.now _ c.requires))) (λ a r f' k. search rules) in
    point_at test c.args.parts.now _ c.partition_point.ensures.bound p ∙ prefix-by arc_value (is_before c.args.new.now) c.args.parts.now
