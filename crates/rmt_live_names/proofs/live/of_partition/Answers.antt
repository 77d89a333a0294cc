use Rattle.std.proofs.Common.{◌≡◌, List, ap, subst, sym, ◌∙◌, rules, take, drop}
use Rattle.std.proofs.lemmas.List.Sorted.{IsPartitionPoint-from_clause}
use Rattle.std.specs.List.{prefix_len}
use Rattle.std.specs.declared.option.Option.TheVariants.{None}
use Rattle.rmt_names.specs.Names.{Name}
use Rattle.rmt_nameset.proofs.Ranges.{Downward, parted, point_is}
use Rattle.rmt_live_names.proofs.PartitionNames.{is_early, is_of, early-down, later-down, side-by-side}
use Rattle.rmt_live_names.proofs.live.of_partition.Goals as goal

pub returns : goal.returns
returns c =
    let p = c.args.partition in
    let names = c.args.names.now in
    let unnamed : Name = record { partition = None; min = 0; max = 0; level = 0; mutation = 0 } in
    let k = IsPartitionPoint-from_clause (is_early p) _ _ c.partition_point-first.ensures.partitioned (parted _ _ (early-down p names c.requires.in_order)) (λ a r f' k. search rules) in
    let first : c.partition_point-first.result ≡ prefix_len (is_early p) names = point_is (is_early p) names _ unnamed c.partition_point-first.ensures.bound k in
    let later : c.split_at.result.1.now ≡ drop (prefix_len (is_early p) names) names = c.split_at.ensures.back ∙ ap (λ n. drop n names) first in
    let down : Downward (is_of p) c.split_at.result.1.now = subst (Downward (is_of p)) (sym later) (later-down p names c.requires.in_order) in
    let m = IsPartitionPoint-from_clause (is_of p) _ _ c.partition_point-count.ensures.partitioned (parted _ _ down) (λ a r f' k. search rules) in
    let count : c.partition_point-count.result ≡ prefix_len (is_of p) c.split_at.result.1.now = point_is (is_of p) c.split_at.result.1.now _ unnamed c.partition_point-count.ensures.bound m in
    c.split_at-2.ensures.front
    ∙ (ap (λ n. take n c.split_at.result.1.now) count
    ∙ (ap (λ (xs : List Name). take (prefix_len (is_of p) xs) xs) later ∙ side-by-side p names c.requires.in_order))
