use Rattle.std.proofs.Common.{rules, ◌∙◌, sym, ap, arith, ℕ, get_or}
use Rattle.std.specs.declared.option.Option.{Option}
use Rattle.std.specs.declared.option.Option.TheVariants.{Some, None}
use Rattle.std.proofs.lemmas.Option.{slice_get-get_or, slice_get_within}
use Rattle.std.proofs.lemmas.List.Sorted.{IsPartitionPoint-from_clause}
use Rattle.rmt_nameset.proofs.Ranges.{parted, point_is}
use Rattle.rmt_model.proofs.Drops.{some-same}
use Rattle.rmt_history.proofs.NumberLemmas.{is_early, early-down, number-nowhere, option-same, option-differs}
use Rattle.rmt_partitions.proofs.partitions.place.Goals as goal

pub returns-then-at-pairs : goal.returns-then-at-pairs
returns-then-at-pairs c =
    let p = IsPartitionPoint-from_clause (is_early c.args.partition) _ _ c.partition_point-at.ensures.partitioned (parted _ _ (early-down c.args.partition c.args.pairs.now c.requires)) (λ a r f' k. search rules) in
    let n = point_is (is_early c.args.partition) c.args.pairs.now _ (None, 0) c.partition_point-at.ensures.bound p in
    record {
      nowhere = number-nowhere c.args.pairs.now c.args.partition c.partition_point-at.result c.requires n (λ x e q. let l = slice_get_within c.args.pairs.now c.partition_point-at.result x e in let h = c.if-at-pairs.true in omega (arith, l, h));
      first = n;
    }

pub returns-then-ne : goal.returns-then-ne
returns-then-ne c =
    let p = IsPartitionPoint-from_clause (is_early c.args.partition) _ _ c.partition_point-at.ensures.partitioned (parted _ _ (early-down c.args.partition c.args.pairs.now c.requires)) (λ a r f' k. search rules) in
    let n = point_is (is_early c.args.partition) c.args.pairs.now _ (None, 0) c.partition_point-at.ensures.bound p in
    record {
      nowhere = number-nowhere c.args.pairs.now c.args.partition c.partition_point-at.result c.requires n (λ x e q.
          let here = slice_get-get_or c.args.pairs.now c.partition_point-at.result (None, 0) c.if-at-pairs.false in
          let w = some-same _ x (sym here ∙ e) in
          option-differs _ c.args.partition c.ne.result c.ne.ensures c.if-ne.true (ap (λ (v : Option ℕ × ℕ). v.0) w ∙ q));
      first = n;
    }

pub returns : goal.returns
returns c =
    let p = IsPartitionPoint-from_clause (is_early c.args.partition) _ _ c.partition_point-at.ensures.partitioned (parted _ _ (early-down c.args.partition c.args.pairs.now c.requires)) (λ a r f' k. search rules) in
    let n = point_is (is_early c.args.partition) c.args.pairs.now _ (None, 0) c.partition_point-at.ensures.bound p in
    let here = slice_get-get_or c.args.pairs.now c.partition_point-at.result (None, 0) c.if-at-pairs.false in
    let same = option-same _ c.args.partition c.ne.result c.ne.ensures c.if-ne.false in
    let x : Option ℕ × ℕ = get_or c.args.pairs.now c.partition_point-at.result (None, 0) in
    record { number = x.1; stands = here ∙ ap (λ (o : Option ℕ). Some (o, x.1)) same; first = n }
