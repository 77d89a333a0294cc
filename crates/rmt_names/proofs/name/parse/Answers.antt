use Rattle.std.proofs.Common.{Some, sym, ap, arith}
use Rattle.std.proofs.lemmas.Option.{none-some, same_Some, some_pair_parts}
use Rattle.rmt_names.proofs.TextLemmas.{behind_min, behind_max, cut_partition, uncut_partition, min_fits, same_parts}
use Rattle.rmt_names.proofs.name.parse.Goals as goal

pub returns-in_err-partition-clause-only : goal.returns-in_err-partition-clause-only
returns-in_err-partition-clause-only c a is_name is =
    absurd (uncut_partition _ c.in_err-partition.ensures.cases a is_name is)

pub returns-in_err-partition-2-clause-only : goal.returns-in_err-partition-2-clause-only
returns-in_err-partition-2-clause-only c a is_name is =
    let (partition_is, at_numbers) = cut_partition _ c.in_ok-partition.partition c.in_ok-partition.numbers c.in_ok-partition.ensures.cases a is_name is in
    let none = c.in_err-partition-2.ensures.only a.partition is_name.partition partition_is in
    absurd (none-some a.partition none)

pub returns-in_err-min-clause-only : goal.returns-in_err-min-clause-only
returns-in_err-min-clause-only c a is_name is =
    let (partition_is, at_numbers) = cut_partition _ c.in_ok-partition.partition c.in_ok-partition.numbers c.in_ok-partition.ensures.cases a is_name is in
    absurd (c.in_err-min.ensures.only a.min (behind_min a) (min_fits a is_name) at_numbers)

pub returns-in_err-max-clause-only : goal.returns-in_err-max-clause-only
returns-in_err-max-clause-only c a is_name is =
    let (partition_is, at_numbers) = cut_partition _ c.in_ok-partition.partition c.in_ok-partition.numbers c.in_ok-partition.ensures.cases a is_name is in
    let (min, at_min) = c.in_ok-min.ensures.only a.min (behind_min a) (min_fits a is_name) at_numbers in
    absurd (c.in_err-max.ensures.only a.max (behind_max a) is_name.max at_min)

pub returns-in_err-level-clause-only : goal.returns-in_err-level-clause-only
returns-in_err-level-clause-only c a is_name is =
    let (partition_is, at_numbers) = cut_partition _ c.in_ok-partition.partition c.in_ok-partition.numbers c.in_ok-partition.ensures.cases a is_name is in
    let (min, at_min) = c.in_ok-min.ensures.only a.min (behind_min a) (min_fits a is_name) at_numbers in
    let (max, at_max) = c.in_ok-max.ensures.only a.max (behind_max a) is_name.max at_min in
    let none = c.in_err-level.ensures.only a.level a.mutation is_name.level is_name.mutation (sym at_max) in
    absurd (none-some _ none)

pub returns-then-min-max-clause-only : goal.returns-then-min-max-clause-only
returns-then-min-max-clause-only c a is_name is =
    let (partition_is, at_numbers) = cut_partition _ c.in_ok-partition.partition c.in_ok-partition.numbers c.in_ok-partition.ensures.cases a is_name is in
    let (min, at_min) = c.in_ok-min.ensures.only a.min (behind_min a) (min_fits a is_name) at_numbers in
    let (max, at_max) = c.in_ok-max.ensures.only a.max (behind_max a) is_name.max at_min in
    absurd (omega arith)

pub returns-clause-only : goal.returns-clause-only
returns-clause-only c a is_name is =
    let (partition_is, at_numbers) = cut_partition _ c.in_ok-partition.partition c.in_ok-partition.numbers c.in_ok-partition.ensures.cases a is_name is in
    let (min, at_min) = c.in_ok-min.ensures.only a.min (behind_min a) (min_fits a is_name) at_numbers in
    let (max, at_max) = c.in_ok-max.ensures.only a.max (behind_max a) is_name.max at_min in
    let last = c.in_ok-level.ensures.only a.level a.mutation is_name.level is_name.mutation (sym at_max) in
    let (level, mutation) = some_pair_parts _ _ _ _ last in
    let some = c.in_ok-partition-2.ensures.only a.partition is_name.partition partition_is in
    ap Some (same_parts _ a (same_Some _ _ some) min max level mutation)
