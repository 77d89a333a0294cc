use Rattle.std.proofs.Common.{sym, subst}
use Rattle.std.specs.List.{AllByRecursion}
use Rattle.rmt_values.specs.declared.checked_mutation.CheckedMutation.TheVariants.{Update}
use Rattle.rmt_entries.specs.EntryBytes.{CommandInRange, SetInRange}
use Rattle.rmt_changes.proofs.CommandSizes.{IsSmall, small_of}
use Rattle.rmt_changes.proofs.ranges.range_of_command.Goals as goal

pub range_of_filter-requires-clause-deep : goal.range_of_filter-requires-clause-deep
range_of_filter-requires-clause-deep c =
    let small = small_of c.requires.0 c.requires.1 c.args.command.now c.requires.2 c.requires.4 c.requires.5 c.requires.6 in
    (subst IsSmall c.in-Update.is small).deep

pub range_of_filter-requires-in-Delete-clause-deep : goal.range_of_filter-requires-in-Delete-clause-deep
range_of_filter-requires-in-Delete-clause-deep c =
    subst IsSmall c.in-Delete.is (small_of c.requires.0 c.requires.1 c.args.command.now c.requires.2 c.requires.4 c.requires.5 c.requires.6)

pub returns-in-Update : goal.returns-in-Update
returns-in-Update c =
    let small = subst IsSmall c.in-Update.is (small_of c.requires.0 c.requires.1 c.args.command.now c.requires.2 c.requires.4 c.requires.5 c.requires.6) in
    let ranges : CommandInRange (Update c.in-Update.sets c.in-Update.filter) = record {
      at_least_1 = small.at_least_1;
      few = small.few;
      sets_in_range = subst (AllByRecursion SetInRange) c.as_slice.ensures c.range_of_sets.ensures;
      filter_in_range = c.range_of_filter.ensures;
    } in
    subst CommandInRange (sym c.in-Update.is) ranges
