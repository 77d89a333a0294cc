use Rattle.std.proofs.Common.{length}
use Rattle.std.specs.List.{AllByRecursion}
use Rattle.rmt_values.specs.Rows.{Shape}
use Rattle.rmt_values.specs.Commands.{SetsFit}
use Rattle.rmt_entries.specs.EntryBytes.{SetInRange}
use Rattle.rmt_changes.proofs.ranges.range_of_sets.Given as goal

abbrev pub invariant-sets : goal.invariant-sets
invariant-sets l = record {
  fit : (schema : Shape) × SetsFit schema l.rest;
  all : AllByRecursion SetInRange l.rest → AllByRecursion SetInRange l.fn.sets;
}

abbrev pub decreases-sets : goal.decreases-sets
decreases-sets l = length l.rest
