use Rattle.std.proofs.Common.{◌+◌, ◌-◌, ◌≤◌, length}
use Rattle.rmt_partset.specs.Snapshots.{names_in}
use Rattle.rmt_known.specs.KnownTables.{NoneCovers}
use Rattle.rmt_known.proofs.covering.place_of.Given as goal

abbrev pub invariant-halves : goal.invariant-halves
invariant-halves l = record {
  order : l.low ≤ l.high;
  within : l.high ≤ length l.parts;
  below : NoneCovers l.name (names_in l.parts) 0 l.low;
  above : NoneCovers l.name (names_in l.parts) (l.high + 1) (length (names_in l.parts));
}

abbrev pub decreases-halves : goal.decreases-halves
decreases-halves l = l.high - l.low
