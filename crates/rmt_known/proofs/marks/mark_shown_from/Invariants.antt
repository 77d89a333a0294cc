use Rattle.std.proofs.Common.{◌≡◌, ◌≤◌, length}
use Rattle.rmt_partset.specs.Snapshots.{names_in}
use Rattle.rmt_known.specs.KnownTables.{GainsMarks}
use Rattle.rmt_known.proofs.MarkLemmas.{shown_between}
use Rattle.rmt_known.proofs.marks.mark_shown_from.Given as goal

abbrev pub invariant-places : goal.invariant-places
invariant-places l = record {
  from : l.from ≤ l.i;
  length : length l.marks ≡ length l.initial.marks;
  marks : GainsMarks l.initial.marks (shown_between l.copy.log (names_in l.parts) l.from l.i) l.marks;
}
