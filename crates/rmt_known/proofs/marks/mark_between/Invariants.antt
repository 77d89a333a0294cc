use Rattle.std.proofs.Common.{◌≡◌, ◌≤◌, ◌⊎◌, ◌&&◌, nat_lt, nat_le, length}
use Rattle.rmt_known.specs.KnownTables.{GainsMarks}
use Rattle.rmt_known.proofs.marks.mark_between.Given as goal

abbrev pub invariant-places : goal.invariant-places
invariant-places l = record {
  from : l.from ≤ l.i;
  upto : (l.i ≡ l.from) ⊎ (l.i ≤ l.to);
  length : length l.marks ≡ length l.initial.marks;
  marks : GainsMarks l.initial.marks (λ j. nat_le l.from j && nat_lt j l.i) l.marks;
}
