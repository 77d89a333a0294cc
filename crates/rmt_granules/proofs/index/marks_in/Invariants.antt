use Rattle.std.proofs.Common.{◌≡◌, ◌++◌, ◌-◌, drop, length}
use Rattle.rmt_granules.specs.Granules.{marks_of}
use Rattle.rmt_granules.proofs.index.marks_in.Given as goal

abbrev pub invariant-granules : goal.invariant-granules
invariant-granules l = l.marks.items ++ marks_of l.granularity l.key (drop l.first l.rows.rows) ≡ marks_of l.granularity l.key l.rows.rows

abbrev pub decreases-granules : goal.decreases-granules
decreases-granules l = length l.rows.rows - l.first
