use Rattle.std.proofs.Common.{◌≡◌, ◌≤◌, ◌-◌, vec_len}
use Rattle.std.specs.Io.KnownBytes.{Consumes}
use Rattle.rmt_outside.proofs.read.read_all.Given as goal

-- What was read so far is within the limit, is what the source gave, and no read failed.
abbrev pub invariant-pieces : goal.invariant-pieces
invariant-pieces g l = (vec_len l.all ≤ l.limit) × Consumes (g.S.Source.left l.initial.source) (g.S.Source.left l.source) l.all.items × (g.S.Source.faults l.source ≡ g.S.Source.faults l.initial.source)

abbrev pub decreases-pieces : goal.decreases-pieces
decreases-pieces g l = l.limit - vec_len l.all
