use Rattle.std.proofs.Common.{◌≡◌, List, ℕ, ◌++◌, length}
use Rattle.std.specs.Io.KnownBytes.{Appends}
use Rattle.rmt_outside.proofs.write.write_all_of.Given as goal

-- A prefix was written, the rest is still to be written, and no write failed.
abbrev pub invariant-pieces : goal.invariant-pieces
invariant-pieces g l = ((prefix : List ℕ) × (prefix ++ l.rest ≡ l.bytes) × Appends (g.K.Sink.written l.initial.sink) (g.K.Sink.written l.sink) prefix) × (g.K.Sink.faults l.sink ≡ g.K.Sink.faults l.initial.sink)

abbrev pub decreases-pieces : goal.decreases-pieces
decreases-pieces g l = length l.rest
