use Rattle.std.proofs.Common.{◌≡◌, ℕ, ◌<◌}
use Rattle.rmt_model.specs.Lawful.{entry_at}
use Rattle.rmt_history.proofs.copy.LogCopy.meet.Given as goal

abbrev pub invariant-places : goal.invariant-places
invariant-places l = (j : ℕ) → j < l.i → entry_at l.self.log j ≡ entry_at l.other.log j
