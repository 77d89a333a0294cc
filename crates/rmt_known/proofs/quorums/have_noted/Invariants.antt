use Rattle.std.proofs.Common.{◌<◌, ℕ, get_or}
use Rattle.rmt_model.specs.Words.{Has}
use Rattle.rmt_known.proofs.quorums.have_noted.Given as goal

abbrev pub invariant-replicas : goal.invariant-replicas
invariant-replicas l = (k : ℕ) → k < l.replica-index → Has l.found.noted (get_or l.noted k 0)
