use Rattle.std.proofs.Common.{◌≡◌, ◌≤◌}
use Rattle.rmt_play.specs.Checks.{replica_of}
use Rattle.rmt_play.proofs.replicas.replica_named.Given as goal

abbrev pub invariant-numbers : goal.invariant-numbers
invariant-numbers l = record {
  within : l.number ≤ l.count;
  rest : replica_of l.number l.name ≡ replica_of l.count l.name;
}

abbrev pub decreases-numbers : goal.decreases-numbers
decreases-numbers l = l.number
