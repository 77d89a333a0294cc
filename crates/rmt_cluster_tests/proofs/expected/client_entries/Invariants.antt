use Rattle.std.proofs.Common.{◌≤◌}
use Rattle.rmt_cluster_tests.proofs.expected.client_entries.Given as goal

abbrev pub invariant-loop-place : goal.invariant-loop-place
invariant-loop-place l = l.count ≤ l.place
