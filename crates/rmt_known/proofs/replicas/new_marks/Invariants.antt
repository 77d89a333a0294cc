use Rattle.std.proofs.Common.{◌≡◌, [], replicate}
use Rattle.rmt_known.proofs.replicas.new_marks.Given as goal

abbrev pub invariant-replicas : goal.invariant-replicas
invariant-replicas l = l.marks.items ≡ replicate l.counter []
