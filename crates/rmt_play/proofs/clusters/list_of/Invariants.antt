use Rattle.std.proofs.Common.{◌≡◌, ◌++◌}
use Rattle.rmt_model.specs.Words.{Each}
use Rattle.rmt_play.specs.Shown.{Agrees}
use Rattle.rmt_play.proofs.clusters.list_of.Given as goal

abbrev pub invariant-clusters : goal.invariant-clusters
invariant-clusters l = record { moved : l.clusters.items ++ l.cluster-iterator.rest.items ≡ l.fn.all.items; agree : Each Agrees l.clusters.items }
