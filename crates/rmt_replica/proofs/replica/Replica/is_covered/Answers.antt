use Rattle.std.proofs.Common.{subst}
use Rattle.std.specs.Arc.{arc_value}
use Rattle.rmt_model.specs.Fair.{CoveredBy}
use Rattle.rmt_partset.specs.ActiveParts.{part_names}
use Rattle.rmt_replica.specs.Replicas.{ReplicaView}
use Rattle.rmt_replica.proofs.StepLemmas.{covered-name}
use Rattle.rmt_replica.proofs.replica.Replica.is_covered.Goals as goal

pub returns-in-Some-clause-yes : goal.returns-in-Some-clause-yes
returns-in-Some-clause-yes c = λ _.
    subst (λ (r : ReplicaView). CoveredBy (part_names r.parts) c.args.name.now) c.self.view_is
    (covered-name c.self.inside.parts.parts (arc_value c.in-Some.field-0.now) c.args.name.now c.in-Some.ensures.found.is_in c.in-Some.ensures.found.covers)
