use Rattle.std.specs.Arc.{arc_value}
use Rattle.rmt_cluster.proofs.NewClusterLemmas.{new-invariant, new-is-new, new-many}
use Rattle.rmt_cluster.proofs.cluster.Cluster.new.Goals as goal

pub invariant_of-result : goal.invariant_of-result
invariant_of-result c = new-invariant (arc_value c.args.schema) c.args.up.now c.in_ok-new.field-0 c.new-2.result _ c.in_ok-new.ensures c.requires.some c.new-2.ensures.made c.new-2.ensures.none c.new-3.ensures.events

pub returns-clause-is_new : goal.returns-clause-is_new
returns-clause-is_new c = new-is-new (arc_value c.args.schema) c.args.up.now c.in_ok-new.field-0 c.new-2.result _ c.in_ok-new.ensures c.new-2.ensures.made c.new-2.ensures.none c.new-3.ensures.events

pub returns-clause-replicas : goal.returns-clause-replicas
returns-clause-replicas c = new-many (arc_value c.args.schema) c.args.up.now c.in_ok-new.field-0 c.in_ok-new.ensures
