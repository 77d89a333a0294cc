use Rattle.std.proofs.Common.{◌-◌, ◌∙◌, ap, map, subst, sym, arith}
use Rattle.rmt_replica.specs.SeenReplica.{shown}
use Rattle.rmt_events.specs.Clusters.{Cluster}
use Rattle.rmt_state.specs.States.{AreNumbered}
use Rattle.rmt_cluster.proofs.ReadingLemmas.{IsOnly, only-one, copies}
use Rattle.rmt_cluster.proofs.cluster.Cluster.copy.Goals as goal

-- the replica whose copy it is is the one of the number
asked : (c : goal.After-copy) → IsOnly c.args.self.now c.self.inside.state.tree.schema c.args.replica c.index-replicas-place.result
asked c =
    let state = c.self.inside.state in
    let rs = c.replicas.result.now in
    let from = c.from-place.ensures in
    let here = sym (ap (λ (v : Cluster). v.replicas) c.self.view_is) ∙ sym (ap (map shown) c.replicas.ensures) in
    let numbered = subst (AreNumbered state.tree 1) (sym c.replicas.ensures) c.sound.ensures.state.numbered in
    only-one c.args.self.now state.tree rs c.args.replica (c.from-place.result - 1) c.index-replicas-place.result here numbered
    c.requires.here (omega (arith, from)) c.index-replicas-place.is

pub returns-clause-log : goal.returns-clause-log
returns-clause-log c = copies c.args.self.now c.self.inside.state.tree.schema c.args.replica c.index-replicas-place.result c.copy.result.now.log (asked c) c.copy.ensures.log

pub returns-clause-schema : goal.returns-clause-schema
returns-clause-schema c = c.copy.ensures.schema ∙ ((asked c).of_schema ∙ ap (λ (v : Cluster). v.table.schema) c.self.view_is)
