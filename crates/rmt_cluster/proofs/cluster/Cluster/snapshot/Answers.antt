use Rattle.std.proofs.Common.{◌-◌, ◌∙◌, ap, map, subst, sym, arith}
use Rattle.rmt_values.specs.Rows.{Shape}
use Rattle.rmt_values.specs.Schemas.{IsSchema}
use Rattle.rmt_replica.specs.SeenReplica.{shown}
use Rattle.rmt_events.specs.Clusters.{Cluster}
use Rattle.rmt_events.specs.Whole.{IsWhole}
use Rattle.rmt_state.specs.States.{AreNumbered}
use Rattle.rmt_cluster.proofs.ReadingLemmas.{IsOnly, only-one, reads, reads-bytes, reads-down}
use Rattle.rmt_cluster.proofs.cluster.Cluster.snapshot.Goals as goal

-- the replica that is read is the one of the number
asked : (c : goal.After-snapshot) → IsOnly c.args.self.now c.self.inside.state.tree.schema c.args.replica c.index-replicas-at.result
asked c =
    let state = c.self.inside.state in
    let rs = c.replicas.result.now in
    let from = c.from-at.ensures in
    let here = sym (ap (λ (v : Cluster). v.replicas) c.self.view_is) ∙ sym (ap (map shown) c.replicas.ensures) in
    let numbered = subst (AreNumbered state.tree 1) (sym c.replicas.ensures) c.sound.ensures.state.numbered in
    only-one c.args.self.now state.tree rs c.args.replica (c.from-at.result - 1) c.index-replicas-at.result here numbered
    c.requires.here (omega (arith, from)) c.index-replicas-at.is

pub returns-clause-ok : goal.returns-clause-ok
returns-clause-ok c =
    reads c.snapshot.result c.args.self.now c.self.inside.state.tree.schema c.args.replica c.index-replicas-at.result (asked c)
    c.copy-standing.ensures.standing (ap (λ (v : Cluster). v.table.schema) c.self.view_is) c.snapshot.ensures.ok

pub returns-clause-bytes : goal.returns-clause-bytes
returns-clause-bytes c =
    let s = c.args.self.now in
    let e = ap (λ (v : Cluster). v.table.schema) c.self.view_is in
    reads-bytes c.snapshot.result s c.args.replica c.index-replicas-at.result
    (subst (λ (z : Shape). IsOnly s z c.args.replica c.index-replicas-at.result) e (asked c)) c.copy-standing.ensures.standing
    (subst IsWhole c.self.view_is c.self.invariant.whole) (subst IsSchema e c.sound.ensures.schema) c.snapshot.ensures.ok

pub returns-clause-down : goal.returns-clause-down
returns-clause-down c =
    reads-down c.snapshot.result c.args.self.now c.self.inside.state.tree.schema c.args.replica c.index-replicas-at.result (asked c) c.snapshot.ensures.down
