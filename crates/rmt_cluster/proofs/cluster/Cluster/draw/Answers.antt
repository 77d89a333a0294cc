use Rattle.std.proofs.Common.{◌≡◌, ◌∙◌, List, map, sym, ap, subst, arith, length}
use Rattle.rmt_model.specs.Words.{Has}
use Rattle.rmt_replica.specs.Replicas.{ReplicaView}
use Rattle.rmt_replica.specs.SeenReplica.{shown}
use Rattle.rmt_events.specs.Clusters.{Cluster}
use Rattle.rmt_events.specs.Draws.{turn}
use Rattle.rmt_cluster.specs.Clusters.{MayStep}
use Rattle.rmt_cluster.proofs.RunLemmas.{copy-short, turn-may, drawn-event, drawn-state, drawn-may}
use Rattle.rmt_cluster.proofs.cluster.Cluster.draw.Goals as goal

pub turn-requires-clause-some : goal.turn-requires-clause-some
turn-requires-clause-some c =
    let some = c.self.invariant.some in
    let same = ap length c.replicas.ensures in
    omega (arith, some, same)

pub turn-requires-clause-few : goal.turn-requires-clause-few
turn-requires-clause-few c = λ r h.
    let state = c.self.inside.state in
    let here = subst (λ (rs : List ReplicaView). Has rs r) c.replicas.ensures h in
    let short = copy-short state.tree 1 state.replicas r c.sound.ensures.state.numbered here in
    let few = c.sound.ensures.few in
    omega (arith, short, few)

-- the replicas that the turn was drawn at are the cluster's
of_cluster : (c : goal.After-turn) → c.args.self.now.replicas ≡ map shown c.replicas.result.now
of_cluster c = sym (ap (λ (s : Cluster). s.replicas) c.self.view_is) ∙ sym (ap (map shown) c.replicas.ensures)

pub returns-clause-event : goal.returns-clause-event
returns-clause-event c =
    drawn-event c.turn.result c.replicas.result.now c.args.state c.args.self.now (of_cluster c) c.turn.ensures.turn

pub returns-clause-may : goal.returns-clause-may
returns-clause-may c =
    let i = c.self.inside in
    let x = c.args.state in
    let may = turn-may i.state i.attempts.made i.attempts.open_ones i.events.events x c.sound.ensures.state c.self.invariant.some in
    drawn-may c.turn.result x c.args.self.now (subst (λ (s : Cluster). MayStep s (turn s x).event) c.self.view_is may)
    (drawn-event c.turn.result c.replicas.result.now x c.args.self.now (of_cluster c) c.turn.ensures.turn)

pub returns-clause-state : goal.returns-clause-state
returns-clause-state c =
    drawn-state c.turn.result c.replicas.result.now c.args.state c.args.self.now (of_cluster c) c.turn.ensures.turn
