use Rattle.std.proofs.Common.{◌∙◌, true, false, length, ap}
use Rattle.std.specs.Prelude.{replicate}
use Rattle.rmt_replica.specs.Replicas.{ReplicaView}
use Rattle.rmt_replica.proofs.RestartLemmas.{view-cleared, replica-cleared}
use Rattle.rmt_replica.proofs.replica.Replica.restart.Goals as goal

pub invariant_of-self : goal.invariant_of-self
invariant_of-self c =
    let i = c.self.inside in
    replica-cleared i.number i.up _ i.fetches i.copy i.queue _ i.parts.parts i.staged i.noted.items c.self.invariant (cc)

pub returns : goal.returns
returns c =
    let i = c.self.inside in
    view-cleared i.number i.up _ i.fetches i.copy i.queue _ i.parts.parts i.staged i.noted.items c.self.invariant (cc)
    ∙ ap (λ (r : ReplicaView). record r { up = true; done = replicate (length r.log) false }) c.self.view_is
