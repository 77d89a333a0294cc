use Rattle.rmt_replica.proofs.RestartLemmas.{replica-switched}
use Rattle.rmt_replica.proofs.replica.Replica.kill.Goals as goal

pub invariant_of-self : goal.invariant_of-self
invariant_of-self c =
    let i = c.self.inside in
    replica-switched i.number i.up _ i.fetches i.fetches i.copy i.queue i.parts.parts i.staged i.noted.items c.self.invariant
