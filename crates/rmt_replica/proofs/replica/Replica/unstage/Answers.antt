use Rattle.std.proofs.Common.{sym, subst}
use Rattle.rmt_replica.specs.declared.block_number.BlockNumber.{BlockNumber}
use Rattle.rmt_replica.specs.StagedBlocks.{AreStaged}
use Rattle.rmt_replica.proofs.StagedOrder.{staged-without}
use Rattle.rmt_replica.proofs.ReplicaLemmas.{replica-staged}
use Rattle.rmt_replica.proofs.replica.Replica.unstage.Goals as goal

pub invariant_of-self : goal.invariant_of-self
invariant_of-self c =
    let i = c.self.inside in
    let at : BlockNumber = record { partition = c.args.partition; number = c.args.number } in
    replica-staged i.number i.up i.fetches i.copy i.queue i.parts.parts i.staged c.take.new.self i.noted.items c.self.invariant
    (subst AreStaged (sym c.take.ensures) (staged-without i.staged at c.self.invariant.standing.waiting))
