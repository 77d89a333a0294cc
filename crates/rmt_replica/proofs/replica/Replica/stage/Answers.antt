use Rattle.std.proofs.Common.{◌∙◌, sym, subst, ap}
use Rattle.std.specs.Arc.{arc_value}
use Rattle.rmt_block.specs.Blocks.{BlockView}
use Rattle.rmt_replica.specs.declared.block_number.BlockNumber.{BlockNumber}
use Rattle.rmt_replica.specs.StagedBlocks.{AreStaged}
use Rattle.rmt_replica.proofs.StagedOrder.{staged-with}
use Rattle.rmt_replica.proofs.ReplicaLemmas.{replica-staged}
use Rattle.rmt_replica.proofs.replica.Replica.stage.Goals as goal

pub invariant_of-self-2 : goal.invariant_of-self-2
invariant_of-self-2 c =
    let i = c.self.inside in
    let own = c.partition-partition.ensures ∙ ap (λ (b : BlockView). b.partition) c.deref.ensures in
    let at : BlockNumber = record { partition = c.partition-partition.result; number = c.args.number } in
    replica-staged i.number i.up i.fetches i.copy i.queue i.parts.parts i.staged c.put.new.self i.noted.items c.self.invariant
    (subst AreStaged (sym c.in_ok-put.ensures.ok) (staged-with i.staged at (arc_value c.args.block) own c.self.invariant.standing.waiting))
