use Rattle.std.proofs.Common.{◌∙◌, sym, ap}
use Rattle.rmt_history.specs.Mutations.{number_among}
use Rattle.rmt_partitions.specs.NumbersInOrder.{NumbersInOrder}
use Rattle.rmt_partitions.proofs.NextLemmas.{stands-number}
use Rattle.rmt_partitions.proofs.partitions.Partitions.number.Goals as goal

pub returns-in-Ok : goal.returns-in-Ok
returns-in-Ok c =
    let v = ap (λ (n : NumbersInOrder). number_among n.numbers c.args.partition) c.self.view_is in
    sym (sym v ∙ stands-number _ c.self.inside.numbers.items c.args.partition c.in-Ok.at c.index.result.now c.self.invariant c.in-Ok.ensures c.deref.ensures.value c.index.ensures)
