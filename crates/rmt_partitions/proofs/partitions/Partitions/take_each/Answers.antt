use Rattle.std.proofs.Common.{subst, sym}
use Rattle.rmt_history.specs.Mutations.{AreInOrder}
use Rattle.rmt_partitions.proofs.NextLemmas.{order-after, written-after}
use Rattle.rmt_partitions.proofs.partitions.Partitions.take_each.Goals as goal

pub invariant_of-self : goal.invariant_of-self
invariant_of-self c =
    subst AreInOrder (sym (written-after c.self.inside.numbers.items _ c.count_up.new.pairs _ c.deref_mut.ensures.value c.deref_mut.ensures.len c.count_up.ensures))
    (order-after c.self.inside.numbers.items c.self.invariant)
