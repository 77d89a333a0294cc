use Rattle.std.proofs.Common.{◌+◌, ◌∙◌, sym, ap, subst, arith, if◌then◌else◌}
use Rattle.std.specs.Result.{is_ok}
use Rattle.std.specs.List.{insert}
use Rattle.std.proofs.lemmas.Option.{slice_get_within}
use Rattle.std.proofs.lemmas.List.Sums.{prefix_len-le-length}
use Rattle.rmt_model.specs.BlockNumbers.{next_number, with_next}
use Rattle.rmt_history.specs.Mutations.{AreInOrder}
use Rattle.rmt_history.proofs.NumberLemmas.{is_early}
use Rattle.rmt_partitions.specs.NumbersInOrder.{NumbersInOrder, StandsAt, BelongsAt}
use Rattle.rmt_partitions.proofs.NextLemmas.{stands-next, stands-set, belongs-insert, order-next}
use Rattle.rmt_partitions.proofs.partitions.Partitions.take.Goals as goal

pub overflow_add-number : goal.overflow_add-number
overflow_add-number c =
    let v = ap (λ (n : NumbersInOrder). next_number n.numbers c.args.partition) c.self.view_is in
    let e = stands-next _ c.self.inside.numbers.items c.args.partition c.in-Ok.at c.index.result.now c.self.invariant c.in-Ok.ensures c.deref.ensures.value c.index.ensures in
    let s = c.requires.small in
    omega (arith, v, e, s)

pub index_mut-requires : goal.index_mut-requires
index_mut-requires c =
    let s : StandsAt c.deref.result.now c.args.partition c.in-Ok.at = c.in-Ok.ensures in
    let w = slice_get_within c.deref.result.now c.in-Ok.at (c.args.partition, s.number) s.stands in
    let l = c.deref.ensures.len in
    omega (arith, w, l)

pub invariant_of-self : goal.invariant_of-self
invariant_of-self c =
    let e = stands-set _ c.self.inside.numbers.items c.args.partition c.in-Ok.at c.index.result.now c.self.invariant c.in-Ok.ensures c.deref.ensures.value c.index.ensures in
    subst AreInOrder (sym e) (order-next c.self.inside.numbers.items c.args.partition _ c.self.invariant)

pub insert-requires : goal.insert-requires
insert-requires c =
    let s : BelongsAt c.deref.result.now c.args.partition c.in-Err.at = c.in-Err.ensures in
    let f = s.first in
    let w = prefix_len-le-length (is_early c.args.partition) c.deref.result.now in
    let l = c.deref.ensures.len in
    omega (arith, f, w, l)

pub invariant_of-self-in-Err : goal.invariant_of-self-in-Err
invariant_of-self-in-Err c =
    let i = c.insert.ensures.items ∙ ap (λ r. if is_ok r then insert c.self.inside.numbers.items c.in-Err.at (c.args.partition, 1) else c.self.inside.numbers.items) c.unwrap.ensures in
    let e = i ∙ belongs-insert _ c.self.inside.numbers.items c.args.partition c.in-Err.at c.in-Err.ensures c.deref.ensures.value in
    subst AreInOrder (sym e) (order-next c.self.inside.numbers.items c.args.partition _ c.self.invariant)

pub returns-in-Ok : goal.returns-in-Ok
returns-in-Ok c =
    let v = ap (λ (n : NumbersInOrder). with_next n.numbers c.args.partition (next_number n.numbers c.args.partition + 1)) c.self.view_is in
    stands-set _ c.self.inside.numbers.items c.args.partition c.in-Ok.at c.index.result.now c.self.invariant c.in-Ok.ensures c.deref.ensures.value c.index.ensures ∙ v

pub returns-in-Err : goal.returns-in-Err
returns-in-Err c =
    let v = ap (λ (n : NumbersInOrder). with_next n.numbers c.args.partition (next_number n.numbers c.args.partition + 1)) c.self.view_is in
    let i = c.insert.ensures.items ∙ ap (λ r. if is_ok r then insert c.self.inside.numbers.items c.in-Err.at (c.args.partition, 1) else c.self.inside.numbers.items) c.unwrap.ensures in
    i ∙ belongs-insert _ c.self.inside.numbers.items c.args.partition c.in-Err.at c.in-Err.ensures c.deref.ensures.value ∙ v
