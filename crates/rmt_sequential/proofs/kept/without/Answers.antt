use Rattle.std.proofs.Common.{◌≤◌, ◌∙◌, List, length, filter, ap, subst, sym}
use Rattle.std.proofs.lemmas.List.{take_all}
use Rattle.rmt_partset.specs.Snapshots.{NamedData, AreInOrder}
use Rattle.rmt_sequential.proofs.KeptParts.{is_kept, order-kept}
use Rattle.rmt_sequential.proofs.kept.without.Goals as goal

pub of-requires : goal.of-requires
of-requires c =
    subst AreInOrder (sym (c.parts.invariant ∙ ap (filter (is_kept c.args.part.now)) (take_all c.parts.one-index c.args.parts.now (subst (λ (xs : List NamedData). length xs ≤ c.parts.one-index) c.parts-one-items.ensures.all c.parts-test.false))))
    (order-kept c.args.part.now c.args.parts.now c.parts-one-items.ensures.order)
