use Rattle.std.proofs.Common.{◌∷◌, ◌++◌, [], ℕ, ◌+◌, List, sym, ap, ◌∙◌, subst}
use Rattle.rmt_granules.specs.Granules.{PartView}
use Rattle.rmt_names.specs.Names.{Name}
use Rattle.rmt_query.specs.Explained.{IsCounted, AreExplained}
use Rattle.rmt_query.proofs.Counting.{FirstExplained, explained-more}
use Rattle.rmt_query.proofs.granule_counts.granules_of.Goals as goal

pub parts-init : goal.parts-init
parts-init c = subst (λ (ns : List (Name × ℕ × ℕ)). AreExplained c.args.filter.now [] [] ns) (sym c.in_ok-all.ensures.items) tt

pub parts-preserved : goal.parts-preserved
parts-preserved c =
    let filter = c.args.filter.now in
    let parts = c.args.parts.now in
    let count = subst (λ (p : PartView). IsCounted filter p c.in_ok-count.count) (c.deref.ensures ∙ c.data.ensures) c.in_ok-count.ensures in
    subst (λ (ns : List (Name × ℕ × ℕ)). FirstExplained filter parts (c.parts.part-index + 1) ns)
    (ap (λ (a : Name). c.parts.all.items ++ (a, c.in_ok-count.count.0, c.in_ok-count.count.1) ∷ []) (sym c.name.ensures) ∙ sym c.in_ok-push.ensures.items)
    (explained-more filter parts c.parts.part-index c.part-item.result c.parts.all.items c.in_ok-count.count c.parts-test.true c.part-item.is c.parts.invariant count)
