use Rattle.std.proofs.Common.{◌∙◌, ap}
use Rattle.std.specs.Arc.{arc_value}
use Rattle.rmt_part.specs.Lineages.{PartValue}
use Rattle.rmt_compact.proofs.GatheredLemmas.{blocks-next}
use Rattle.rmt_compact.proofs.gathered.blocks.Goals as goal

pub parts-preserved : goal.parts-preserved
parts-preserved c =
    blocks-next arc_value c.args.parts.now c.parts.part-index c.part-item.result c.parts.all.items _ _ c.parts.invariant c.part-item.is c.parts-test.true
    (c.blocks-blocks.ensures ∙ ap (λ (p : PartValue). p.blocks) c.deref.ensures) c.in_ok-push_blocks.ensures
