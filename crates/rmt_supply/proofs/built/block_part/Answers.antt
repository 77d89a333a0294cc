use Rattle.std.proofs.Common.{◌<◌, ◌^◌, length, subst}
use Rattle.std.specs.Arc.{arc_value}
use Rattle.rmt_block.specs.Blocks.{BlockView}
use Rattle.rmt_supply.proofs.StagedParts.{block-small}
use Rattle.rmt_supply.proofs.built.block_part.Goals as goal

pub returns-clause-few_rows : goal.returns-clause-few_rows
returns-clause-few_rows c =
    block-small (arc_value c.args.schema.now) c.args.get (arc_value c.args.block) c.in_ok-part.part (arc_value c.in_ok-shared.shared) c.in_ok-part.ensures c.in_ok-shared.ensures.ok
    (subst (λ (b : BlockView). length b.rows < 2 ^ 32) c.deref.ensures c.len-len.ensures.sound.rows.few_rows)
