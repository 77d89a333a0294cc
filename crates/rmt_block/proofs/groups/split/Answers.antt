use Rattle.std.proofs.Common.{List, subst, sym}
use Rattle.rmt_block.specs.Blocks.{BlockView}
use Rattle.rmt_block.specs.Splits.{IsSplit}
use Rattle.rmt_block.proofs.SplitLemmas.{IsGroup-all, IsSplit-groups}
use Rattle.rmt_block.proofs.groups.split.Goals as goal

pub blocks_of-requires-clause-groups : goal.blocks_of-requires-clause-groups
blocks_of-requires-clause-groups c =
    IsGroup-all c.args.schema.now.columns c.args.schema.now.partition c.args.rows.rows c.in_ok-groups.groups c.requires.fit c.requires.few_rows
    c.in_ok-groups.ensures

pub returns : goal.returns
returns c =
    subst (λ (blocks : List BlockView). IsSplit c.args.schema.now c.args.rows.rows blocks) (sym c.in_ok-blocks.ensures)
    (IsSplit-groups c.args.schema.now c.args.rows.rows c.in_ok-groups.groups c.in_ok-groups.ensures)
