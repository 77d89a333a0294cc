use Rattle.std.proofs.Common.{◌∙◌, ap}
use Rattle.rmt_columns.specs.RowsByColumn.{kinds_in}
use Rattle.rmt_block.proofs.BlockLemmas.{RowsFit-kinds_in}
use Rattle.rmt_block.proofs.block.Block.new.Goals as goal

pub of_kinds-requires-clause-fit : goal.of_kinds-requires-clause-fit
of_kinds-requires-clause-fit c =
    RowsFit-kinds_in c.args.schema.now.columns c.in_ok-kinds.kinds.items c.args.rows.rows (c.in_ok-kinds.ensures ∙ ap kinds_in c.columns.ensures.value) c.requires.fit
