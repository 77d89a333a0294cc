use Rattle.std.proofs.Common.{◌∙◌}
use Rattle.rmt_compact.proofs.TokensFit.{kinds-there}
use Rattle.rmt_compact.proofs.block_part.sorted_data.Goals as goal

pub from_unsorted_rows-requires-2-clause-kinds : goal.from_unsorted_rows-requires-2-clause-kinds
from_unsorted_rows-requires-2-clause-kinds c =
    kinds-there c.args.schema.now.columns c.args.rows.now.kinds c.args.rows.now.rows c.len.ensures.typed c.requires (λ e. c.if-len-eq0.false (c.len.ensures.count ∙ e))
