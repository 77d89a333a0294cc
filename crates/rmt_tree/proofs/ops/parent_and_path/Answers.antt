use Rattle.std.proofs.Common.{rules}
use Rattle.rmt_tree.proofs.ops.parent_and_path.Goals as goal

pub returns-in_err-above-clause-refused : goal.returns-in_err-above-clause-refused
returns-in_err-above-clause-refused c = let refused = c.in_err-above.ensures.refused c.args.sequential in search rules
